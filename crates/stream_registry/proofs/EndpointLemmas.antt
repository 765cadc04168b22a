-- The place of the channel of an address.
use Rattle.std.proofs.Common.{◌≡◌, Some, None, Option, refl}
use Rattle.channel_uri.specs.declared.address.Address.{Address}
use Rattle.channel_uri.specs.Address.{address_text}
use Rattle.channel_uri.specs.Channel.{Shape, endpoint_shape}
use Rattle.channel_uri.specs.Place.{Spot, AtIpc, AtManual, AtControl, AtEndpoint, is_at_text, spot_of}
use Rattle.stream_registry.specs.Places.{are_same, is_same_place}

spots_same : (spot : Option Spot) (address : Address) →
    is_at_text (address_text address) spot ≡ are_same spot (Some (AtEndpoint (address_text address)))
spots_same None address = refl
spots_same (Some AtIpc) address = refl
spots_same (Some AtManual) address = refl
spots_same (Some (AtControl control)) address = refl
spots_same (Some (AtEndpoint endpoint)) address = refl

pub place_same : (channel : Shape) (address : Address) →
    is_at_text (address_text address) (spot_of channel) ≡ is_same_place channel (endpoint_shape address)
unfolding is_same_place spot_of
place_same channel address = spots_same (spot_of channel) address
