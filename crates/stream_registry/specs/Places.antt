-- Which places are the same, and which medium a channel is of.
use Rattle.std.specs.Prelude.{Bool, true, false, ◌==◌, Option, Some}
use Rattle.std.specs.Str.{bytes_eq}
use Rattle.channel_uri.specs.declared.media.Media.{Media}
use Rattle.channel_uri.specs.declared.media.Media.TheVariants.{Udp, Ipc, Counter}
use Rattle.channel_uri.specs.Channel.{Shape}
use Rattle.channel_uri.specs.Media.{media_number}
use Rattle.channel_uri.specs.Place.{Spot, AtIpc, AtManual, AtControl, AtEndpoint, spot_of}

abbrev pub is_same_spot : Spot → Spot → Bool
is_same_spot AtIpc AtIpc = true
is_same_spot AtManual AtManual = true
is_same_spot (AtControl address) (AtControl other) = bytes_eq address other
is_same_spot (AtEndpoint address) (AtEndpoint other) = bytes_eq address other
is_same_spot spot other = false

abbrev pub are_same : Option Spot → Option Spot → Bool
are_same (Some spot) (Some other) = is_same_spot spot other
are_same spot other = false

-- both channels name the same place
unfoldable pub is_same_place : Shape → Shape → Bool
is_same_place channel other = are_same (spot_of channel) (spot_of other)

abbrev pub is_manual_spot : Option Spot → Bool
is_manual_spot (Some AtManual) = true
is_manual_spot spot = false

-- the destinations are named by hand, which is so over `udp` alone
unfoldable pub is_manual : Shape → Bool
is_manual channel = is_manual_spot (spot_of channel)

abbrev pub is_dynamic_spot : Option Spot → Bool
is_dynamic_spot (Some (AtControl address)) = true
is_dynamic_spot spot = false

-- the destinations are learnt from status messages, which is so over `udp` alone
unfoldable pub is_dynamic : Shape → Bool
is_dynamic channel = is_dynamic_spot (spot_of channel)

abbrev pub is_same_media : Media → Media → Bool
is_same_media media other = media_number media == media_number other

abbrev pub is_udp : Media → Bool
is_udp Udp = true
is_udp Ipc = false
is_udp Counter = false

abbrev pub is_ipc : Media → Bool
is_ipc Ipc = true
is_ipc Udp = false
is_ipc Counter = false
