-- Where the channel of an address is.
use Rattle.std.proofs.Common.{◌≡◌, ℕ, ◌==◌, true, List, refl, ap, ap₂, ◌∙◌, arith}
use Rattle.std.specs.Str.{bytes_eq}
use Rattle.std.proofs.lemmas.Bool.{and_parts}
use Rattle.std.proofs.lemmas.Bool.Decides.{nat_tests}
use Rattle.std.proofs.lemmas.Slice.Eq.{bytes_eq-Decides}
use Rattle.channel_uri.specs.declared.address.Address.{Address}
use Rattle.channel_uri.specs.Address.{address_text, is_same}
use Rattle.channel_uri.specs.Channel.{Shape, endpoint_shape}
use Rattle.channel_uri.specs.Place.{is_at_text, spot_of}

abbrev address_from : List ℕ → ℕ → Address
address_from octets port = record { octets = octets; port = port }

same_addresses : (known address : Address) → is_same known address ≡ true → known ≡ address
same_addresses known address same =
    let parts = and_parts (bytes_eq known.octets address.octets) (known.port == address.port) same in
    let octets : known.octets ≡ address.octets = (bytes_eq-Decides known.octets address.octets).0 parts.0 in
    let port : known.port ≡ address.port = grind (arith, nat_tests, parts.1) in
    ap₂ address_from octets port

pub same_shapes : (channel : Shape) (known address : Address) → channel ≡ endpoint_shape known → is_same known address ≡ true →
    channel ≡ endpoint_shape address
same_shapes channel known address is same = is ∙ ap endpoint_shape (same_addresses known address same)

at_own : (address : Address) → is_at_text (address_text address) (spot_of (endpoint_shape address)) ≡ true
unfolding spot_of
at_own address = (bytes_eq-Decides (address_text address) (address_text address)).1 refl

pub known_place : (channel : Shape) (address : Address) → channel ≡ endpoint_shape address →
    is_at_text (address_text address) (spot_of channel) ≡ true
known_place channel address is = rw is (at_own address)
