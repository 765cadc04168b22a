-- Addresses (Aeron wiki, channel configuration: `endpoint`, `control`): four numbers with dots between them, `:`, a port.
use Rattle.std.specs.Prelude.{◌≡◌, ℕ, ◌<◌, ◌≤◌, ◌==◌, ◌&&◌, Bool, List, [], ◌∷◌, ◌++◌, Option, Some, None, nat_eq, nat_le, nat_lt, length, slice_index, codes, if◌then◌else◌}
use Rattle.std.specs.Fmt.{decimal}
use Rattle.std.specs.List.{AllByRecursion, starts_with}
use Rattle.std.specs.Net.Text.{ipv4_text}
use Rattle.std.specs.Str.{bytes_eq}
use Rattle.channel_uri.specs.declared.address.Address.{Address}
use Rattle.channel_uri.specs.Number.{◌>>?◌, decimal_of, below}
use Rattle.channel_uri.specs.Syntax.{cut}

-- addresses are equal by their numbers and their ports
abbrev pub is_same : Address → Address → Bool
is_same a b = bytes_eq a.octets b.octets && (a.port == b.port)

-- a decimal below the limit that begins with no zero but `0` itself
abbrev pub plain_below : ℕ → List ℕ → Option ℕ
plain_below limit text =
    if nat_lt 1 (length text)
    then if starts_with nat_eq text (codes "0") then None else below limit (decimal_of text)
    else below limit (decimal_of text)

-- the first of the four numbers: from 224 to 239 it stands for a group of hosts
abbrev pub first_octet_of : List ℕ → Option ℕ
first_octet_of text = plain_below 256 text >>? λ octet.
    if nat_le 224 octet then if nat_le octet 239 then None else Some octet else Some octet

-- four numbers with dots between them
abbrev pub octets_of : List ℕ → Option (List ℕ)
octets_of host =
    cut 46 host >>? λ first.
    cut 46 first.1 >>? λ second.
    cut 46 second.1 >>? λ third.
    first_octet_of first.0 >>? λ a.
    plain_below 256 second.0 >>? λ b.
    plain_below 256 third.0 >>? λ c.
    plain_below 256 third.1 >>? λ d.
    Some (a ∷ b ∷ c ∷ d ∷ [])

-- from 1 to 65535
abbrev pub port_of : List ℕ → Option ℕ
port_of text = plain_below 65536 text >>? λ port. if port == 0 then None else Some port

-- the address that the text is
unfoldable pub address_of : List ℕ → Option Address
address_of text =
    cut 58 text >>? λ sides.
    octets_of sides.0 >>? λ octets.
    port_of sides.1 >>? λ port.
    Some (record { octets = octets; port = port })

-- an address as it is written
abbrev pub address_text : Address → List ℕ
address_text address = ipv4_text address.octets ++ (codes ":" ++ decimal address.port)

-- a text that is an address is what the address is written as: two texts of one address are equal
abbrev pub AddressesHaveOneText : Type 0
AddressesHaveOneText = (text : List ℕ) (address : Address) → address_of text ≡ Some address → text ≡ address_text address

-- an address that a channel may name: four bytes, not of a group of hosts, and a port that can be sent to
pub record IsEndpoint (address : Address) : Type 0 where
  pub four : length address.octets ≡ 4
  pub bytes : AllByRecursion (λ octet. octet < 256) address.octets
  pub one_host : 224 ≤ slice_index address.octets 0 → slice_index address.octets 0 ≤ 239 → ⊥
  pub some_port : 1 ≤ address.port
  pub port_fits : address.port < 65536

-- such an address is read back from what it is written as, and no text is another address
pub record AddressesAreReadBack : Type 0 where
  pub read_back : (address : Address) → IsEndpoint address → address_of (address_text address) ≡ Some address
  pub no_other : (text : List ℕ) (address : Address) → address_of text ≡ Some address → IsEndpoint address
