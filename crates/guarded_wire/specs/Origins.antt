-- From where datagrams may come. Own rules.
use Rattle.std.specs.Prelude.{ℕ, Bool, false, List, Option, Some, None}
use Rattle.std.specs.List.{position}
use Rattle.std.specs.Str.{bytes_eq}
use Rattle.channel_uri.specs.Address.{is_same}
use Rattle.channel_uri.specs.declared.address.Address.{Address as From}
use Rattle.guarded_wire.specs.declared.origin.Origin.{Origin}
use Rattle.guarded_wire.specs.declared.origin.Origin.TheVariants.{Address, Host}

-- that very address
abbrev pub is_address : From → Origin → Bool
is_address from (Address own) = is_same own from
is_address from (Host octets) = false

-- its host, whatever the port is
abbrev pub is_host : From → Origin → Bool
is_host from (Address own) = false
is_host from (Host octets) = bytes_eq octets from.octets

abbrev pub first_of : Option ℕ → Option ℕ → Option ℕ
first_of (Some place) other = Some place
first_of None other = other

-- where an address stands, which is bound there: the address itself counts before its host
abbrev pub place_of : From → List Origin → Option ℕ
place_of from origins = first_of (position (is_address from) origins) (position (is_host from) origins)
