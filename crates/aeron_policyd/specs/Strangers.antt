-- From where datagrams may come, as the words of the command line say. Own rules.
use Rattle.std.specs.Prelude.{◌≡◌, ◌++◌, ℕ, Bool, false, List, Option, Some, None, codes, map}
use Rattle.std.specs.Str.{bytes_eq}
use Rattle.driver_core.specs.declared.state.peer.Peer.{Peer}
use Rattle.guarded_wire.specs.declared.origin.Origin.{Origin}
use Rattle.guarded_wire.specs.declared.origin.Origin.TheVariants.{Address}

-- whether strangers are dropped
abbrev pub says_drop : Option (List ℕ) → Bool
says_drop None = false
says_drop (Some word) = bytes_eq word (codes "drop")

-- how many NAKs and status messages one address may send in the time
abbrev pub asks_of : Option ℕ → ℕ
asks_of None = 2048
asks_of (Some asks) = asks

-- who sends from the address of a peer is bound
abbrev pub bound_address : Peer → Origin
bound_address peer = Address peer.address

-- behind hosts stand all peers, and nobody else
abbrev pub HasPeers : List Origin → List Peer → Type 0
HasPeers origins peers = (hosts : List Origin) × (origins ≡ hosts ++ map bound_address peers)
