use Rattle.std.proofs.Common.{◌≡◌, ◌++◌, map, take}
use Rattle.aeron_policyd.specs.Strangers.{bound_address}
use Rattle.aeron_policyd.proofs.strangers.add_peers.Given as goal

abbrev pub invariant-loop-peer : goal.invariant-loop-peer
invariant-loop-peer l = l.origins.items ≡ l.fn.origins.items ++ map bound_address (take l.peer-index l.peers)
