use Rattle.std.proofs.Common.{◌≡◌, drop}
use Rattle.driver_core.specs.PublicationRequests.{principal_at}
use Rattle.driver_core.proofs.asked.publication_request.principal_at.Given as goal

-- the peers that are left decide
abbrev pub invariant-loop-peer : goal.invariant-loop-peer
invariant-loop-peer l = principal_at (drop l.peer-index l.peers) l.address ≡ principal_at l.peers l.address
