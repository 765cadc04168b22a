use Rattle.std.proofs.Common.{◌≡◌, ◌++◌, drop, map}
use Rattle.driver_core.specs.Ticking.{timeout_of}
use Rattle.driver_core.proofs.rules.ticking.timeouts.Given as goal

-- the replies so far, and then those to the clients that are left
abbrev pub invariant-loop-client : goal.invariant-loop-client
invariant-loop-client l = l.replies ++ map timeout_of (drop l.client-index l.clients) ≡ map timeout_of l.clients
