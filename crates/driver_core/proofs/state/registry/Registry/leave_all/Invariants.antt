use Rattle.std.proofs.Common.{◌≡◌, drop}
use Rattle.driver_core.specs.Leaving.{all_left}
use Rattle.driver_core.proofs.state.registry.Registry.leave_all.Given as goal

-- once those that are left go too, all are gone
abbrev pub invariant-loop-client : goal.invariant-loop-client
invariant-loop-client l = all_left l.self (drop l.client-index l.clients) ≡ all_left l.initial.self l.clients
