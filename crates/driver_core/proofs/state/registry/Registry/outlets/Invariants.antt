use Rattle.std.proofs.Common.{◌≡◌, ◌++◌, drop, map}
use Rattle.destinations.specs.Destinations.{of}
use Rattle.driver_core.specs.SendRequests.{outlet_of}
use Rattle.driver_core.proofs.state.registry.Registry.outlets.Given as goal

-- what was put there so far, and then those of the destinations that are left
abbrev pub invariant-loop-destination : goal.invariant-loop-destination
invariant-loop-destination l =
    l.outlets ++ map (outlet_of l.self l.log) (of (drop l.destination-index l.self.destinations.rows) l.log.number)
    ≡ l.initial.outlets ++ map (outlet_of l.self l.log) (of l.self.destinations.rows l.log.number)
