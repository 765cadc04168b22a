use Rattle.std.proofs.Common.{◌≡◌, drop}
use Rattle.destinations.specs.Destinations.{of}
use Rattle.driver_core.specs.SendRequests.{first_number}
use Rattle.driver_core.proofs.state.registry.Registry.first_number.Given as goal

-- the destinations that are left decide
abbrev pub invariant-loop-destination : goal.invariant-loop-destination
invariant-loop-destination l =
    first_number (of (drop l.destination-index l.destination-items) l.source) ≡ first_number (of l.destination-items l.source)
