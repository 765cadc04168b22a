use Rattle.std.proofs.Common.{◌≡◌, drop}
use Rattle.service_bounds.specs.Flights.{removal_of}
use Rattle.service_bounds.proofs.flights.removal_of.Given as goal

-- the commands that are left decide
abbrev pub invariant-loop-flight : goal.invariant-loop-flight
invariant-loop-flight l = removal_of l.client l.correlation (drop l.flight-index l.flights) ≡ removal_of l.client l.correlation l.flights
