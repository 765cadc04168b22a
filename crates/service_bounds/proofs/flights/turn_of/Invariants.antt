use Rattle.std.proofs.Common.{◌≡◌, drop}
use Rattle.service_bounds.specs.Flights.{turn_of}
use Rattle.service_bounds.proofs.flights.turn_of.Given as goal

-- the commands that are left decide
abbrev pub invariant-loop-flight : goal.invariant-loop-flight
invariant-loop-flight l = turn_of l.client l.correlation (drop l.flight-index l.flights) ≡ turn_of l.client l.correlation l.flights
