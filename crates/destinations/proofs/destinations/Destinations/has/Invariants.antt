use Rattle.std.proofs.Common.{◌≡◌, drop}
use Rattle.destinations.specs.Destinations.{has}
use Rattle.destinations.proofs.destinations.Destinations.has.Given as goal

-- the destinations that are left decide
abbrev pub invariant-loop-destination : goal.invariant-loop-destination
invariant-loop-destination l = has (drop l.destination-index l.self.rows) l.source l.address ≡ has l.self.rows l.source l.address
