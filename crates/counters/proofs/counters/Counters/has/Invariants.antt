use Rattle.std.proofs.Common.{◌≡◌, drop}
use Rattle.counters.specs.Counters.{has}
use Rattle.counters.proofs.counters.Counters.has.Given as goal

-- the counters that are left decide
abbrev pub invariant-loop-counter : goal.invariant-loop-counter
invariant-loop-counter l = has (drop l.counter-index l.self) l.client l.number ≡ has l.self l.client l.number
