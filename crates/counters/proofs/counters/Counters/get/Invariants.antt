use Rattle.std.proofs.Common.{◌≡◌, drop}
use Rattle.counters.specs.Counters.{counter_at}
use Rattle.counters.proofs.counters.Counters.get.Given as goal

-- the counters that are left decide
abbrev pub invariant-loop-counter : goal.invariant-loop-counter
invariant-loop-counter l = counter_at (drop l.counter-index l.self) l.number ≡ counter_at l.self l.number
