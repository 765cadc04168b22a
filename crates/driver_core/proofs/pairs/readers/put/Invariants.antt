use Rattle.std.proofs.Common.{◌≡◌, take}
use Rattle.driver_core.proofs.pairs.readers.put.Given as goal

-- the numbers so far
abbrev pub invariant-loop-number : goal.invariant-loop-number
invariant-loop-number l = l.room ≡ take l.number-index l.numbers
