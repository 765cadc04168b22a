use Rattle.std.proofs.Common.{◌≡◌, take}
use Rattle.log_readers.proofs.readers.row_copied.Given as goal

-- the numbers so far
abbrev pub invariant-loop-number : goal.invariant-loop-number
invariant-loop-number l = l.row ≡ take l.number-index l.numbers
