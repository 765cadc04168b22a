use Rattle.std.proofs.Common.{◌≡◌, take}
use Rattle.log_readers.proofs.readers.copied.Given as goal

-- the slots so far
abbrev pub invariant-loop-numbers : goal.invariant-loop-numbers
invariant-loop-numbers l = l.copy.items ≡ take l.numbers-index l.slots
