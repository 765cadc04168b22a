use Rattle.std.proofs.Common.{◌≡◌, ◌++◌, take, drop, map, filter}
use Rattle.log_readers.proofs.readers.keep_all.Given as goal

-- the rows before this one are kept in part, the others are as they were
abbrev pub invariant-loop-numbers : goal.invariant-loop-numbers
invariant-loop-numbers g l =
    l.slots ≡ map (filter (g.S.Test.keeps l.test)) (take l.numbers-index l.initial.slots) ++ drop l.numbers-index l.initial.slots
