use Rattle.std.proofs.Common.{◌≡◌, ◌++◌, List, ℕ, [], take, drop, map}
use Rattle.log_readers.proofs.readers.empty_all.Given as goal

-- the rows before this one are empty, the others are as they were
abbrev pub invariant-loop-numbers : goal.invariant-loop-numbers
invariant-loop-numbers l =
    l.slots ≡ map (λ (numbers : List ℕ). []) (take l.numbers-index l.initial.slots) ++ drop l.numbers-index l.initial.slots
