use Rattle.std.proofs.Common.{◌≡◌, ◌++◌, take, drop, map}
use Rattle.rows.proofs.slots.change_first.Given as goal

-- the rows before this one are changed, the others are as they were
abbrev pub invariant-loop-at : goal.invariant-loop-at
invariant-loop-at g l =
    l.slots ≡ map (g.S.Change.changed l.change) (take l.at l.initial.slots) ++ drop l.at l.initial.slots
