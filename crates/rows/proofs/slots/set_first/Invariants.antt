use Rattle.std.proofs.Common.{◌≡◌, take}
use Rattle.rows.proofs.slots.set_first.Given as goal

-- the items before this one are equal to the others
abbrev pub invariant-loop-at : goal.invariant-loop-at
invariant-loop-at g l = take l.at l.slots ≡ take l.at l.others
