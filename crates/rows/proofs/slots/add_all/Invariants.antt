use Rattle.std.proofs.Common.{◌≡◌, ◌≤◌, ◌++◌, take}
use Rattle.std.specs.Vec.{vec_capacity}
use Rattle.rows.proofs.slots.add_all.Given as goal

-- twins of the others before this one stand behind the rows
abbrev pub invariant-loop-other : goal.invariant-loop-other
invariant-loop-other g l =
    (l.slots.items ≡ l.initial.slots.items ++ take l.other-index l.others)
    × (vec_capacity l.initial.slots ≤ vec_capacity l.slots)
