use Rattle.std.proofs.Common.{◌≡◌, map, take}
use Rattle.denial_notes.specs.Notes.{counted_in}
use Rattle.denial_notes.proofs.notes.counted.Given as goal

-- the rows so far are counted
abbrev pub invariant-loop-row : goal.invariant-loop-row
invariant-loop-row l = l.counted.items ≡ map (counted_in l.denial) (take l.row-index l.rows)
