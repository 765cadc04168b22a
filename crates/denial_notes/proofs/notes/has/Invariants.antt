use Rattle.std.proofs.Common.{◌≡◌, drop}
use Rattle.denial_notes.specs.Notes.{has}
use Rattle.denial_notes.proofs.notes.has.Given as goal

-- the rows that are left decide
abbrev pub invariant-loop-row : goal.invariant-loop-row
invariant-loop-row l = has l.denial (drop l.row-index l.rows) ≡ has l.denial l.rows
