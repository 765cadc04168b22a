use Rattle.std.proofs.Common.{◌≡◌, ◌++◌, take, drop, map}
use Rattle.service_bounds.specs.Changes.{removed}
use Rattle.service_bounds.proofs.changes.remove_each.Given as goal

-- the rows before this one are changed, the others are as they were
abbrev pub invariant-loop-row : goal.invariant-loop-row
invariant-loop-row l = l.rows ≡ map (removed l.now l.client l.removal) (take l.row-index l.initial.rows) ++ drop l.row-index l.initial.rows
