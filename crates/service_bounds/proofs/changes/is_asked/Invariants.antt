use Rattle.std.proofs.Common.{◌≡◌, drop}
use Rattle.service_bounds.specs.Changes.{is_asked}
use Rattle.service_bounds.proofs.changes.is_asked.Given as goal

-- the rows that are left decide
abbrev pub invariant-loop-row : goal.invariant-loop-row
invariant-loop-row l = is_asked l.client l.correlation (drop l.row-index l.rows) ≡ is_asked l.client l.correlation l.rows
