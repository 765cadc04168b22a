use Rattle.std.proofs.Common.{◌≡◌, drop}
use Rattle.receiver_reports.specs.Reports.{greatest_of}
use Rattle.receiver_reports.proofs.reports.greatest_of.Given as goal

-- the rows that are left decide
abbrev pub invariant-loop-row : goal.invariant-loop-row
invariant-loop-row l = greatest_of l.from l.greatest (drop l.row-index l.rows) ≡ greatest_of l.from l.first l.rows
