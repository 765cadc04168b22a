use Rattle.std.proofs.Common.{◌≡◌, drop}
use Rattle.std.specs.List.{fold}
use Rattle.receiver_reports.specs.Reports.{least_of, lesser}
use Rattle.receiver_reports.proofs.reports.Reports.least.Given as goal

-- the rows that are left decide
abbrev pub invariant-loop-row : goal.invariant-loop-row
invariant-loop-row l = fold (lesser l.now l.timeout) l.least (drop l.row-index l.self) ≡ least_of l.now l.timeout l.self
