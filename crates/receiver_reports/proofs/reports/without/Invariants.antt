use Rattle.std.proofs.Common.{◌≡◌, filter, take}
use Rattle.receiver_reports.specs.Reports.{is_other}
use Rattle.receiver_reports.proofs.reports.without.Given as goal

-- the others of the rows so far are kept
abbrev pub invariant-loop-row : goal.invariant-loop-row
invariant-loop-row l = l.others.items ≡ filter (is_other l.from) (take l.row-index l.rows)
