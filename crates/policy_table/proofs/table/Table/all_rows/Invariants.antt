use Rattle.std.proofs.Common.{◌≡◌, ◌++◌, length, map}
use Rattle.policy_table.specs.Printed.{row_of, rows_after}
use Rattle.policy_table.specs.Rows.{entries_left, rows_of}
use Rattle.policy_table.proofs.table.Table.all_rows.Given as goal

-- with the rows that are left, those so far are all
abbrev pub invariant-loop-place : goal.invariant-loop-place
invariant-loop-place l = rows_of l.self.source.policy.rules l.self.groups.items ≡ map row_of l.rows.items ++ rows_after l.self l.place

abbrev pub decreases-loop-place : goal.decreases-loop-place
decreases-loop-place l = length (entries_left l.self.source.policy.rules l.self.groups.items l.place.group l.place.low)
