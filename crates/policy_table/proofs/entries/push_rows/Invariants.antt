use Rattle.std.proofs.Common.{◌≡◌, ◌++◌, map, take}
use Rattle.policy_table.specs.Printed.{row_of}
use Rattle.policy_table.specs.Rows.{entry_of, entry_rows}
use Rattle.policy_table.proofs.entries.push_rows.Given as goal

-- the rows of the rules so far
abbrev pub invariant-loop-place : goal.invariant-loop-place
invariant-loop-place l = map row_of l.rows.items ≡ map row_of l.initial.rows.items ++ take l.place-index (entry_rows (entry_of l.step))
