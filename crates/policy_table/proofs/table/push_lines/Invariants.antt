use Rattle.std.proofs.Common.{take}
use Rattle.std.specs.String.{string_bytes}
use Rattle.policy_table.specs.Rows.{AddsLines, entry_of, entry_rows}
use Rattle.policy_table.proofs.table.push_lines.Given as goal

-- the lines of the rules so far
abbrev pub invariant-loop-place : goal.invariant-loop-place
invariant-loop-place l = AddsLines (take l.place-index (entry_rows (entry_of l.step))) (string_bytes l.initial.text) (string_bytes l.text)
