use Rattle.std.proofs.Common.{◌≡◌, List, ◌++◌, length}
use Rattle.std.specs.String.{string_bytes}
use Rattle.policy_table.specs.Printed.{rows_after}
use Rattle.policy_table.specs.Rows.{AreLines, Row, entries_left}
use Rattle.policy_table.proofs.table.Table.page.Given as goal

-- the text is a line for each row before the place
abbrev pub invariant-loop-alloc : goal.invariant-loop-alloc
invariant-loop-alloc l =
    (rows : List Row) × AreLines rows (string_bytes l.text) × (rows_after l.self l.fn.from ≡ rows ++ rows_after l.self l.next)

abbrev pub decreases-loop-alloc : goal.decreases-loop-alloc
decreases-loop-alloc l = length (entries_left l.self.source.policy.rules l.self.groups.items l.next.group l.next.low)
