use Rattle.std.proofs.Common.{◌≡◌}
use Rattle.policy_table.specs.Lane.{left_of, parts_from}
use Rattle.policy_table.specs.Rows.{alike, are_like}
use Rattle.policy_table.proofs.groups.are_alike.Given as goal

-- what is left of the two decides
abbrev pub invariant-loop-first : goal.invariant-loop-first
invariant-loop-first l = are_like (parts_from l.rules l.asker l.one l.low) (parts_from l.rules l.asker l.other l.low) ≡ alike l.rules l.asker l.one l.other

abbrev pub decreases-loop-first : goal.decreases-loop-first
decreases-loop-first l = left_of l.low
