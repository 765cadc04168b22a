use Rattle.std.proofs.Common.{◌≡◌, ◌++◌}
use Rattle.policy_diff.proofs.DiffLemmas.{rows_to}
use Rattle.policy_diff.proofs.pairs.push_rows.Given as goal

-- the rows with the rules of the new policy so far
abbrev pub invariant-loop-at : goal.invariant-loop-at
invariant-loop-at l = l.rows.items ≡ l.initial.rows.items ++ rows_to l.old.policy l.new.policy l.decider l.at
