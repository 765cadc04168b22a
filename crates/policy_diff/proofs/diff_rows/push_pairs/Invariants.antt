use Rattle.policy_diff.specs.Adding.{Adds}
use Rattle.policy_diff.proofs.AddingLemmas.{IsOfFirst}
use Rattle.policy_diff.proofs.diff_rows.push_pairs.Given as goal

-- the rows of the pairs so far are added
abbrev pub invariant-loop-at : goal.invariant-loop-at
invariant-loop-at l = Adds l.old.policy l.new.policy (IsOfFirst l.old.policy l.new.policy l.pairs l.at) l.initial.rows.items l.rows.items
