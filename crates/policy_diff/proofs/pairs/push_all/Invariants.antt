use Rattle.std.proofs.Common.{◌≡◌, ◌++◌}
use Rattle.policy_diff.proofs.DiffLemmas.{all_to}
use Rattle.policy_diff.proofs.pairs.push_all.Given as goal

-- the rows of the rules of the old policy so far
abbrev pub invariant-loop-at : goal.invariant-loop-at
invariant-loop-at l = l.rows.items ≡ l.initial.rows.items ++ all_to l.old.policy l.new.policy l.at
