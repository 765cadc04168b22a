use Rattle.std.proofs.Common.{take}
use Rattle.policy_diff.specs.Adding.{Adds}
use Rattle.policy_diff.proofs.AddingLemmas.{IsOfSome}
use Rattle.policy_diff.proofs.diff_rows.Pair.push_each.Given as goal

-- the rows of the principals so far are added
abbrev pub invariant-loop-at : goal.invariant-loop-at
invariant-loop-at l =
    Adds l.self.before.now.policy l.self.after.now.policy
    (IsOfSome l.self.before.now.policy l.self.after.now.policy l.self.deciders l.scope (take l.at l.named))
    l.initial.rows.items l.rows.items
