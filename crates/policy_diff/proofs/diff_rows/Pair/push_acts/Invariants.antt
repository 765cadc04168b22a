use Rattle.std.proofs.Common.{◌≡◌, ◌<◌, false}
use Rattle.policy_core.specs.Act.{act_number}
use Rattle.policy_core.specs.Acts.{holds}
use Rattle.policy_core.specs.declared.act.Act.{Act}
use Rattle.policy_diff.specs.Adding.{Adds}
use Rattle.policy_diff.proofs.AddingLemmas.{IsDone}
use Rattle.policy_diff.proofs.diff_rows.Pair.push_acts.Given as goal

-- none of the acts so far is left, and the rows of those that are not left are added
abbrev pub invariant-loop-number : goal.invariant-loop-number
invariant-loop-number l = record {
  none : (act : Act) → act_number act < l.number → holds l.left act ≡ false;
  adds :
      Adds l.self.before.now.policy l.self.after.now.policy
      (IsDone l.self.before.now.policy l.self.after.now.policy l.self.deciders l.scope l.left)
      l.initial.rows.items l.rows.items;
}
