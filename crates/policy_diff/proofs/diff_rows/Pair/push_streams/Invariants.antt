use Rattle.std.proofs.Common.{◌≤ℤ◌}
use Rattle.policy_diff.specs.Adding.{Adds}
use Rattle.policy_diff.proofs.AddingLemmas.{IsBelow}
use Rattle.policy_diff.proofs.StreamLemmas.{left_of}
use Rattle.policy_diff.proofs.diff_rows.Pair.push_streams.Given as goal

-- the rows of the streams below this one are added
abbrev pub invariant-loop-low : goal.invariant-loop-low
invariant-loop-low l = record {
  within : l.low ≤ℤ l.scope.high;
  adds :
      Adds l.self.before.now.policy l.self.after.now.policy
      (IsBelow l.self.before.now.policy l.self.after.now.policy l.self.deciders l.scope l.low)
      l.initial.rows.items l.rows.items;
}

abbrev pub decreases-loop-low : goal.decreases-loop-low
decreases-loop-low l = left_of l.low
