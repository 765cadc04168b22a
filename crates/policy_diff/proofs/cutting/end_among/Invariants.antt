use Rattle.std.proofs.Common.{◌≤ℤ◌}
use Rattle.policy_diff.proofs.cutting.end_among.Given as goal

abbrev pub invariant-loop-at : goal.invariant-loop-at
invariant-loop-at l = record {
  from : l.scope.low ≤ℤ l.end;
  upto : l.end ≤ℤ l.high;
}
