use Rattle.std.proofs.Common.{◌≡◌, drop, map, filter, nat_lt}
use Rattle.policy_core.specs.Question.{question_of}
use Rattle.policy_core.specs.Moments.{at, bounds, is_allowed_by_any}
use Rattle.policy_core.proofs.policy.Policy.is_allowed_by_bounds.Given as goal

-- what is left decides as all rules do
abbrev pub invariant-loop-rule : goal.invariant-loop-rule
invariant-loop-rule l =
    is_allowed_by_any (question_of l.request) (map (at l.self) (filter (nat_lt l.moment) (bounds (drop l.rule-index l.rules))))
    ≡ is_allowed_by_any (question_of l.request) (map (at l.self) (filter (nat_lt l.moment) (bounds l.rules)))
