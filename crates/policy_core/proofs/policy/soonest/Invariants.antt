use Rattle.std.proofs.Common.{◌≡◌, drop}
use Rattle.policy_core.specs.Moments.{bounds, least_of}
use Rattle.std.specs.Prelude.{None}
use Rattle.policy_core.proofs.policy.soonest.Given as goal

-- what is left gives on from the least so far what all rules give
abbrev pub invariant-loop-rule : goal.invariant-loop-rule
invariant-loop-rule l = least_of l.moment l.least (bounds (drop l.rule-index l.rules)) ≡ least_of l.moment None (bounds l.rules)
