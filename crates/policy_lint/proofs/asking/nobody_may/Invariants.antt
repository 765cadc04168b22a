use Rattle.std.proofs.Common.{ℕ, ◌<◌, get_or}
use Rattle.policy_core.specs.Moments.{at}
use Rattle.policy_core.specs.declared.rule.Rule.{Rule}
use Rattle.policy_lint.proofs.NobodyLemmas.{IsDenied}
use Rattle.policy_lint.proofs.asking.nobody_may.Given as goal

-- each principal that is named so far is denied it
abbrev pub invariant-loop-rule : goal.invariant-loop-rule
invariant-loop-rule l = (k : ℕ) (d : Rule) → k < l.rule-index → IsDenied (at l.fn.policy l.fn.moment) l.fn.act l.fn.channel l.fn.stream (get_or l.fn.policy.rules k d).principals
