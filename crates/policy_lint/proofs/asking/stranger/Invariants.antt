use Rattle.std.proofs.Common.{ℕ, ◌<◌, get_or}
use Rattle.policy_core.specs.declared.rule.Rule.{Rule}
use Rattle.policy_lint.proofs.NobodyLemmas.{IsUpTo}
use Rattle.policy_lint.proofs.asking.stranger.Given as goal

-- no principal that is named so far is above it
abbrev pub invariant-loop-rule : goal.invariant-loop-rule
invariant-loop-rule l = (k : ℕ) (d : Rule) → k < l.rule-index → IsUpTo l.most (get_or l.rules k d).principals
