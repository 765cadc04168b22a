use Rattle.std.proofs.Common.{arith}
use Rattle.policy_lint.proofs.NobodyLemmas.{above}
use Rattle.policy_lint.proofs.asking.stranger.Goals as goal

pub returns : goal.returns
returns c = above _ _ _ c.checked_add.ensures (λ k d inside. c.loop-rule.invariant k d (omega arith))
