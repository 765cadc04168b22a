use Rattle.std.proofs.Common.{◌≡◌, arith, below_more, rules, true}
use Rattle.policy_lint.proofs.OverLemmas.{are_over_from}
use Rattle.policy_lint.proofs.hiding.are_over.Goals as goal

pub loop-place-preserved : goal.loop-place-preserved
loop-place-preserved c =
    let passed : c.is_over_before.result ≡ true = search rules in
    below_more _ _ c.loop-place.invariant (c.is_over_before.ensures.before passed, c.is_over_before.ensures.over passed)

pub returns : goal.returns
returns c = λ _. are_over_from _ _ _ (λ k within. c.loop-place.invariant k (omega arith))
