use Rattle.std.proofs.Common.{◌≡◌, ◌∙◌, List, arith, get_or, subst, sym}
use Rattle.policy_core.specs.declared.rule.Rule.{Rule}
use Rattle.policy_lint.proofs.HiderLemmas.{hider_at, no_hider}
use Rattle.policy_lint.proofs.hiding.first_hider.Goals as goal

pub returns-then-hides_at-clause-some : goal.returns-then-hides_at-clause-some
returns-then-hides_at-clause-some c =
    let rules = c.args.source.now.policy.rules in
    let narrow = c.index-rules-at.result in
    let is : narrow ≡ get_or rules c.args.at narrow =
    subst (λ (r : List Rule). narrow ≡ get_or r c.args.at narrow) c.rules.ensures.value c.index-rules-at.is in
    hider_at rules c.loop-place.place c.args.at narrow (omega (arith, c.loop-place-test.true)) c.requires is
    (sym c.hides_at.ensures ∙ c.if-hides_at.true)

pub returns-clause-none : goal.returns-clause-none
returns-clause-none c =
    let rules = c.args.source.now.policy.rules in
    let narrow = c.index-rules-at.result in
    let is : narrow ≡ get_or rules c.args.at narrow =
    subst (λ (r : List Rule). narrow ≡ get_or r c.args.at narrow) c.rules.ensures.value c.index-rules-at.is in
    no_hider rules c.args.at narrow is (λ k below. c.loop-place.invariant k (omega (arith, c.loop-place-test.false)))
