use Rattle.std.proofs.Common.{◌<◌, ◌∙◌, List, length, subst, sym, arith}
use Rattle.policy_core.specs.declared.rule.Rule.{Rule}
use Rattle.policy_tools.specs.Sharing.{is_over}
use Rattle.policy_diff.proofs.ReachLemmas.{position_is, position_none}
use Rattle.policy_diff.proofs.reach.first_over.Goals as goal

pub returns-then-is_over_at : goal.returns-then-is_over_at
returns-then-is_over_at c =
    let rules = c.args.source.now.policy.rules in
    let within : c.loop-at.at < length rules = subst (λ (r : List Rule). c.loop-at.at < length r) c.rules-at-end.ensures.value c.loop-at-test.true in
    sym (position_is (λ wide. is_over wide c.args.rule.now) rules c.loop-at.at c.args.rule.now within c.loop-at.invariant
    (sym c.is_over_at.ensures ∙ c.if-is_over_at.true))

pub returns : goal.returns
returns c =
    let rules = c.args.source.now.policy.rules in
    sym (position_none (λ wide. is_over wide c.args.rule.now) rules c.args.rule.now
    (λ k within. c.loop-at.invariant k
    (let inside : k < length c.rules-at-end.result.now = subst (λ (r : List Rule). k < length r) (sym c.rules-at-end.ensures.value) within in
    omega (arith, c.loop-at-test.false))))
