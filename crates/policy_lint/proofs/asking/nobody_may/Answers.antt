use Rattle.std.proofs.Common.{◌≡◌, ◌∙◌, ℤ, sym, ap, subst, not, true, false, List, length, get_or, arith, rules, w32, to_z, of_z}
use Rattle.std.proofs.lemmas.Int.{to_z-of_z}
use Rattle.policy_core.specs.Moments.{at}
use Rattle.policy_core.specs.declared.rule.Rule.{Rule}
use Rattle.policy_lint.specs.Nobody.{is_named, may}
use Rattle.policy_lint.proofs.NobodyLemmas.{IsDenied, denied_of, nobody_then}
use Rattle.policy_lint.proofs.asking.nobody_may.Goals as goal

pub returns-in-Some : goal.returns-in-Some
returns-in-Some c = λ (h : not c.may-in-Some.result ≡ true).
    let same : length c.rules-rule-items.result.now ≡ length c.args.policy.now.rules =
    ap (λ (rules : List Rule). length rules) c.rules-rule-items.ensures.value in
    let none : is_named c.rules.result.now c.in-Some.principal ≡ false = c.in-Some.ensures in
    let whole : to_z w32 (of_z w32 c.args.stream) ≡ c.args.stream = to_z-of_z w32 c.args.stream c.ranges.stream in
    let is : c.may-in-Some.result ≡ may (at c.args.policy.now c.args.moment) c.args.act c.args.channel.now c.args.stream c.in-Some.principal =
    search rules in
    nobody_then c.args.policy.now c.args.moment c.args.act c.args.channel.now c.args.stream c.in-Some.principal
    (λ k d inside. subst (λ (z : ℤ). IsDenied (at c.args.policy.now c.args.moment) c.args.act c.args.channel.now z (get_or c.args.policy.now.rules k d).principals)
    whole (c.loop-rule.invariant k d (omega arith)))
    (subst (λ (rules : List Rule). is_named rules c.in-Some.principal ≡ false) c.rules.ensures.value none)
    (sym is ∙ denied_of _ h)
