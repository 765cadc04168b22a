use Rattle.std.proofs.Common.{rules, ◌≡◌, ◌<◌, ◌≤◌, ◌+◌, ℕ, List, length, map, refl, sym, ap, ap₂, ◌∙◌, subst, arith}
use Rattle.std.proofs.lemmas.Option.{slice_get_within}
use Rattle.policy_core.specs.Moments.{as_of, at}
use Rattle.policy_core.specs.Question.{question_of}
use Rattle.policy_core.specs.RuleList.{Rules}
use Rattle.policy_core.specs.Rules.{defaulted, verdict_of}
use Rattle.policy_core.specs.declared.rule.Rule.{Rule}
use Rattle.policy_core.specs.declared.verdict.Verdict.{Verdict}
use Rattle.policy_core.proofs.AtMoment.{at_length}
use Rattle.compiled_policy.specs.Numbered.{Numbered}
use Rattle.compiled_policy.proofs.compiled.Compiled.verdict_at.Goals as goal

at_rules : (policy : Rules) (moment : ℕ) → (at policy moment).rules ≡ map (as_of moment) policy.rules
unfolding at
at_rules policy moment = refl

at_default : (policy : Rules) (moment : ℕ) → (at policy moment).default_allows ≡ policy.default_allows
unfolding at
at_default policy moment = refl

few : (policy now : Rules) (moment : ℕ) (all : List Rule) → all ≡ policy.rules → length all ≤ 1024 → now ≡ at policy moment → length now.rules ≤ 1024
few policy now moment all is short stands =
    subst (λ (n : ℕ). n ≤ 1024) (ap (λ (l : List Rule). length l) is ∙ (sym (at_length policy moment) ∙ sym (ap (λ (p : Rules). length p.rules) stands))) short

pub first_match-requires-clause-few : goal.first_match-requires-clause-few
first_match-requires-clause-few c =
    few c.self.inside.policy c.at-policy.result c.args.moment c.rules-rules.result.now c.rules-rules.ensures.value c.rules-rules.ensures.few c.at-policy.ensures

pub first_match-requires-clause-index : goal.first_match-requires-clause-index
first_match-requires-clause-index c =
    (c.self.inside.policy.rules, c.args.moment, c.self.invariant.0, ap (λ (p : Rules). p.rules) c.at-policy.ensures ∙ at_rules c.self.inside.policy c.args.moment)

pub word_of-requires : goal.word_of-requires
word_of-requires c =
    let found = c.in-Some.ensures in
    slice_get_within c.at-policy.result.rules c.in-Some.index found.0 found.1.stands

pub overflow_cast-result : goal.overflow_cast-result
overflow_cast-result c =
    let found = c.in-Some.ensures in
    let within : c.in-Some.index < length c.at-policy.result.rules = slice_get_within c.at-policy.result.rules c.in-Some.index found.0 found.1.stands in
    let short : length c.at-policy.result.rules ≤ 1024 =
    few c.self.inside.policy c.at-policy.result c.args.moment c.rules-rules.result.now c.rules-rules.ensures.value c.rules-rules.ensures.few c.at-policy.ensures in
    let small : c.in-Some.index < 1024 = omega (arith, within, short) in
    search (rules, small)

pub overflow_add-result : goal.overflow_add-result
overflow_add-result c =
    let found = c.in-Some.ensures in
    let within : c.in-Some.index < length c.at-policy.result.rules = slice_get_within c.at-policy.result.rules c.in-Some.index found.0 found.1.stands in
    let short : length c.at-policy.result.rules ≤ 1024 =
    few c.self.inside.policy c.at-policy.result c.args.moment c.rules-rules.result.now c.rules-rules.ensures.value c.rules-rules.ensures.few c.at-policy.ensures in
    let small : c.in-Some.index + 1 < 1025 = omega (arith, within, short) in
    search (rules, small)

pub returns-in-None : goal.returns-in-None
returns-in-None c =
    let question = question_of c.args.request.now in
    let by : verdict_of c.at-policy.result c.self.inside.epoch question ≡ defaulted c.at-policy.result.default_allows c.self.inside.epoch =
    c.least_rule_decides.ensures.none c.at-policy.result c.self.inside.epoch question c.in-None.ensures in
    let word : c.at-policy.result.default_allows ≡ c.default_allows.result =
    ap (λ (p : Rules). p.default_allows) c.at-policy.ensures ∙ (at_default c.self.inside.policy c.args.moment ∙ sym c.default_allows.ensures) in
    let whole : defaulted c.default_allows.result c.self.inside.epoch ≡ verdict_of (at c.self.inside.policy c.args.moment) c.self.inside.epoch question =
    subst (λ (p : Rules). defaulted c.default_allows.result c.self.inside.epoch ≡ verdict_of p c.self.inside.epoch question) c.at-policy.ensures
    (sym (by ∙ ap (λ allow. defaulted allow c.self.inside.epoch) word)) in
    subst (λ (n : Numbered). defaulted c.default_allows.result c.self.inside.epoch ≡ verdict_of (at n.given c.args.moment) n.epoch question) c.self.view_is whole
