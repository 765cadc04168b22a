use Rattle.std.proofs.Common.{◌≡◌, ◌∙◌, ◌<◌, List, Some, length, refl, slice_get, subst, arith}
use Rattle.std.proofs.lemmas.Option.{slice_get_read}
use Rattle.policy_core.specs.declared.rule.Rule.{Rule}
use Rattle.policy_diff.proofs.PlaceLemmas.{matched_at}
use Rattle.policy_diff.proofs.narrowing.narrowed.Goals as goal

pub returns : goal.returns
returns c = λ old new question is first.
    let rules = c.rules-rules.result.now in
    let at = c.in-Some.at in
    let rule = c.index-rules-at.result in
    let within : at < length rules = omega (arith, c.if-at-rules.false) in
    let here : slice_get rules at ≡ Some rule = slice_get_read rules (length rules) at rule refl within c.index-rules-at.is in
    let stands : slice_get c.args.source.now.policy.rules at ≡ Some rule = subst (λ (r : List Rule). slice_get r at ≡ Some rule) c.rules-rules.ensures.value here in
    c.narrowed_by.ensures old new question is (matched_at c.args.source.now.policy question at rule (first ∙ c.in-Some.is) stands)
