use Rattle.std.proofs.Common.{◌≡◌, ◌≤ℤ◌, ◌∙◌, arith, rules, subst, sym, w32}
use Rattle.std.proofs.lemmas.Int.{ints}
use Rattle.std.proofs.lemmas.Option.{get_or_from_slice_get}
use mir.Val.{SFits}
use Rattle.policy_core.specs.declared.rule.Rule.{Rule}
use Rattle.policy_lint.proofs.hiding.act_is_held.Goals as goal

pub returns : goal.returns
returns c = λ _ rule stream stands held low high.
    let same : c.index-rules-at.result ≡ rule = c.index-rules-at.is ∙ get_or_from_slice_get c.args.rules.now c.args.at rule c.index-rules-at.result stands in
    let above : c.index-rules-at.result.low ≤ℤ stream = subst (λ (r : Rule). r.low ≤ℤ stream) (sym same) low in
    let under : stream ≤ℤ c.index-rules-at.result.high = subst (λ (r : Rule). stream ≤ℤ r.high) (sym same) high in
    let fits_low : SFits w32 c.index-rules-at.result.low = search rules in
    let fits_high : SFits w32 c.index-rules-at.result.high = search rules in
    c.first_left-left.ensures stream (omega (arith, ints)) (omega (arith, ints))
