use Rattle.std.proofs.Common.{◌≡◌, ◌∙◌, ◌+◌, ℤ, SFits, w32, to_z, of_z, ◌∷◌, drop, sym, ap, subst, rules}
use Rattle.std.proofs.lemmas.Int.{to_z-of_z}
use Rattle.std.proofs.lemmas.List.{drop_all, drop_more}
use Rattle.policy_tools.specs.Alike.{AllEndAt, EndSoFar}
use Rattle.policy_tools.proofs.AlikeLemmas.{all_ended, next_rule}
use Rattle.policy_tools.proofs.alike.end_of_all.Goals as goal

pub loop-rule-preserved : goal.loop-rule-preserved
loop-rule-preserved c =
    let all = c.args.rules.now in
    let at = c.loop-rule.rule-index in
    let rule = c.rule-item.result in
    let low = to_z w32 (of_z w32 c.args.low) in
    let high = to_z w32 (of_z w32 c.args.high) in
    let end = c.end_of-end.result in
    let fits : SFits w32 end = search rules in
    let here : drop at all ≡ rule ∷ drop (at + 1) all = drop_more all at rule c.loop-rule-test.true ∙ ap (λ r. r ∷ drop (at + 1) all) (sym c.rule-item.is) in
    subst (λ (z : ℤ). EndSoFar all (at + 1) low high z) (sym (to_z-of_z w32 end fits))
    (next_rule all at rule low high (to_z w32 c.loop-rule.end-bits) end here c.end_of-end.ensures c.loop-rule.invariant)

pub returns : goal.returns
returns c =
    let all = c.args.rules.now in
    let at = c.loop-rule.rule-index in
    let low = to_z w32 (of_z w32 c.args.low) in
    let high = to_z w32 (of_z w32 c.args.high) in
    let end = to_z w32 c.loop-rule.end-bits in
    subst (λ (z : ℤ). AllEndAt all z c.args.high end) (to_z-of_z w32 c.args.low c.ranges.low)
    (subst (λ (z : ℤ). AllEndAt all low z end) (to_z-of_z w32 c.args.high c.ranges.high)
    (all_ended all at low high end (drop_all at all c.loop-rule-test.false) c.loop-rule.invariant))
