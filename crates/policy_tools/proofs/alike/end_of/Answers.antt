use Rattle.std.proofs.Common.{◌≤ℤ◌, ◌<ℤ◌, ℤ, SFits, w32, subst, sym, rules, arith}
use Rattle.std.proofs.lemmas.Int.{ints, to_z-of_z}
use Rattle.policy_tools.specs.Alike.{EndsAt}
use Rattle.policy_tools.proofs.AlikeLemmas.{ends_before, ends_inside}
use Rattle.policy_tools.proofs.alike.end_of.Goals as goal

pub returns-then-low-rule : goal.returns-then-low-rule
returns-then-low-rule c =
    let end = c.least.result in
    let fits : SFits w32 end = search rules in
    let low_fits : SFits w32 c.args.rule.now.low = search rules in
    let first = c.least.ensures.first in
    let second = c.least.ensures.second in
    let ahead : c.args.low ≤ℤ end = c.least.ensures.greatest c.args.low (omega (arith, ints)) (omega (arith, ints, c.requires.le)) in
    subst (λ (z : ℤ). EndsAt c.args.rule.now c.args.low c.args.high z) (sym (to_z-of_z w32 end fits))
    (ends_before c.args.rule.now c.args.low c.args.high end (omega (arith, ints, c.if-low-rule.true)) (omega (arith, ints)) ahead (omega (arith, ints)))

pub returns-then-low-rule-2 : goal.returns-then-low-rule-2
returns-then-low-rule-2 c =
    let end = c.least-then-low-rule-2.result in
    let fits : SFits w32 end = search rules in
    let high_fits : SFits w32 c.args.rule.now.high = search rules in
    let low_fits : SFits w32 c.args.rule.now.low = search rules in
    let first = c.least-then-low-rule-2.ensures.first in
    let second = c.least-then-low-rule-2.ensures.second in
    let ahead : c.args.low ≤ℤ end = c.least-then-low-rule-2.ensures.greatest c.args.low (omega (arith, ints, c.if-low-rule-2.true)) (omega (arith, ints, c.requires.le)) in
    subst (λ (z : ℤ). EndsAt c.args.rule.now c.args.low c.args.high z) (sym (to_z-of_z w32 end fits))
    (ends_inside c.args.rule.now c.args.low c.args.high end (omega (arith, ints, c.if-low-rule.false)) (omega (arith, ints, c.if-low-rule-2.true)) (omega (arith, ints)) ahead (omega (arith, ints)))
