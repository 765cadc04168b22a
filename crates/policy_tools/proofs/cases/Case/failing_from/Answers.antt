use Rattle.std.proofs.Common.{◌≡◌, ◌∙◌, ◌<◌, ℕ, ℤ, pos, ◌≤ℤ◌, ◌<ℤ◌, ◌+ℤ◌, SFits, w32, to_z, of_z, List, Option, sym, ap, subst, rules, arith}
use Rattle.std.specs.Int.{int_gap}
use Rattle.std.proofs.lemmas.Int.{ints, to_z-of_z}
use Rattle.policy_core.specs.RuleList.{Rules}
use Rattle.policy_core.specs.declared.act.Act.{Act}
use Rattle.policy_core.specs.declared.rule.Rule.{Rule}
use Rattle.policy_tools.specs.Alike.{AllEndAt}
use Rattle.policy_tools.specs.Cases.{Wanted, failing_from}
use Rattle.policy_tools.proofs.AlikeLemmas.{fails_after, fails_first, gap_smaller, last_passes, none_fails}
use Rattle.policy_tools.proofs.cases.Case.failing_from.Goals as goal

-- the ends that were passed are those that are held
ends_are : (policy : Rules) (case : Wanted) (principal : ℕ) (act : Act) (low high : ℤ) → SFits w32 low → SFits w32 high
    → failing_from policy case principal act (to_z w32 (of_z w32 low)) (to_z w32 (of_z w32 high)) ≡ failing_from policy case principal act low high
ends_are policy case principal act low high low_fits high_fits =
    ap (λ (z : ℤ). failing_from policy case principal act z (to_z w32 (of_z w32 high))) (to_z-of_z w32 low low_fits)
    ∙ ap (λ (z : ℤ). failing_from policy case principal act low z) (to_z-of_z w32 high high_fits)

pub returns-then-not-is_wanted : goal.returns-then-not-is_wanted
returns-then-not-is_wanted c =
    let stream = to_z w32 c.stretches.stream-bits in
    let high = to_z w32 (of_z w32 c.args.high) in
    let whole = ends_are c.args.policy.now c.args.self.now c.args.principal c.args.act c.args.low c.args.high c.ranges.low c.ranges.high in
    sym (sym whole
    ∙ (c.stretches.invariant
    ∙ fails_first c.args.policy.now c.args.self.now c.args.principal c.args.act stream high (sym c.is_wanted.ensures ∙ c.if-not-is_wanted.true)))

pub returns-then-high-end : goal.returns-then-high-end
returns-then-high-end c =
    let stream = to_z w32 c.stretches.stream-bits in
    let high = to_z w32 (of_z w32 c.args.high) in
    let end = c.end_of_all-end.result in
    let fits : SFits w32 end = search rules in
    let within : end ≤ℤ high = c.end_of_all-end.ensures.within in
    let last : end ≡ high = omega (arith, ints, within, c.if-high-end.true) in
    let whole = ends_are c.args.policy.now c.args.self.now c.args.principal c.args.act c.args.low c.args.high c.ranges.low c.ranges.high in
    let ends : AllEndAt c.args.policy.now.rules stream high end = subst (λ (held : List Rule). AllEndAt held stream high end) c.rules.ensures.value c.end_of_all-end.ensures in
    let all : AllEndAt c.args.policy.now.rules stream high high = subst (λ (z : ℤ). AllEndAt c.args.policy.now.rules stream high z) last ends in
    sym (sym whole
    ∙ (c.stretches.invariant
    ∙ none_fails c.args.policy.now c.args.self.now c.args.principal c.args.act stream high all (sym c.is_wanted.ensures ∙ c.if-not-is_wanted.false)))

pub stretches-smaller : goal.stretches-smaller
stretches-smaller c =
    let stream = to_z w32 c.stretches.stream-bits in
    let high = to_z w32 (of_z w32 c.args.high) in
    let end = c.end_of_all-end.result in
    let fits : SFits w32 end = search rules in
    let high_fits : SFits w32 c.args.high = c.ranges.high in
    let before : end <ℤ high = omega (arith, ints, c.if-high-end.false) in
    let next : to_z w32 (of_z w32 (to_z w32 (of_z w32 end) +ℤ pos 1)) ≡ end +ℤ pos 1 = omega (arith, ints, before) in
    subst (λ (z : ℤ). int_gap z high < int_gap stream high) (sym next) (gap_smaller stream high end c.end_of_all-end.ensures.ahead before)

pub stretches-preserved : goal.stretches-preserved
stretches-preserved c =
    let stream = to_z w32 c.stretches.stream-bits in
    let high = to_z w32 (of_z w32 c.args.high) in
    let end = c.end_of_all-end.result in
    let fits : SFits w32 end = search rules in
    let high_fits : SFits w32 c.args.high = c.ranges.high in
    let before : end <ℤ high = omega (arith, ints, c.if-high-end.false) in
    let next : to_z w32 (of_z w32 (to_z w32 (of_z w32 end) +ℤ pos 1)) ≡ end +ℤ pos 1 = omega (arith, ints, before) in
    let ends : AllEndAt c.args.policy.now.rules stream high end = subst (λ (held : List Rule). AllEndAt held stream high end) c.rules.ensures.value c.end_of_all-end.ensures in
    c.stretches.invariant
    ∙ (fails_after c.args.policy.now c.args.self.now c.args.principal c.args.act stream high end ends (sym c.is_wanted.ensures ∙ c.if-not-is_wanted.false) before
    ∙ ap (λ (z : ℤ). failing_from c.args.policy.now c.args.self.now c.args.principal c.args.act z high) (sym next))

pub returns-then-is_wanted : goal.returns-then-is_wanted
returns-then-is_wanted c =
    let stream = to_z w32 c.stretches.stream-bits in
    let high = to_z w32 (of_z w32 c.args.high) in
    let last : high ≤ℤ stream = omega (arith, ints, c.stretches-test.false) in
    let whole = ends_are c.args.policy.now c.args.self.now c.args.principal c.args.act c.args.low c.args.high c.ranges.low c.ranges.high in
    sym (sym whole
    ∙ (c.stretches.invariant
    ∙ last_passes c.args.policy.now c.args.self.now c.args.principal c.args.act stream high last (sym c.is_wanted-2.ensures ∙ c.if-is_wanted.true)))

pub returns-else-is_wanted : goal.returns-else-is_wanted
returns-else-is_wanted c =
    let stream = to_z w32 c.stretches.stream-bits in
    let high = to_z w32 (of_z w32 c.args.high) in
    let whole = ends_are c.args.policy.now c.args.self.now c.args.principal c.args.act c.args.low c.args.high c.ranges.low c.ranges.high in
    sym (sym whole
    ∙ (c.stretches.invariant
    ∙ fails_first c.args.policy.now c.args.self.now c.args.principal c.args.act stream high (sym c.is_wanted-2.ensures ∙ c.if-is_wanted.false)))
