use Rattle.std.proofs.Common.{◌≡◌, ◌∙◌, pos, ◌+ℤ◌, ◌≤ℤ◌, ◌<ℤ◌, SFits, w32, rules, to_z, of_z, ap, refl, sym, arith}
use Rattle.std.proofs.lemmas.Int.{ints, to_z-of_z}
use Rattle.policy_table.specs.Rows.{alike}
use Rattle.policy_table.specs.Stretch.{span_at, span_of}
use Rattle.policy_table.proofs.GroupLemmas.{Pair, pair_apart, pair_ends, pair_goes_on}
use Rattle.policy_table.proofs.LaneLemmas.{found_is, is_end}
use Rattle.policy_table.proofs.PartLemmas.{below_last, left_less}
use Rattle.policy_table.proofs.StreamLemmas.{lt_false}
use Rattle.policy_table.proofs.groups.are_alike.Goals as goal

pub returns-then-not-is_like : goal.returns-then-not-is_like
returns-then-not-is_like c =
    let rules_of = c.args.rules.now in
    let low = to_z w32 c.loop-first.low-bits in
    let low_fits = c.loop-first.auto.low in
    let first = span_of c.in_ok-first.first in
    let second = span_of c.in_ok-second.second in
    let pair : Pair rules_of c.args.asker c.args.one c.args.other low first second c.is_like.result = record {
      order = omega (arith, ints);
      is_first = c.in_ok-first.ensures ∙ ap (span_at rules_of) c.from_on-of_one.ensures;
      is_second = c.in_ok-second.ensures ∙ ap (span_at rules_of) c.from_on-of_other.ensures;
      is_test = c.is_like.ensures;
      before = c.loop-first.invariant;
    } in
    pair_apart rules_of c.args.asker c.args.one c.args.other low first second c.is_like.result pair c.if-not-is_like.true

pub returns-then-high-eq2147483647 : goal.returns-then-high-eq2147483647
returns-then-high-eq2147483647 c =
    let rules_of = c.args.rules.now in
    let low = to_z w32 c.loop-first.low-bits in
    let low_fits = c.loop-first.auto.low in
    let first = span_of c.in_ok-first.first in
    let second = span_of c.in_ok-second.second in
    let fits : SFits w32 first.high = search rules in
    let pair : Pair rules_of c.args.asker c.args.one c.args.other low first second c.is_like.result = record {
      order = omega (arith, ints);
      is_first = c.in_ok-first.ensures ∙ ap (span_at rules_of) c.from_on-of_one.ensures;
      is_second = c.in_ok-second.ensures ∙ ap (span_at rules_of) c.from_on-of_other.ensures;
      is_test = c.is_like.ensures;
      before = c.loop-first.invariant;
    } in
    let end : first.high ≡ pos 2147483647 = sym (to_z-of_z w32 first.high fits) ∙ ap (to_z w32) c.if-high-eq2147483647.true in
    pair_ends rules_of c.args.asker c.args.one c.args.other low first second c.is_like.result pair c.if-not-is_like.false (is_end first.high end)

pub loop-first-preserved : goal.loop-first-preserved
loop-first-preserved c =
    let rules_of = c.args.rules.now in
    let low = to_z w32 c.loop-first.low-bits in
    let low_fits = c.loop-first.auto.low in
    let first = span_of c.in_ok-first.first in
    let second = span_of c.in_ok-second.second in
    let fits : SFits w32 first.high = search rules in
    let pair : Pair rules_of c.args.asker c.args.one c.args.other low first second c.is_like.result = record {
      order = omega (arith, ints);
      is_first = c.in_ok-first.ensures ∙ ap (span_at rules_of) c.from_on-of_one.ensures;
      is_second = c.in_ok-second.ensures ∙ ap (span_at rules_of) c.from_on-of_other.ensures;
      is_test = c.is_like.ensures;
      before = c.loop-first.invariant;
    } in
    let found = found_is rules_of c.args.asker c.args.one low first pair.order pair.is_first in
    let below : first.high <ℤ pos 2147483647 = below_last first.high found.within (λ e. c.if-high-eq2147483647.false (ap (of_z w32) e)) in
    let next = to_z w32 (of_z w32 (to_z w32 (of_z w32 first.high) +ℤ pos 1)) in
    let step : next ≡ first.high +ℤ pos 1 = omega (arith, ints) in
    pair_goes_on rules_of c.args.asker c.args.one c.args.other low first second c.is_like.result next pair c.if-not-is_like.false
    (lt_false (pos 2147483647) first.high below) step

pub loop-first-smaller : goal.loop-first-smaller
loop-first-smaller c =
    let rules_of = c.args.rules.now in
    let low = to_z w32 c.loop-first.low-bits in
    let low_fits = c.loop-first.auto.low in
    let first = span_of c.in_ok-first.first in
    let fits : SFits w32 first.high = search rules in
    let order : low ≤ℤ pos 2147483647 = omega (arith, ints) in
    let found = found_is rules_of c.args.asker c.args.one low first order (c.in_ok-first.ensures ∙ ap (span_at rules_of) c.from_on-of_one.ensures) in
    let below : first.high <ℤ pos 2147483647 = below_last first.high found.within (λ e. c.if-high-eq2147483647.false (ap (of_z w32) e)) in
    let next = to_z w32 (of_z w32 (to_z w32 (of_z w32 first.high) +ℤ pos 1)) in
    let step : next ≡ first.high +ℤ pos 1 = omega (arith, ints) in
    left_less low first.high next found.ahead below step

pub loop-first-init : goal.loop-first-init
unfolding alike
loop-first-init c = refl
