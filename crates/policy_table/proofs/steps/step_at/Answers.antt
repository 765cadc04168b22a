use Rattle.std.proofs.Common.{◌≡◌, ◌∙◌, pos, ◌+ℤ◌, ◌<ℤ◌, SFits, w32, rules, to_z, of_z, refl, ap, sym, arith}
use Rattle.std.proofs.lemmas.Int.{ints, to_z-of_z}
use Rattle.policy_table.specs.Lane.{from_on}
use Rattle.policy_table.specs.Stretch.{span_at, span_of}
use Rattle.policy_table.proofs.LaneLemmas.{found_is}
use Rattle.policy_table.proofs.PartLemmas.{below_last}
use Rattle.policy_table.proofs.StepLemmas.{At, step_ends, step_goes}
use Rattle.policy_table.proofs.StreamLemmas.{lt_false}
use Rattle.policy_table.proofs.steps.step_at.Goals as goal

pub returns-then-high-eq2147483647 : goal.returns-then-high-eq2147483647
returns-then-high-eq2147483647 c =
    let low = c.args.place.low in
    let low_fits : SFits w32 low = search rules in
    let own = to_z w32 (of_z w32 low) in
    let same : own ≡ low = to_z-of_z w32 low low_fits in
    let span = span_of c.in_ok-stretch.stretch in
    let fits : SFits w32 span.high = search rules in
    let at : At c.args.rules.now c.args.groups.now c.args.place.group _ _ low own span = record {
      inside = c.requires;
      is = refl;
      order = omega (arith, ints);
      same = same;
      found = c.in_ok-stretch.ensures ∙ ap (span_at c.args.rules.now) (c.from_on-scope.ensures ∙ ap (from_on _ _) same);
    } in
    step_ends c.args.rules.now c.args.groups.now c.args.place.group _ _ low own span at
    (sym (to_z-of_z w32 span.high fits) ∙ ap (to_z w32) c.if-high-eq2147483647.true)

pub returns : goal.returns
returns c =
    let low = c.args.place.low in
    let low_fits : SFits w32 low = search rules in
    let own = to_z w32 (of_z w32 low) in
    let same : own ≡ low = to_z-of_z w32 low low_fits in
    let span = span_of c.in_ok-stretch.stretch in
    let fits : SFits w32 span.high = search rules in
    let at : At c.args.rules.now c.args.groups.now c.args.place.group _ _ low own span = record {
      inside = c.requires;
      is = refl;
      order = omega (arith, ints);
      same = same;
      found = c.in_ok-stretch.ensures ∙ ap (span_at c.args.rules.now) (c.from_on-scope.ensures ∙ ap (from_on _ _) same);
    } in
    let found = found_is c.args.rules.now _ _ low span at.order at.found in
    let below : span.high <ℤ pos 2147483647 = below_last span.high found.within (λ e. c.if-high-eq2147483647.false (ap (of_z w32) e)) in
    let next = to_z w32 (of_z w32 (to_z w32 (of_z w32 span.high) +ℤ pos 1)) in
    let step : next ≡ span.high +ℤ pos 1 = omega (arith, ints) in
    step_goes c.args.rules.now c.args.groups.now c.args.place.group _ _ low own span next at (lt_false (pos 2147483647) span.high below) step
