use Rattle.std.proofs.Common.{◌≡◌, ◌∙◌, ◌≤ℤ◌, ◌<ℤ◌, ◌+ℤ◌, pos, SFits, w32, ap, of_z, refl, rules, sym, to_z, arith}
use Rattle.std.proofs.lemmas.Int.{ints, to_z-of_z}
use Rattle.policy_diff.proofs.AddingLemmas.{streams_end, streams_go_on}
use Rattle.policy_diff.proofs.StreamLemmas.{before_last, left_less}
use Rattle.policy_diff.proofs.diff_rows.Pair.push_streams.Goals as goal

pub returns-then-high-scope : goal.returns-then-high-scope
returns-then-high-scope c =
    let low = to_z w32 c.loop-low.low-bits in
    let low_fits = c.loop-low.auto.low in
    let high = c.end_of-high.result in
    let fits : SFits w32 high = search rules in
    let scope_low_fits : SFits w32 c.args.scope.low = search rules in
    let scope_high_fits : SFits w32 c.args.scope.high = search rules in
    let ends_from = c.end_of-high.ensures.from in
    let ends_upto = c.end_of-high.ensures.upto in
    let same_low : to_z w32 (of_z w32 low) ≡ low = omega (arith, ints) in
    let end : high ≡ c.args.scope.high = sym (to_z-of_z w32 high fits) ∙ ap (to_z w32) c.if-high-scope.true ∙ to_z-of_z w32 c.args.scope.high scope_high_fits in
    streams_end c.args.self.now.before.now.policy c.args.self.now.after.now.policy c.args.self.now.deciders c.args.scope _ low high
    c.args.rows.now.items c.loop-low.rows.items c.push_scope.new.rows.items c.loop-low.invariant.adds c.in_ok-push_scope.ensures
    refl refl same_low (to_z-of_z w32 high fits) end

pub loop-low-preserved : goal.loop-low-preserved
loop-low-preserved c =
    let low = to_z w32 c.loop-low.low-bits in
    let low_fits = c.loop-low.auto.low in
    let high = c.end_of-high.result in
    let fits : SFits w32 high = search rules in
    let scope_low_fits : SFits w32 c.args.scope.low = search rules in
    let scope_high_fits : SFits w32 c.args.scope.high = search rules in
    let ends_from = c.end_of-high.ensures.from in
    let ends_upto = c.end_of-high.ensures.upto in
    let same_low : to_z w32 (of_z w32 low) ≡ low = omega (arith, ints) in
    let upto : high ≤ℤ c.args.scope.high = omega (arith, ints) in
    let below : high <ℤ c.args.scope.high = before_last high c.args.scope.high upto (λ e. c.if-high-scope.false (ap (of_z w32) e)) in
    let next = to_z w32 (of_z w32 (to_z w32 (of_z w32 high) +ℤ pos 1)) in
    let step : next ≡ high +ℤ pos 1 = omega (arith, ints) in
    record {
      within = omega (arith, ints, below, step);
      adds =
          streams_go_on c.args.self.now.before.now.policy c.args.self.now.after.now.policy c.args.self.now.deciders c.args.scope _ low high next
          c.args.rows.now.items c.loop-low.rows.items c.push_scope.new.rows.items c.loop-low.invariant.adds c.in_ok-push_scope.ensures
          refl refl same_low (to_z-of_z w32 high fits) step;
    }

pub loop-low-smaller : goal.loop-low-smaller
loop-low-smaller c =
    let low = to_z w32 c.loop-low.low-bits in
    let low_fits = c.loop-low.auto.low in
    let high = c.end_of-high.result in
    let fits : SFits w32 high = search rules in
    let scope_low_fits : SFits w32 c.args.scope.low = search rules in
    let scope_high_fits : SFits w32 c.args.scope.high = search rules in
    let ends_from = c.end_of-high.ensures.from in
    let ends_upto = c.end_of-high.ensures.upto in
    let same_low : to_z w32 (of_z w32 low) ≡ low = omega (arith, ints) in
    let upto : high ≤ℤ c.args.scope.high = omega (arith, ints) in
    let below : high <ℤ c.args.scope.high = before_last high c.args.scope.high upto (λ e. c.if-high-scope.false (ap (of_z w32) e)) in
    let next = to_z w32 (of_z w32 (to_z w32 (of_z w32 high) +ℤ pos 1)) in
    let step : next ≡ high +ℤ pos 1 = omega (arith, ints) in
    let ahead : low ≤ℤ high = omega (arith, ints) in
    let last : high <ℤ pos 2147483647 = omega (arith, ints, below) in
    left_less low high next ahead last step
