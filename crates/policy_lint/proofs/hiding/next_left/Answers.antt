use Rattle.std.proofs.Common.{arith, rules, sym, w32}
use Rattle.std.proofs.lemmas.Int.{ints}
use mir.Val.{SFits}
use Rattle.policy_lint.proofs.hiding.next_left.Goals as goal

pub returns-then-from-high : goal.returns-then-from-high
returns-then-from-high c = λ stream low high.
    let fits : SFits w32 c.args.rule.now.high = search rules in
    let fits_low : SFits w32 c.args.rule.now.low = search rules in
    record {
      act_held = sym c.if-hold.ensures;
      low = omega (arith, ints);
      high = omega (arith, ints);
    }
