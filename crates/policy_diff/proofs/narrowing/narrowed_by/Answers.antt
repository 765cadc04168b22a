use Rattle.std.proofs.Common.{SFits, w32, rules, arith}
use Rattle.std.proofs.lemmas.Int.{ints}
use Rattle.policy_diff.proofs.ScopeLemmas.{act_left, parts_of}
use Rattle.policy_diff.proofs.narrowing.narrowed_by.Goals as goal

pub returns : goal.returns
returns c = λ old new question is h.
    let parts = parts_of c.args.rule.now question h in
    let low_fits : SFits w32 c.args.scope.low = search rules in
    let high_fits : SFits w32 c.args.scope.high = search rules in
    let rule_low_fits : SFits w32 c.args.rule.now.low = search rules in
    let rule_high_fits : SFits w32 c.args.rule.now.high = search rules in
    let greater_fits : SFits w32 c.greater.result = search rules in
    let lesser_fits : SFits w32 c.lesser.result = search rules in
    let above = is.low in
    let below = is.high in
    let rule_above = parts.low in
    let rule_below = parts.high in
    let from = c.greater.ensures question.stream (omega (arith, ints)) (omega (arith, ints)) in
    let upto = c.lesser.ensures question.stream (omega (arith, ints)) (omega (arith, ints)) in
    record {
      asker = c.asker_of.ensures old new question.principal is.asker parts.speaks;
      act = act_left c.args.rule.now c.args.scope c.acts_of_both.result question.act c.acts_of_both.ensures is.act parts.act_held;
      low = omega (arith, ints, from);
      high = omega (arith, ints, upto);
    }
