use Rattle.std.proofs.Common.{arith}
use Rattle.policy_diff.proofs.ActLemmas.{all_chosen, more_chosen, none_chosen}
use Rattle.policy_diff.proofs.acts.acts_of_both.Goals as goal

pub loop-number-init : goal.loop-number-init
loop-number-init c = none_chosen _ c.args.one c.args.other c.args.wanted c.none-acts.ensures.all

pub loop-number-preserved : goal.loop-number-preserved
loop-number-preserved c =
    more_chosen c.loop-number.acts c.with_chosen-acts.result c.args.one c.args.other c.args.wanted c.is_of_both.result c.loop-number.number c.act_at-act.result
    c.act_at-act.ensures c.is_of_both.ensures c.with_chosen-acts.ensures c.loop-number.invariant

pub returns : goal.returns
returns c = all_chosen c.loop-number.acts c.args.one c.args.other c.args.wanted c.loop-number.number (omega (arith, c.loop-number-test.false)) c.loop-number.invariant
