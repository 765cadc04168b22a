use Rattle.std.proofs.Common.{arith}
use Rattle.policy_table.proofs.GroupLemmas.{acts_more, acts_whole}
use Rattle.policy_table.proofs.groups.acts_like.Goals as goal

pub loop-number-preserved : goal.loop-number-preserved
loop-number-preserved c =
    acts_more c.args.rules.now c.args.asker c.args.act c.act_at-other.result c.loop-number.number c.loop-number.acts _
    (omega (arith, c.loop-number-test.true)) c.act_at-other.ensures.place c.loop-number.invariant c.in_ok-acts.ensures

pub returns : goal.returns
returns c =
    acts_whole c.args.rules.now c.args.asker c.args.act c.loop-number.number c.loop-number.acts
    (omega (arith, c.loop-number-test.false)) c.loop-number.invariant
