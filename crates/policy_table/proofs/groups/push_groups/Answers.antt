use Rattle.std.proofs.Common.{arith}
use Rattle.policy_table.proofs.GroupLemmas.{groups_more, groups_whole}
use Rattle.policy_table.proofs.groups.push_groups.Goals as goal

pub loop-number-preserved : goal.loop-number-preserved
loop-number-preserved c =
    groups_more c.args.rules.now c.args.asker c.act_at-act.result c.loop-number.number c.args.groups.now.items c.loop-number.groups.items
    c.push_group.new.groups.items (omega (arith, c.loop-number-test.true)) c.act_at-act.ensures.place c.loop-number.invariant
    c.in_ok-push_group.ensures

pub returns : goal.returns
returns c =
    groups_whole c.args.rules.now c.args.asker c.loop-number.number c.args.groups.now.items c.loop-number.groups.items
    (omega (arith, c.loop-number-test.false)) c.loop-number.invariant
