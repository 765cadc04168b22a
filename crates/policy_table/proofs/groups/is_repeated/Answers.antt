use Rattle.std.proofs.Common.{arith}
use Rattle.policy_table.proofs.GroupLemmas.{repeated_is, repeated_more}
use Rattle.policy_table.proofs.groups.is_repeated.Goals as goal

pub loop-before-preserved : goal.loop-before-preserved
loop-before-preserved c =
    repeated_more c.args.rules.now c.args.asker c.args.act c.act_at-other.result c.loop-before.before c.loop-before.found _
    (omega (arith, c.loop-before-test.true, c.requires.small)) c.act_at-other.ensures.place c.loop-before.invariant c.in_ok-found.ensures

pub returns : goal.returns
returns c =
    repeated_is c.args.rules.now c.args.asker c.args.act c.loop-before.before c.loop-before.found
    (omega (arith, c.requires.is_number, c.loop-before-test.false)) c.loop-before.invariant
