use Rattle.std.proofs.Common.{sym, arith}
use Rattle.policy_diff.proofs.NamedLemmas.{named_more}
use Rattle.policy_diff.proofs.askers.push_named.Goals as goal

pub loop-at-preserved : goal.loop-at-preserved
loop-at-preserved c =
    named_more c.args.rules.now c.loop-at.at c.index-rules-at.result c.args.named.now.items c.loop-at.named.items c.push_one.new.named.items
    (omega (arith, c.loop-at-test.true)) (sym c.index-rules-at.is) c.loop-at.invariant c.in_ok-push_one.ensures
