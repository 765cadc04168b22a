use Rattle.policy_lint.proofs.unmet.unmet_in.Goals as goal

pub loop-at-preserved : goal.loop-at-preserved
loop-at-preserved c = c.in_ok-put_unmet-2.ensures (c.in_ok-put_unmet.ensures c.loop-at.invariant)
