use Rattle.std.proofs.Common.{sym, ◌∙◌}
use Rattle.log_readers.proofs.BesideLemmas.{settling_no, settling_yes}
use Rattle.log_readers.proofs.closing.settle.Goals as goal
use Rattle.log_readers.proofs.closing.settle.Goals.{then-keeps, else-keeps}

pub loop-at-preserved : goal.loop-at-preserved
loop-at-preserved g c =
    elim c.if-keeps.branch [
      | then-keeps w ↦
          rw (w.slots-is, w.kept-is)
          (settling_yes (g.S.Test.keeps c.args.test.now) c.args.logs.now c.args.slots.now c.loop-at.slots _ c.loop-at.kept
          c.loop-at.at c.index-logs-at.result c.loop-at.invariant c.requires c.loop-at-test.true c.index-logs-at.is
          (sym c.keeps.ensures ∙ w.if-keeps.true) w.swap.ensures.by_index)
      | else-keeps w ↦
          rw (w.slots-is, w.kept-is)
          (settling_no (g.S.Test.keeps c.args.test.now) c.args.logs.now c.args.slots.now c.loop-at.slots c.loop-at.kept
          c.loop-at.at c.index-logs-at.result c.loop-at.invariant c.requires c.loop-at-test.true c.index-logs-at.is
          (sym c.keeps.ensures ∙ w.if-keeps.false))
    ]
