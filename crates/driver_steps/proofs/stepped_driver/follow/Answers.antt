use Rattle.std.proofs.Common.{ap, ◌∙◌, map}
use Rattle.driver_core.specs.Pairs.{pairs_of}
use Rattle.driver_steps.specs.OpenLogs.{HeldLogs, rejoined_held}
use Rattle.driver_steps.proofs.stepped_driver.follow.Goals as goal

pub returns : goal.returns
returns c = record {
  opened = c.open_next.new.logs;
  opens = c.open_next.ensures;
  left = c.rejoin.ensures
      ∙ ap (λ (h : HeldLogs). let g : HeldLogs = record h { logs = map (rejoined_held (pairs_of c.args.after.now)) h.logs } in g) c.close.ensures;
}
