use Rattle.std.proofs.Common.{◌∙◌}
use Rattle.media_wire.proofs.Counting.{read_counts_none}
use Rattle.media_wire.proofs.Trying.{trial_calm, trial_failed, trial_kept}
use Rattle.media_wire.proofs.faulty.FaultyWire.recv.Goals as goal

pub returns-then-is_due-clause-event : goal.returns-then-is_due-clause-event
returns-then-is_due-clause-event g c = λ events tries.
    trial_kept g.W.Wire.went _ _ _ events c.is_due.ensures.called c.fail.ensures tries

pub returns-in-Ok-clause-event : goal.returns-in-Ok-clause-event
returns-in-Ok-clause-event g c = λ events tries.
    trial_calm g.W.Wire.went _ _ _ events _ (c.self.view_is ∙ c.is_due.ensures.called)
    (read_counts_none c.args.local.now c.recv.new.buffer c.in-Ok.read) c.in-Ok.ensures.event tries

pub returns-in-Err-clause-event : goal.returns-in-Err-clause-event
returns-in-Err-clause-event g c = λ events tries.
    trial_failed g.W.Wire.went _ _ c.recv.new.self _ events (c.self.view_is ∙ c.is_due.ensures.called) c.fail-in-Err.ensures c.in-Err.ensures.event tries
