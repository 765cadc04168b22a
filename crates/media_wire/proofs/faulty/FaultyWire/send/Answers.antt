use Rattle.std.proofs.Common.{refl, ◌∙◌}
use Rattle.media_wire.proofs.Trying.{trial_calm, trial_failed, trial_kept}
use Rattle.media_wire.proofs.faulty.FaultyWire.send.Goals as goal

pub returns-then-is_due-clause-event : goal.returns-then-is_due-clause-event
returns-then-is_due-clause-event g c = λ events tries.
    trial_kept g.W.Wire.went _ _ _ events c.is_due.ensures.called c.fail.ensures tries

pub returns-in-Ok-clause-event : goal.returns-in-Ok-clause-event
returns-in-Ok-clause-event g c = λ events tries.
    trial_calm g.W.Wire.went _ _ _ events _ (c.self.view_is ∙ c.is_due.ensures.called) refl c.in-Ok.ensures tries

pub returns-in-Err-clause-event : goal.returns-in-Err-clause-event
returns-in-Err-clause-event g c = λ events tries.
    trial_failed g.W.Wire.went _ _ c.send.new.self _ events (c.self.view_is ∙ c.is_due.ensures.called) c.fail-in-Err.ensures c.in-Err.ensures tries
