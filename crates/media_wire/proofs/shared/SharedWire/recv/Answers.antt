use Rattle.std.proofs.Common.{sym, ◌∙◌}
use Rattle.std.proofs.lemmas.List.Elements.{All-push}
use Rattle.media_wire.specs.Holds.{IsHeld}
use Rattle.media_wire.proofs.Counting.{counted-calm, counted-failed, read_counts_none}
use Rattle.media_wire.proofs.shared.SharedWire.recv.Goals as goal

pub returns-in-Ok-clause-event : goal.returns-in-Ok-clause-event
returns-in-Ok-clause-event g c = λ events is. (
  is.0 ∙ sym (counted-calm events _ (read_counts_none c.args.local.now c.recv-read.new.buffer c.in-Ok.read)),
  All-push (IsHeld g.W.Wire.went) events _ is.1 (record { found = _; left = _; goes = c.in-Ok.ensures.wire }),
)

pub returns-in-Err-clause-event : goal.returns-in-Err-clause-event
returns-in-Err-clause-event g c = λ events is.
    (c.fail.ensures ∙ counted-failed events _ is.0, All-push (IsHeld g.W.Wire.went) events _ is.1 (record { found = _; left = _; goes = c.in-Err.ensures.wire }))
