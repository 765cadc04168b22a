use Rattle.std.proofs.Common.{refl, sym, ◌∙◌}
use Rattle.std.proofs.lemmas.List.Elements.{All-push}
use Rattle.media_wire.specs.Holds.{IsHeld}
use Rattle.media_wire.proofs.Counting.{counted-calm, counted-failed}
use Rattle.media_wire.proofs.shared.SharedWire.send.Goals as goal

pub returns-in-Ok : goal.returns-in-Ok
returns-in-Ok g c = λ events is.
    (is.0 ∙ sym (counted-calm events _ refl), All-push (IsHeld g.W.Wire.went) events _ is.1 (record { found = _; left = _; goes = c.in-Ok.ensures.wire }))

pub returns-in-Err : goal.returns-in-Err
returns-in-Err g c = λ events is.
    (c.fail.ensures ∙ counted-failed events _ is.0, All-push (IsHeld g.W.Wire.went) events _ is.1 (record { found = _; left = _; goes = c.in-Err.ensures.wire }))
