use Rattle.std.proofs.Common.{sym}
use Rattle.media_agents.proofs.TrafficLemmas.{was_lost, was_sent}
use Rattle.media_wire.specs.Letters.{letter}
use Rattle.media_agents.proofs.telling.send.Goals as goal

pub returns-then-is_err : goal.returns-then-is_err
returns-then-is_err g c =
    was_lost (letter c.args.local.now c.args.to.now c.args.bytes.now) c.send.result (g.S.Stepping.did c.args.steps.now) (g.S.Stepping.did c.note.new.self)
    (g.W.Wire.went c.args.wire.now) (g.W.Wire.went c.send.new.self) (sym c.if-is_err.ensures.value) c.send.ensures c.note.ensures

pub returns-else-is_err : goal.returns-else-is_err
returns-else-is_err g c =
    was_sent (letter c.args.local.now c.args.to.now c.args.bytes.now) c.send.result (g.S.Stepping.did c.args.steps.now)
    (g.W.Wire.went c.args.wire.now) (g.W.Wire.went c.send.new.self) (sym c.if-is_err.ensures.value) c.send.ensures
