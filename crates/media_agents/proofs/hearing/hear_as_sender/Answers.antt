use Rattle.std.proofs.Common.{ap, ◌∙◌}
use Rattle.std.specs.Prelude.{Result, Ok}
use Rattle.frame_codec.specs.Datagram.{Content, content, packet_of}
use Rattle.frame_codec.specs.declared.fault.BadPacket.{BadPacket}
use Rattle.frame_codec.specs.declared.datagram.Packet.{Packet as FramePacket}
use Rattle.media_agents.specs.Acts.{Trail}
use Rattle.media_agents.proofs.ReadingLemmas.{nak_heard, unread_heard}
use Rattle.media_agents.proofs.hearing.hear_as_sender.Goals as goal

pub returns-in-Ok-Nak-clause-heard : goal.returns-in-Ok-Nak-clause-heard
returns-in-Ok-Nak-clause-heard g c =
    nak_heard c.args.now c.args.local.now c.args.at.now c.args.from.now (packet_of c.args.bytes.now) c.in-Ok-Nak.nak c.args.pass c.answer.result
    (g.S.Stepping.did c.args.steps.now) (g.S.Stepping.did c.note_nak.new.self) (g.W.Wire.went c.args.wire.now)
    (Trail (g.S.Stepping.did c.answer.new.steps) (g.W.Wire.went c.answer.new.wire)) (c.in-Ok-Nak.ensures ∙ ap (λ (packet : FramePacket). let read : Result Content BadPacket = Ok (content packet) in read) c.in-Ok-Nak.field-0-is)
    c.note_nak.ensures c.answer.ensures.answers

pub returns-in-Err-clause-heard : goal.returns-in-Err-clause-heard
returns-in-Err-clause-heard g c =
    unread_heard c.args.now c.args.local.now c.args.at.now c.args.from.now (packet_of c.args.bytes.now) c.in-Err.field-0 c.args.pass
    (g.S.Stepping.did c.args.steps.now) (g.S.Stepping.did c.note.new.self) (g.W.Wire.went c.args.wire.now) c.in-Err.ensures c.note.ensures
