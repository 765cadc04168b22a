use Prim.{search}
use Rattle.std.proofs.Common.{rules}
use Rattle.media_agents.proofs.ReadingLemmas.{written}
use Rattle.media_agents.proofs.TrafficLemmas.{was_read, was_unread}
use Rattle.media_agents.proofs.reading.Room.next.Goals as goal

pub returns-in-Ok-clause-wire : goal.returns-in-Ok-clause-wire
returns-in-Ok-clause-wire g c =
    was_read c.args.local.now c.in-Ok.read _ c.recv.new.buffer c.recv.result (g.S.Stepping.did c.args.steps.now)
    (g.W.Wire.went c.args.wire.now) (g.W.Wire.went c.recv.new.self) (written c.args.self.now.bytes.len c.recv.new.buffer c.args.self.now.bytes.items (search rules)) c.in-Ok.is c.recv.ensures.event

pub returns-in-Err-clause-wire : goal.returns-in-Err-clause-wire
returns-in-Err-clause-wire g c =
    was_unread c.args.local.now c.in-Err.field-0 c.recv.new.buffer c.recv.result (g.S.Stepping.did c.args.steps.now) (g.S.Stepping.did c.note.new.self)
    (g.W.Wire.went c.args.wire.now) (g.W.Wire.went c.recv.new.self) c.in-Err.is c.recv.ensures.event c.note.ensures
