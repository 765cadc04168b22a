use Rattle.std.proofs.Common.{ap, ◌∙◌}
use Rattle.media_wire.specs.Sockets.{Sockets}
use Rattle.media_wire.proofs.Counting.{counts_sent}
use Rattle.media_wire.proofs.Uses.{used_by}
use Rattle.media_wire.proofs.udp.UdpWire.send.Goals as goal

pub returns-clause-event : goal.returns-clause-event
returns-clause-event g c = λ events is.
    c.failed_of-self-inside.ensures ∙ counts_sent events _ c.send_from-sent.result c.self.inside.failures (ap (λ (it : Sockets g.row.S.Denot). it.failures) c.self.view_is ∙ is)

pub returns-clause-used : goal.returns-clause-used
returns-clause-used g c = used_by g.S.Socket.did g.S.Socket.stands _ _ _ c.args.self.now _ _ _ c.self.view_is c.send_from-sent.ensures.used
