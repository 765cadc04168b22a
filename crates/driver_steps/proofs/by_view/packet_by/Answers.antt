use Rattle.std.proofs.Common.{refl}
use Rattle.log_steps.specs.Packets.{content_move}
use Rattle.log_steps.specs.Receiving.{unheard}
use Rattle.driver_steps.proofs.RequestLemmas.{content_told, first_decides}
use Rattle.driver_steps.proofs.ServingLemmas.{logs_kept, logs_refused, logs_served}
use Rattle.driver_steps.proofs.by_view.packet_by.Goals as goal
use Rattle.frame_codec.specs.Datagram.{content}

pub returns-in-Ok-packet-clause-serves : goal.returns-in-Ok-packet-clause-serves
returns-in-Ok-packet-clause-serves c =
    let request = c.in-Ok.request in
    let sent = content c.args.packet in
    rw c.in-Ok.is
    (logs_served _ _ _ request.source (content_move c.args.now c.args.from.now request.decision sent) unheard _ (λ e. refl) tt
    (content_told c.args.now c.args.from.now request.decision sent) c.in-Ok-packet.ensures.moved)

pub returns-in-Ok-packet-clause-decides : goal.returns-in-Ok-packet-clause-decides
returns-in-Ok-packet-clause-decides c =
    rw c.in-Ok.is
    (first_decides c.args.logs.now c.packet.new.self c.args.now c.args.from.now (content c.args.packet) c.in-Ok.request
    c.in-Ok-packet.told.answer c.in-Ok-packet.told.decision c.in-Ok-packet.ensures.decides c.in-Ok-packet.ensures.moved)

pub returns-in-Ok-packet-clause-kept : goal.returns-in-Ok-packet-clause-kept
returns-in-Ok-packet-clause-kept c = logs_kept _ _ c.in-Ok.request.source _ _ _ c.in-Ok-packet.ensures.moved

pub returns-in-Err-packet-clause-serves : goal.returns-in-Err-packet-clause-serves
returns-in-Err-packet-clause-serves c =
    let request = c.in-Ok.request in
    rw (c.refused.ensures, c.in-Ok.is)
    (logs_refused _ _ _ request.source (content_move c.args.now c.args.from.now request.decision (content c.args.packet)) unheard
    (λ e. refl) c.in-Err-packet.ensures.err c.in-Err-packet.ensures.without_memory)
