use Rattle.std.proofs.Common.{◌∙◌, sym}
use Rattle.driver_steps.proofs.NewestLemmas.{request_still}
use Rattle.driver_steps.proofs.requests.request_by.Goals as goal
use Rattle.frame_codec.specs.Datagram.{content}

pub returns-in-None : goal.returns-in-None
returns-in-None c =
    rw c.in-None.is
    (c.packet_request.ensures ∙ sym (request_still c.args.newest.now c.args.local.now c.args.from.now (content c.args.packet.now)))
