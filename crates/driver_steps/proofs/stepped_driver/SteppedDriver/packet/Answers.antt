use Rattle.std.proofs.Common.{Ok, subst}
use Rattle.std.specs.Prelude.{option_copied}
use Rattle.driver_core.specs.State.{State}
use Rattle.driver_steps.specs.Ends.{looks_at, on_packet}
use Rattle.driver_steps.specs.Standing.{Held, ServesAs}
use Rattle.driver_steps.proofs.RequestLemmas.{decides_by, is_for_request, packet_goes}
use Rattle.driver_steps.proofs.ServingLemmas.{held_by, served_as}
use Rattle.driver_steps.proofs.stepped_driver.SteppedDriver.packet.Goals as goal
use Rattle.frame_codec.specs.Datagram.{content}

pub packet_by-requires : goal.packet_by-requires
packet_by-requires c =
    rw c.request_by-request.ensures
    (is_for_request (looks_at c.self.inside.registry (option_copied c.args.older)) c.self.inside.registry c.self.inside.logs c.args.local.now
    c.args.from.now (content c.args.packet) c.self.invariant.0 c.requires.sound)

pub invariant_of-self : goal.invariant_of-self
invariant_of-self c = (c.packet_by.ensures.kept.on c.self.inside.registry c.self.invariant.0, c.self.invariant.1)

pub returns-clause-serves : goal.returns-clause-serves
returns-clause-serves c =
    let shown : State = looks_at c.self.inside.registry (option_copied c.args.older) in
    subst
    (λ (held : Held). ServesAs held (held_by c.self.inside.registry c.packet_by.new.logs)
    (λ e. on_packet (looks_at held.registry (option_copied c.args.older)) e c.args.now c.args.local.now c.args.from.now (Ok (content c.args.packet)))
    c.packet_by.result.answer)
    c.self.view_is
    (served_as c.self.inside.registry c.self.inside.logs c.packet_by.new.logs _
    (λ e. on_packet shown e c.args.now c.args.local.now c.args.from.now (Ok (content c.args.packet))) c.packet_by.result.answer
    (λ e same.
    rw c.request_by-request.ensures
    (packet_goes shown c.self.inside.registry e c.args.now c.args.local.now c.args.from.now (content c.args.packet) c.requires.other same))
    c.packet_by.ensures.serves)

pub returns-clause-decides : goal.returns-clause-decides
returns-clause-decides c =
    rw (← c.self.view_is)
    (decides_by (looks_at c.self.inside.registry (option_copied c.args.older)) c.self.inside.registry c.self.inside.logs c.args.local.now
    c.args.from.now (content c.args.packet) c.packet_by.result.answer c.packet_by.result.decision
    (rw (← c.request_by-request.ensures) c.packet_by.ensures.decides))
