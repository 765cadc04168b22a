use Rattle.std.proofs.Common.{Ok, ap, ◌∙◌}
use Rattle.driver_world.proofs.ServeLemmas.{setup_told}
use Rattle.driver_world.proofs.world.World.packet.Goals as goal
use Rattle.frame_codec.specs.Datagram.{content}

pub returns-in-Ok-Setup : goal.returns-in-Ok-Setup
returns-in-Ok-Setup c =
    setup_told c.args.self.now c.set_up.new.self c.args.view c.args.now c.args.local.now c.args.from.now c.args.bytes.now c.in-Ok-Setup.setup
    c.set_up.result (c.in-Ok-Setup.ensures ∙ ap (λ p. Ok (content p)) c.in-Ok-Setup.field-0-is) c.set_up.ensures
