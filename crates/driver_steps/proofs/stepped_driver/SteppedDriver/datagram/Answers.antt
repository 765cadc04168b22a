use Rattle.std.proofs.Common.{rules, ◌≡◌, Ok}
use Rattle.std.specs.Prelude.{option_copied}
use Rattle.driver_steps.specs.Ends.{looks_at}
use Rattle.driver_steps.specs.Requests.{IsOpenContent}
use Rattle.driver_steps.proofs.RequestLemmas.{comes_told, read_as}
use Rattle.driver_steps.proofs.stepped_driver.SteppedDriver.datagram.Goals as goal
use Rattle.frame_codec.specs.Datagram.{content, packet_of}

pub returns-in-Ok : goal.returns-in-Ok
returns-in-Ok c =
    let is : packet_of c.args._bytes.now ≡ Ok (content c.in-Ok.packet) = read_as c.args._bytes.now c.in-Ok.packet c.args.read c.requires c.in-Ok.is in
    let other : IsOpenContent (content c.in-Ok.packet) = search rules in
    comes_told (looks_at c.args.self.now.registry (option_copied c.args.older)) c.args.self.now c.packet.new.self c.args.now c.args.local.now
    c.args.from.now c.args._bytes.now (content c.in-Ok.packet) c.packet.result other is c.packet.ensures.serves c.packet.ensures.decides
