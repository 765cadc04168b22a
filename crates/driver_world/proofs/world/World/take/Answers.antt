use Rattle.std.proofs.Common.{◌≡◌, ◌∙◌, max, subst}
use Rattle.driver_steps.specs.Coming.{Comes}
use Rattle.driver_steps.specs.Ends.{looks_at}
use Rattle.driver_steps.specs.declared.step.Step.{Step}
use Rattle.driver_steps.specs.declared.step.Step.TheVariants.{Packet}
use Rattle.log_steps.specs.declared.answered.Came.{Came}
use Rattle.log_steps.specs.declared.answered.Came.TheVariants as came
use Rattle.driver_world.specs.Past.{shown_state}
use Rattle.driver_world.specs.Standing.{Held}
use Rattle.driver_world.specs.Views.{reader_of}
use Rattle.driver_world.proofs.ServeLemmas.{left_of, look_in, looked_served, not_looked, packet_acts}
use Rattle.driver_world.proofs.world.World.take.Goals as goal
use Rattle.frame_codec.specs.Datagram.{packet_of}

pub returns-in-Err : goal.returns-in-Err
returns-in-Err c =
    let reader : c.reader_of-actor.result ≡ reader_of (packet_of c.args.bytes.now) = c.reader_of-actor.ensures (packet_of c.args.bytes.now) c.requires.reads in
    rw (c.look.ensures.same)
    (not_looked c.args.self.now c.args.view (Packet c.args.now c.args.local.now c.args.from.now c.args.bytes.now) c.in-Err.answer
    c.requires.looks (rw (← reader) c.in-Err.ensures.err))

pub returns : goal.returns
returns c =
    let old : Held = record { driver = c.self.inside.driver; audits = c.self.inside.audits.audits; past = c.self.inside.past.past; seats = c.self.inside.seats.seats } in
    let step : Step = Packet c.args.now c.args.local.now c.args.from.now c.args.bytes.now in
    let reader : c.reader_of-actor.result ≡ reader_of (packet_of c.args.bytes.now) = c.reader_of-actor.ensures (packet_of c.args.bytes.now) c.requires.reads in
    let comes : Comes (looks_at c.self.inside.driver.registry (shown_state c.in-Ok.look.older)) c.self.inside.driver c.datagram.new.self c.at-now.result c.args.local.now c.args.from.now c.args.bytes.now (came.Answered c.in-Answered.told) =
    subst (λ (came : Came). Comes (looks_at c.self.inside.driver.registry (shown_state c.in-Ok.look.older)) c.self.inside.driver c.datagram.new.self c.at-now.result c.args.local.now c.args.from.now c.args.bytes.now came) c.in-Answered.is
    (rw (← c.older.ensures) c.datagram.ensures) in
    rw (← c.look.ensures.same, ← c.self.view_is)
    (looked_served old (left_of old c.datagram.new.self c.tell_sender.new.self.audits) c.sit.new.self c.args.view step c.in-Ok.look
    c.in-Answered.told.answer c.requires.looks
    (look_in old c.args.self.now (reader_of (packet_of c.args.bytes.now)) c.args.view c.in-Ok.look (c.self.view_is ∙ c.look.ensures.same) (rw (← reader) c.in-Ok.ensures.ok))
    (packet_acts old c.datagram.new.self c.tell_sender.new.self.audits (shown_state c.in-Ok.look.older) (max c.args.now c.in-Ok.look.moment)
    c.args.local.now c.args.from.now c.args.bytes.now c.in-Answered.told (rw (← c.at-now.ensures) comes) c.tell_sender.ensures)
    (rw (← c.at-now.ensures, ← reader) c.sit.ensures))
