use Rattle.driver_world.proofs.ServeLemmas.{event_told}
use Rattle.driver_world.proofs.world.World.conduct.Goals as goal

pub returns-in-Ok-take : goal.returns-in-Ok-take
returns-in-Ok-take c =
    rw (← c.self.view_is, c.of-in-Ok-take.ensures)
    (event_told (record { driver = c.self.inside.driver; audits = c.self.inside.audits.audits; past = c.self.inside.past.past; seats = c.self.inside.seats.seats })
    (record { driver = c.take.new.self; audits = c.tell_event.new.self.audits; past = c.push.new.self.past; seats = c.attach.new.self.seats })
    c.args.event.now c.parts_of-inputs.result.0 c.parts_of-inputs.result.1
    (rw (c.parts_of-inputs.ensures) c.in-Ok-take.ensures.taken) (rw (c.parts_of-inputs.ensures) c.in-Ok-take.ensures.inputs_are)
    (record {
      audits = rw (← c.in-Ok-make_room-2.ensures.same) c.tell_event.ensures;
      past = rw (← c.in-Ok.ensures.same, ← c.in-Ok-of.ensures) c.push.ensures;
      seats = rw (← c.newest.ensures, ← c.in-Ok-make_room.ensures.same) c.attach.ensures;
    }))
