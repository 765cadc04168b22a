use Rattle.service_doors.proofs.EnteringLemmas.{came}
use Rattle.service_doors.proofs.hall.Hall.accept_at.Goals as goal

pub returns-in-Ok : goal.returns-in-Ok
returns-in-Ok g c =
    let lookup = c.in_ok-door.ensures.lookup in
    came c.args.doors.now c.args.place c.in_ok-door.door.now c.meet.result lookup.3.0 lookup.1 c.meet.ensures
