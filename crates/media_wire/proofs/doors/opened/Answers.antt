use Rattle.media_wire.specs.Doors.{unbound, waiting}
use Rattle.media_wire.proofs.doors.opened.Goals as goal

pub returns-in-Err-never_wait : goal.returns-in-Err-never_wait
returns-in-Err-never_wait g c = waiting _ _ _ c.form.ensures c.in-Ok.ensures.did c.in-Err-never_wait.ensures

pub returns-in-Err : goal.returns-in-Err
returns-in-Err g c = unbound _ _ c.form.ensures c.in-Err.ensures.did
