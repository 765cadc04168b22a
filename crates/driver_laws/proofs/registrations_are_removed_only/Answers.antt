use Rattle.driver_laws.proofs.GoingLemmas.{registrations_go_only}
use Rattle.driver_laws.proofs.registrations_are_removed_only.Goals as goal

pub returns : goal.returns
returns c settings policy peers events = registrations_go_only _
