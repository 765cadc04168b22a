use Rattle.driver_laws.proofs.RemovedExactlyLemmas.{unregistered_exactly}
use Rattle.driver_laws.proofs.registrations_are_removed_exactly.Goals as goal

pub returns : goal.returns
returns c settings policy peers events = unregistered_exactly _
