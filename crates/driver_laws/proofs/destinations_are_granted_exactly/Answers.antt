use Rattle.driver_laws.proofs.DestinationLemmas.{directed_exactly}
use Rattle.driver_laws.proofs.destinations_are_granted_exactly.Goals as goal

pub returns : goal.returns
returns c settings policy peers events = directed_exactly _
