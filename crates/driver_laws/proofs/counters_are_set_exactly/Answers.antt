use Rattle.driver_laws.proofs.RemovedExactlyLemmas.{set_exactly}
use Rattle.driver_laws.proofs.counters_are_set_exactly.Goals as goal

pub returns : goal.returns
returns c settings policy peers events = set_exactly _
