use Rattle.driver_laws.proofs.RemovedExactlyLemmas.{uncounted_exactly}
use Rattle.driver_laws.proofs.counters_are_removed_exactly.Goals as goal

pub returns : goal.returns
returns c settings policy peers events = uncounted_exactly _
