use Rattle.driver_laws.proofs.GrantLemmas.{counted_exactly}
use Rattle.driver_laws.proofs.counters_are_granted_exactly.Goals as goal

pub returns : goal.returns
returns c settings policy peers events = counted_exactly _
