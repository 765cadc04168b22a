use Rattle.driver_laws.proofs.ListingLemmas.{looks_exactly}
use Rattle.driver_laws.proofs.counters_are_shown_exactly.Goals as goal

pub returns : goal.returns
returns c settings policy peers events = looks_exactly _
