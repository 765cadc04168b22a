use Rattle.driver_laws.proofs.PublishingLemmas.{published_exactly}
use Rattle.driver_laws.proofs.publications_are_granted_exactly.Goals as goal

pub returns : goal.returns
returns c settings policy peers events = published_exactly _
