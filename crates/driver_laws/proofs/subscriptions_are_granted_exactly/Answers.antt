use Rattle.driver_laws.proofs.SubscribingLemmas.{decided_exactly}
use Rattle.driver_laws.proofs.subscriptions_are_granted_exactly.Goals as goal

pub returns : goal.returns
returns c settings policy peers events = decided_exactly _
