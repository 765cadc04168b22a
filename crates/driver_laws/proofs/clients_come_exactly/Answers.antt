use Rattle.driver_laws.proofs.AttachingLemmas.{attached_exactly}
use Rattle.driver_laws.proofs.OwnerLemmas.{rows_owned}
use Rattle.driver_laws.proofs.clients_come_exactly.Goals as goal

pub returns : goal.returns
returns c settings policy peers events = attached_exactly _ (rows_owned settings policy peers events)
