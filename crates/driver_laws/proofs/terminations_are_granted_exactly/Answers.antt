use Rattle.driver_laws.proofs.GrantLemmas.{terminated_exactly}
use Rattle.driver_laws.proofs.terminations_are_granted_exactly.Goals as goal

pub returns : goal.returns
returns c settings policy peers events = terminated_exactly _
