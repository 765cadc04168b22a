use Rattle.driver_steps.proofs.SendLawLemmas.{sends_exactly}
use Rattle.driver_steps.proofs.laws.sends_are_granted_exactly.Goals as goal

pub returns : goal.returns
returns c = sends_exactly
