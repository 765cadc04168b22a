use Rattle.driver_steps.proofs.DecisionLemmas.{polls_exactly}
use Rattle.driver_steps.proofs.laws.polls_are_granted_exactly.Goals as goal

pub returns : goal.returns
returns c = polls_exactly
