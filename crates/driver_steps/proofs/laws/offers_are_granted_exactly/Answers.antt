use Rattle.driver_steps.proofs.DecisionLemmas.{offers_exactly}
use Rattle.driver_steps.proofs.laws.offers_are_granted_exactly.Goals as goal

pub returns : goal.returns
returns c = offers_exactly
