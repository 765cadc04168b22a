use Rattle.driver_laws.proofs.DecisionLemmas.{decisions_by_policy}
use Rattle.driver_laws.proofs.decisions_are_by_the_policy_in_force.Goals as goal

pub returns : goal.returns
returns c settings policy peers events event inputs = decisions_by_policy _ event inputs
