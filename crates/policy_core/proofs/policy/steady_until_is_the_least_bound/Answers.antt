use Rattle.policy_core.proofs.LeastBound.{least, none}
use Rattle.policy_core.proofs.policy.steady_until_is_the_least_bound.Goals as goal

pub returns-clause-least : goal.returns-clause-least
returns-clause-least c = least

pub returns-clause-none : goal.returns-clause-none
returns-clause-none c = none
