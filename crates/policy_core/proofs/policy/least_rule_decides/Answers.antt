use Rattle.policy_core.proofs.FirstMatch.{first_decides, some_first, none_defaults}
use Rattle.policy_core.proofs.policy.least_rule_decides.Goals as goal

pub returns-clause-first : goal.returns-clause-first
returns-clause-first c = first_decides

pub returns-clause-exists : goal.returns-clause-exists
returns-clause-exists c = some_first

pub returns-clause-none : goal.returns-clause-none
returns-clause-none c = none_defaults
