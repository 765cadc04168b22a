use Rattle.policy_core.proofs.Bounds.{settled, steady, steady_coming}
use Rattle.policy_core.proofs.policy.policies_change_at_bounds.Goals as goal

pub returns-clause-same : goal.returns-clause-same
returns-clause-same c = steady

pub returns-clause-coming : goal.returns-clause-coming
returns-clause-coming c = steady_coming

pub returns-clause-settled : goal.returns-clause-settled
returns-clause-settled c = settled
