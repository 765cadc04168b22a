use Rattle.published_registry.proofs.Later.{newer_later}
use Rattle.published_registry.proofs.laws.later_looks_are_by_that_policy_or_a_later_one.Goals as goal

pub returns : goal.returns
returns c = newer_later c.policies_only_get_newer.ensures
