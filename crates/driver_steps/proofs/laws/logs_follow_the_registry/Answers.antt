use Rattle.driver_steps.proofs.FollowLemmas.{logs_follow}
use Rattle.driver_steps.proofs.laws.logs_follow_the_registry.Goals as goal

pub returns : goal.returns
returns c = logs_follow
