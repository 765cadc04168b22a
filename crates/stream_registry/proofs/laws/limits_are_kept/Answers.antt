use Rattle.stream_registry.proofs.LimitLemmas.{stays_within_limits}
use Rattle.stream_registry.proofs.laws.limits_are_kept.Goals as goal

pub returns : goal.returns
returns c = stays_within_limits
