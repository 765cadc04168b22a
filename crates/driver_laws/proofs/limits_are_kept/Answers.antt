use Rattle.driver_laws.proofs.LimitLemmas.{limits_kept}
use Rattle.driver_laws.proofs.limits_are_kept.Goals as goal

pub returns : goal.returns
returns c = limits_kept
