use Rattle.driver_laws.proofs.ProspectLemmas.{limits_count}
use Rattle.driver_laws.proofs.limits_count_what_is_ever_allowed.Goals as goal

pub returns : goal.returns
returns c = limits_count
