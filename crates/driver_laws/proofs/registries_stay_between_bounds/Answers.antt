use Rattle.driver_laws.proofs.MomentLemmas.{stays_between}
use Rattle.driver_laws.proofs.registries_stay_between_bounds.Goals as goal

pub returns : goal.returns
returns c = stays_between
