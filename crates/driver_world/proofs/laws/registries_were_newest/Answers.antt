use Rattle.driver_world.proofs.PastLemmas.{registries_were}
use Rattle.driver_world.proofs.laws.registries_were_newest.Goals as goal

pub returns : goal.returns
returns c = registries_were
