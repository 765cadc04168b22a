use Rattle.two_drivers.proofs.WellLemmas.{stay_well}
use Rattle.two_drivers.proofs.mirrors.wholes_stay_well.Goals as goal

pub returns : goal.returns
returns c = stay_well
