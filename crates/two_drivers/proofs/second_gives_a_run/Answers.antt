use Rattle.two_drivers.proofs.DriversLemmas.{second_gives}
use Rattle.two_drivers.proofs.second_gives_a_run.Goals as goal

pub returns : goal.returns
returns c = second_gives
