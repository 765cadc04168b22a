use Rattle.driver_laws.proofs.WorldLemmas.{runs_own}
use Rattle.driver_laws.proofs.worlds.runs_are_the_drivers_own.Goals as goal

pub returns : goal.returns
returns c = runs_own
