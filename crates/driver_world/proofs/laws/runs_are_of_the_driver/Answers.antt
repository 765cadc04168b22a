use Rattle.driver_world.proofs.RunLemmas.{is_drivers_run}
use Rattle.driver_world.proofs.laws.runs_are_of_the_driver.Goals as goal

pub returns : goal.returns
returns c = is_drivers_run
