use Rattle.two_drivers.proofs.WorldLemmas.{world_gives}
use Rattle.two_drivers.proofs.second_world_gives_a_run.Goals as goal

pub returns : goal.returns
returns c = world_gives
