use Rattle.driver_laws.proofs.WorldLemmas.{worlds_served}
use Rattle.driver_laws.proofs.worlds.worlds_are_served_from_the_live_log.Goals as goal

pub returns : goal.returns
returns c = worlds_served
