use Rattle.driver_laws.proofs.WorldLemmas.{worlds_granted}
use Rattle.driver_laws.proofs.worlds.worlds_are_granted_exactly.Goals as goal

pub returns : goal.returns
returns c = worlds_granted
