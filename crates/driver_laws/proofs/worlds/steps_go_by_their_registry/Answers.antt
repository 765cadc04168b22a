use Rattle.driver_laws.proofs.WorldLemmas.{steps_go}
use Rattle.driver_laws.proofs.worlds.steps_go_by_their_registry.Goals as goal

pub returns : goal.returns
returns c = steps_go
