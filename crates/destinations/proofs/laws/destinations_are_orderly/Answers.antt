use Rattle.destinations.proofs.OrderLemmas.{stays_orderly}
use Rattle.destinations.proofs.laws.destinations_are_orderly.Goals as goal

pub returns : goal.returns
returns c = stays_orderly
