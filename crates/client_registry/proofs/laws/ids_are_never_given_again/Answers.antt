use Rattle.client_registry.proofs.OrderLemmas.{stays_orderly}
use Rattle.client_registry.proofs.laws.ids_are_never_given_again.Goals as goal

pub returns : goal.returns
returns c = stays_orderly
