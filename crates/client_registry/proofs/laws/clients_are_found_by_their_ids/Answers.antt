use Rattle.client_registry.proofs.OrderLemmas.{all_are_found}
use Rattle.client_registry.proofs.laws.clients_are_found_by_their_ids.Goals as goal

pub returns : goal.returns
returns c = all_are_found
