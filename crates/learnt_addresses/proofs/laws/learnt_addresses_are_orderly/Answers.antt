use Rattle.learnt_addresses.proofs.OrderLemmas.{stays_orderly}
use Rattle.learnt_addresses.proofs.laws.learnt_addresses_are_orderly.Goals as goal

pub returns : goal.returns
returns c = stays_orderly
