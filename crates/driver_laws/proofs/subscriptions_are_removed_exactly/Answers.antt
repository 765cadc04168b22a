use Rattle.driver_laws.proofs.RemovalLemmas.{removed_exactly}
use Rattle.driver_laws.proofs.NumberLemmas.{numbers_rise}
use Rattle.driver_laws.proofs.subscriptions_are_removed_exactly.Goals as goal

pub returns : goal.returns
returns c settings policy peers events = removed_exactly _ (numbers_rise settings policy peers events)
