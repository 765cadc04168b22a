use Rattle.driver_laws.proofs.ImageLemmas.{pairs_exactly}
use Rattle.driver_laws.proofs.NumberLemmas.{numbers_rise}
use Rattle.driver_laws.proofs.images_are_granted_exactly.Goals as goal

pub returns : goal.returns
returns c settings policy peers events = pairs_exactly _ (numbers_rise settings policy peers events)
