use Rattle.driver_laws.proofs.UniqueImageLemmas.{images_unique}
use Rattle.driver_laws.proofs.images_are_unique.Goals as goal

pub returns : goal.returns
returns c settings policy peers events = images_unique settings policy peers events
