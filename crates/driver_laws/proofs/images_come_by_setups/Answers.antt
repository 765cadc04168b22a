use Rattle.driver_laws.proofs.PublicationLemmas.{images_come}
use Rattle.driver_laws.proofs.images_come_by_setups.Goals as goal

pub returns : goal.returns
returns c settings policy peers events = images_come _
