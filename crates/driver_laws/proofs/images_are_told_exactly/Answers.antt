use Rattle.driver_laws.proofs.ImageTellingLemmas.{images_told_exactly}
use Rattle.driver_laws.proofs.images_are_told_exactly.Goals as goal

pub returns : goal.returns
returns c settings policy peers events = images_told_exactly _
