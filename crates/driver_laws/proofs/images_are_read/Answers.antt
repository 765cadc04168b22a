use Rattle.driver_laws.proofs.StayingLemmas.{images_read}
use Rattle.driver_laws.proofs.images_are_read.Goals as goal

pub returns : goal.returns
returns c = images_read
