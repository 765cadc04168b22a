use Rattle.two_drivers.proofs.StreamLemmas.{images_named}
use Rattle.two_drivers.proofs.images_are_of_the_stream.Goals as goal

pub returns : goal.returns
returns c = images_named
