use Rattle.two_drivers.proofs.PublicationLemmas.{run_gives}
use Rattle.two_drivers.proofs.run_gives_a_run_of_the_publication.Goals as goal

pub returns : goal.returns
returns c = run_gives
