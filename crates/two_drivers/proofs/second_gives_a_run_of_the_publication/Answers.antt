use Rattle.two_drivers.proofs.PublicationLemmas.{publication_run}
use Rattle.two_drivers.proofs.second_gives_a_run_of_the_publication.Goals as goal

pub returns : goal.returns
returns c = publication_run
