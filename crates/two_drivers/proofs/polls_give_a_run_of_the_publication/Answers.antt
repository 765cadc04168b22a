use Rattle.two_drivers.proofs.PromiseLemmas.{promise}
use Rattle.two_drivers.proofs.polls_give_a_run_of_the_publication.Goals as goal

pub returns : goal.returns
returns c = promise
