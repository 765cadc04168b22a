use Rattle.two_drivers.proofs.PollingLemmas.{polls_give}
use Rattle.two_drivers.proofs.polls_give_a_run.Goals as goal

pub returns : goal.returns
returns c = polls_give
