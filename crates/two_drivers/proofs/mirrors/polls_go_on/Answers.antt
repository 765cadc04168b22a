use Rattle.two_drivers.proofs.LineLemmas.{polls_on}
use Rattle.two_drivers.proofs.mirrors.polls_go_on.Goals as goal

pub returns : goal.returns
returns c = polls_on
