use Rattle.two_drivers.proofs.ReadingLemmas.{resends_read}
use Rattle.two_drivers.proofs.mirrors.resends_are_of_the_log.Goals as goal

pub returns : goal.returns
returns c = resends_read
