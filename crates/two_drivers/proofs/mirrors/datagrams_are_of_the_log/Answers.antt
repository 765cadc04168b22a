use Rattle.two_drivers.proofs.ReadingLemmas.{datagrams_read}
use Rattle.two_drivers.proofs.mirrors.datagrams_are_of_the_log.Goals as goal

pub returns : goal.returns
returns c = datagrams_read
