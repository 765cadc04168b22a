use Rattle.two_drivers.proofs.GivenLemmas.{good_mirrored}
use Rattle.two_drivers.proofs.good_datagrams_are_mirrored.Goals as goal

pub returns : goal.returns
returns c = good_mirrored
