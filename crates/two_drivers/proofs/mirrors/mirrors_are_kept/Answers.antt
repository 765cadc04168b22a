use Rattle.two_drivers.proofs.MirrorLemmas.{mirrors_kept}
use Rattle.two_drivers.proofs.mirrors.mirrors_are_kept.Goals as goal

pub returns : goal.returns
returns c = mirrors_kept
