use Rattle.driver_laws.proofs.MomentLemmas.{ticks_full}
use Rattle.driver_laws.proofs.ticks_are_never_full.Goals as goal

pub returns : goal.returns
returns c = ticks_full
