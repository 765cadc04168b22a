use Rattle.driver_laws.proofs.MomentLemmas.{moments_take}
use Rattle.driver_laws.proofs.moments_take_and_give_exactly.Goals as goal

pub returns : goal.returns
returns c = moments_take
