use Rattle.driver_laws.proofs.MomentLemmas.{policies_stand}
use Rattle.driver_laws.proofs.policies_stand_at_their_moment.Goals as goal

pub returns : goal.returns
returns c = policies_stand
