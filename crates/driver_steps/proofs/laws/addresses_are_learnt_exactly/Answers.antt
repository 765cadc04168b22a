use Rattle.driver_steps.proofs.JoinLemmas.{addresses_learnt}
use Rattle.driver_steps.proofs.laws.addresses_are_learnt_exactly.Goals as goal

pub returns : goal.returns
returns c = addresses_learnt
