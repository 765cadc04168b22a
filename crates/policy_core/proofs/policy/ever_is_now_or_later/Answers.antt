use Rattle.policy_core.proofs.Ever.{ever_complete, ever_sound}
use Rattle.policy_core.proofs.policy.ever_is_now_or_later.Goals as goal

pub returns-clause-sound : goal.returns-clause-sound
returns-clause-sound c = ever_sound

pub returns-clause-complete : goal.returns-clause-complete
returns-clause-complete c = ever_complete
