use Rattle.driver_steps.proofs.ResendLemmas.{resends_come}
use Rattle.driver_steps.proofs.laws.resends_come_from_the_live_log.Goals as goal

pub returns : goal.returns
returns c = resends_come
