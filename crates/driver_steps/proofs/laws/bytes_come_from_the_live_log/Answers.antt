use Rattle.driver_steps.proofs.LiveLemmas.{bytes_come}
use Rattle.driver_steps.proofs.laws.bytes_come_from_the_live_log.Goals as goal

pub returns : goal.returns
returns c = bytes_come
