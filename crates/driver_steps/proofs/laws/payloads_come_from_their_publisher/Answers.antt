use Rattle.driver_steps.proofs.CarryingLemmas.{payloads_come}
use Rattle.driver_steps.proofs.laws.payloads_come_from_their_publisher.Goals as goal

pub returns : goal.returns
returns c = payloads_come
