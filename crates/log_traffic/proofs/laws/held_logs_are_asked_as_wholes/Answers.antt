use Rattle.log_traffic.proofs.ResendingLemmas.{asks_same}
use Rattle.log_traffic.proofs.laws.held_logs_are_asked_as_wholes.Goals as goal

pub returns : goal.returns
returns c = asks_same
