use Rattle.retransmit_gate.proofs.ResendLemmas.{resends_exactly}
use Rattle.retransmit_gate.proofs.laws.ranges_are_resent_exactly.Goals as goal

pub returns : goal.returns
returns c = resends_exactly
