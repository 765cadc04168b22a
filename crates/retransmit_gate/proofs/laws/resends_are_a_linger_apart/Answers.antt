use Rattle.retransmit_gate.proofs.ResendLemmas.{resends_apart}
use Rattle.retransmit_gate.proofs.laws.resends_are_a_linger_apart.Goals as goal

pub returns : goal.returns
returns c = resends_apart
