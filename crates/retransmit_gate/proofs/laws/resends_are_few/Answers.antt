use Rattle.retransmit_gate.proofs.ResendLemmas.{resends_few}
use Rattle.retransmit_gate.proofs.laws.resends_are_few.Goals as goal

pub returns : goal.returns
returns c = resends_few
