use Rattle.retransmit_gate.proofs.ResendLemmas.{resends_asked}
use Rattle.retransmit_gate.proofs.laws.resends_were_asked_for.Goals as goal

pub returns : goal.returns
returns c = resends_asked
