use Rattle.retransmit_gate.proofs.NakLemmas.{gaps_asked}
use Rattle.retransmit_gate.proofs.laws.gaps_are_asked_exactly.Goals as goal

pub returns : goal.returns
returns c = gaps_asked
