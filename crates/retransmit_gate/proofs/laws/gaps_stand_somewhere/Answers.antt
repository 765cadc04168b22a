use Rattle.retransmit_gate.proofs.NakStands.{gaps_stand}
use Rattle.retransmit_gate.proofs.laws.gaps_stand_somewhere.Goals as goal

pub returns : goal.returns
returns c = gaps_stand
