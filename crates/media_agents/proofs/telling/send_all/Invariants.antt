use Rattle.std.proofs.Common.{take}
use Rattle.media_agents.specs.Acts.{GoesOn, Trail}
use Rattle.media_agents.specs.Traffic.{AreTried, letters_to}
use Rattle.media_agents.proofs.telling.send_all.Given as goal

abbrev pub invariant-loop-datagram : goal.invariant-loop-datagram
invariant-loop-datagram g l =
    GoesOn (AreTried (letters_to l.local l.to (take l.datagram-index l.datagrams))) (Trail (g.S.Stepping.did l.fn.steps) (g.W.Wire.went l.fn.wire)) (Trail (g.S.Stepping.did l.steps) (g.W.Wire.went l.wire))
