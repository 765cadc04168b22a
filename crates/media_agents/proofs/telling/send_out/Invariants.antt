use Rattle.std.proofs.Common.{take}
use Rattle.media_agents.specs.Acts.{GoesOn, Trail}
use Rattle.media_agents.specs.Traffic.{AreTried, letters_out}
use Rattle.media_agents.proofs.telling.send_out.Given as goal

abbrev pub invariant-loop-outlet : goal.invariant-loop-outlet
invariant-loop-outlet g l =
    GoesOn (AreTried (letters_out l.local l.bytes (take l.outlet-index l.outlets))) (Trail (g.S.Stepping.did l.fn.steps) (g.W.Wire.went l.fn.wire)) (Trail (g.S.Stepping.did l.steps) (g.W.Wire.went l.wire))
