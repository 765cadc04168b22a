use Rattle.std.proofs.Common.{take}
use Rattle.media_agents.specs.Acts.{GoesOn, Trail}
use Rattle.media_agents.specs.Eliciting.{letters_due}
use Rattle.media_agents.specs.Traffic.{AreTried}
use Rattle.media_agents.proofs.eliciting.send_each.Given as goal

abbrev pub invariant-loop-wanted : goal.invariant-loop-wanted
invariant-loop-wanted g l =
    GoesOn (AreTried (letters_due l.receiver_id (take l.wanted-index l.all))) (Trail (g.S.Stepping.did l.fn.steps) (g.W.Wire.went l.fn.wire)) (Trail (g.S.Stepping.did l.steps) (g.W.Wire.went l.wire))
