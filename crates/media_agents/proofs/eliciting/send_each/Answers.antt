use Rattle.media_agents.specs.Acts.{Trail}
use Rattle.media_agents.proofs.TrafficLemmas.{out_more, tried_none}
use Rattle.media_agents.specs.declared.eliciting.Wanted.{Wanted}
use Rattle.media_agents.specs.Eliciting.{eliciting_letter}
use Rattle.media_agents.proofs.eliciting.send_each.Goals as goal

pub loop-wanted-init : goal.loop-wanted-init
loop-wanted-init g c = tried_none (Trail (g.S.Stepping.did c.args.steps.now) (g.W.Wire.went c.args.wire.now))

pub loop-wanted-preserved : goal.loop-wanted-preserved
loop-wanted-preserved g c =
    out_more (eliciting_letter c.args.receiver_id) (λ (wanted : Wanted). wanted.due) c.args.all.now c.loop-wanted.wanted-index _
    (Trail (g.S.Stepping.did c.args.steps.now) (g.W.Wire.went c.args.wire.now)) (Trail (g.S.Stepping.did c.loop-wanted.steps) (g.W.Wire.went c.loop-wanted.wire)) (Trail (g.S.Stepping.did c.send_if.new.steps) (g.W.Wire.went c.send_if.new.wire))
    c.loop-wanted-test.true c.loop-wanted.invariant c.send_if.ensures
