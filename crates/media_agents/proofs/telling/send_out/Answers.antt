use Rattle.driver_core.specs.declared.asked.send_request.Outlet.{Outlet}
use Rattle.media_agents.specs.Acts.{Trail}
use Rattle.media_agents.proofs.TrafficLemmas.{out_more, tried_none}
use Rattle.media_agents.specs.Traffic.{is_allowed}
use Rattle.media_wire.specs.Letters.{letter}
use Rattle.media_agents.proofs.telling.send_out.Goals as goal

pub loop-outlet-init : goal.loop-outlet-init
loop-outlet-init g c = tried_none (Trail (g.S.Stepping.did c.args.steps.now) (g.W.Wire.went c.args.wire.now))

pub loop-outlet-preserved : goal.loop-outlet-preserved
loop-outlet-preserved g c =
    out_more (λ (outlet : Outlet). letter c.args.local.now outlet.to c.args.bytes.now) is_allowed c.args.outlets.now c.loop-outlet.outlet-index _
    (Trail (g.S.Stepping.did c.args.steps.now) (g.W.Wire.went c.args.wire.now)) (Trail (g.S.Stepping.did c.loop-outlet.steps) (g.W.Wire.went c.loop-outlet.wire)) (Trail (g.S.Stepping.did c.send_if.new.steps) (g.W.Wire.went c.send_if.new.wire))
    c.loop-outlet-test.true c.loop-outlet.invariant c.send_if.ensures
