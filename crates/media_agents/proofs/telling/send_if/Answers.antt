use Rattle.driver_core.specs.declared.asked.send_request.Outlet.{Outlet}
use Rattle.media_agents.specs.Acts.{Trail}
use Rattle.media_agents.proofs.TrafficLemmas.{goes_if, withheld_if}
use Rattle.media_agents.specs.Traffic.{is_allowed}
use Rattle.media_wire.specs.Letters.{letter}
use Rattle.media_agents.proofs.telling.send_if.Goals as goal

pub returns-then-not-outlet : goal.returns-then-not-outlet
returns-then-not-outlet g c =
    withheld_if (λ (outlet : Outlet). letter c.args.local.now outlet.to c.args.bytes.now) is_allowed c.args.outlet.now (Trail (g.S.Stepping.did c.args.steps.now) (g.W.Wire.went c.args.wire.now)) c.if-not-outlet.true

pub returns : goal.returns
returns g c =
    goes_if (λ (outlet : Outlet). letter c.args.local.now outlet.to c.args.bytes.now) is_allowed c.args.outlet.now
    (Trail (g.S.Stepping.did c.args.steps.now) (g.W.Wire.went c.args.wire.now)) (Trail (g.S.Stepping.did c.send.new.steps) (g.W.Wire.went c.send.new.wire)) c.if-not-outlet.false c.send.ensures
