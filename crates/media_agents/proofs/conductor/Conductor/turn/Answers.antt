use Rattle.std.proofs.Common.{subst}
use Rattle.driver_core.specs.declared.state.event.Event.TheVariants.{Tick}
use Rattle.media_agents.specs.Turns.{Turned}
use Rattle.media_agents.specs.Works.{Conducting, Does, Misses, Taking, events_made}
use Rattle.media_agents.proofs.conductor.Conductor.turn.Goals as goal

pub returns-clause-turned : goal.returns-clause-turned
returns-clause-turned g c =
    subst (λ (k : Conducting g.row.L.Denot g.row.D.Denot g.row.T.Denot). Turned events_made (Taking (Does g.L.Logs.did g.D.Desks.told g.N.Naming.home g.T.Noting.wrote)) (Taking (Misses g.L.Logs.did g.D.Desks.told g.N.Naming.home))
    k.taker c.turn-misses.new.taker k.known (Tick c.args.now) k.works c.turn-misses.new.conductor c.turn-misses.result) c.self.view_is c.turn-misses.ensures.turned
