use Rattle.std.proofs.Common.{◌≡◌, ap, rules, subst}
use Rattle.driver_core.specs.State.{State}
use Rattle.media_agents.specs.Acts.{Each, GoesOn}
use Rattle.media_agents.specs.Asking.{Settles}
use Rattle.media_agents.specs.Works.{WorksState}
use Rattle.published_registry.specs.Histories.{registry_of}
use Rattle.media_agents.proofs.works.Works.settle_pairs.Goals as goal

pub returns-clause-settled : goal.returns-clause-settled
returns-clause-settled g c =
    let did = g.L.Logs.did in
    let registry : c.newest.result.now ≡ registry_of c.args.self.now.history = search rules in
    subst (λ (logs : g.row.L.Denot). GoesOn (Each (Settles (registry_of c.args.self.now.history)) c.args.pairs.now) (did logs) (did c.settle.new.logs))
    (ap (λ (w : WorksState g.row.L.Denot g.row.D.Denot g.row.T.Denot). w.logs) c.self.view_is)
    (subst (λ (s : State). GoesOn (Each (Settles s) c.args.pairs.now) (did c.self.inside.logs) (did c.settle.new.logs)) registry c.settle.ensures)
