use Rattle.std.proofs.Common.{◌≡◌, [], ap, refl, rules}
use Rattle.media_agents.proofs.WorksLemmas.{asked_makes, nothing_undone, undoes}
use Rattle.media_agents.specs.Works.{WorksState}
use Rattle.published_registry.specs.Histories.{registry_of}
use Rattle.media_agents.proofs.works.Works.take.Goals as goal

pub returns-then-is_empty-clause-undone : goal.returns-then-is_empty-clause-undone
returns-then-is_empty-clause-undone g c =
    let draft = c.in_ok-draft.draft in
    let s = registry_of c.args.self.now.history in
    let none : draft.outcome.come ≡ [] = search rules in
    undoes g.L.Logs.did s s c.args.event.now draft.inputs.silent draft.outcome.come c.args.self.now.logs c.foresee_event.new.self.logs
    c.take_draft.new.self.logs c.take_draft.result refl c.in_ok-draft.ensures.come c.in_ok-draft.ensures.silent
    (nothing_undone g.L.Logs.did s draft.outcome.come c.foresee_event.new.self c.take_draft.new.self c.take_draft.result none c.take_draft.ensures.err)

pub returns-else-is_empty-clause-makes : goal.returns-else-is_empty-clause-makes
returns-else-is_empty-clause-makes g c =
    asked_makes g.L.Logs.did g.N.Naming.home c.args.event.now c.in_ok-draft.draft.inputs.silent c.args.self.now c.foresee_event.new.self
    c.take_foreseen.new.self c.take_foreseen.result c.foresee_event.ensures.same c.in_ok-draft.ensures.silent c.take_foreseen.ensures.makes

pub returns-else-is_empty-clause-undone : goal.returns-else-is_empty-clause-undone
returns-else-is_empty-clause-undone g c =
    let draft = c.in_ok-draft.draft in
    undoes g.L.Logs.did (registry_of c.args.self.now.history) (registry_of c.foresee_event.new.self.history) c.args.event.now
    draft.inputs.silent draft.outcome.come c.args.self.now.logs c.foresee_event.new.self.logs c.take_foreseen.new.self.logs
    c.take_foreseen.result (ap (λ (w : WorksState g.row.L.Denot g.row.D.Denot g.row.T.Denot). registry_of w.history) c.foresee_event.ensures.same)
    c.in_ok-draft.ensures.come c.in_ok-draft.ensures.silent c.take_foreseen.ensures.undone
