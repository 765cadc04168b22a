use Rattle.std.proofs.Common.{◌≡◌, rules, subst, sym}
use Rattle.media_agents.proofs.WorksLemmas.{makes_with, some_joined}
use Rattle.media_agents.specs.Following.{coming}
use Rattle.media_agents.specs.Works.{WorksState}
use Rattle.published_registry.specs.Histories.{history_in, registry_of}
use Rattle.media_agents.proofs.works.Works.take_joined.Goals as goal

pub returns-clause-makes : goal.returns-clause-makes
returns-clause-makes g c =
    let registry : c.newest.result.now ≡ registry_of (history_in c.self.inside.publisher) = search rules in
    let draft = c.args.draft.now in
    let come = subst (λ (w : WorksState g.row.L.Denot g.row.D.Denot g.row.T.Denot). draft.outcome.come ≡ coming (registry_of w.history) c.args.event.now draft.inputs.silent) (sym c.self.view_is) c.requires.come in
    rw (← c.self.view_is) (
    makes_with g.L.Logs.did g.N.Naming.home c.newest.result.now draft.inputs.silent c.args.event.now draft.outcome.come c.in_ok-ready.ready.entry _ c.commit.new.self
    c.plan_joined.new.logs c.commit.result registry c.in_ok-ready.ensures.planned c.in_ok-ready.ensures.event_is c.in_ok-ready.ensures.silent come
    c.in_ok-ready.ensures.ends c.commit.ensures.done c.commit.ensures.response c.commit.ensures.decisions c.commit.ensures.receipt c.commit.ensures.follows c.commit.ensures.mails)

pub returns-clause-some : goal.returns-clause-some
returns-clause-some g c =
    let registry : c.newest.result.now ≡ registry_of (history_in c.self.inside.publisher) = search rules in
    rw (← c.self.view_is) (
    some_joined g.L.Logs.did g.N.Naming.home c.newest.result.now (registry_of (history_in c.self.inside.publisher)) c.args.draft.now.outcome.come
    c.in_ok-ready.ready.entry.inputs.ends c.self.inside.logs _ c.commit.new.self c.commit.result registry c.commit.ensures.err c.in_ok-ready.ensures.ends)
