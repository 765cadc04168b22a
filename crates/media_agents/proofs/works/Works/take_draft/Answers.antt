use Rattle.std.proofs.Common.{refl}
use Rattle.media_agents.proofs.WorksLemmas.{makes_draft}
use Rattle.published_registry.specs.Histories.{registry_of}
use Rattle.media_agents.proofs.works.Works.take_draft.Goals as goal

pub returns-clause-makes : goal.returns-clause-makes
returns-clause-makes g c =
    makes_draft g.L.Logs.did g.N.Naming.home (registry_of c.args.self.now.history) c.args.draft c.in_ok-ready.ready.entry c.args.self.now c.commit.new.self
    c.commit.result refl c.requires.planned c.requires.ends c.requires.none c.in_ok-ready.ensures.entry
    c.commit.ensures.done c.commit.ensures.response c.commit.ensures.decisions c.commit.ensures.receipt c.commit.ensures.follows c.commit.ensures.mails
