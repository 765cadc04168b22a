use Rattle.media_agents.proofs.WorksLemmas.{makes_does}
use Rattle.media_agents.proofs.works.Works.serve.Goals as goal

pub returns-in-Ok : goal.returns-in-Ok
returns-in-Ok g c =
    makes_does g.L.Logs.did g.D.Desks.told g.N.Naming.home g.T.Noting.wrote c.args.event.now c.args.self.now c.take.new.self c.answer.new.self c.in-Ok.made.response
    c.in-Ok.made.decisions c.in-Ok.made.receipt c.in-Ok.ensures.makes c.answer.ensures.notes c.answer.ensures.reports c.answer.ensures.same
