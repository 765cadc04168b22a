use Rattle.log_slots.specs.Opening.{room_of}
use Rattle.media_agents.proofs.WorksLemmas.{commit_follows}
use Rattle.media_agents.proofs.works.Works.commit.Goals as goal

pub returns-clause-follows : goal.returns-clause-follows
returns-clause-follows g c =
    commit_follows g.L.Logs.did g.N.Naming.home c.args.self.now c.enter.new.self c.finish.new.self c.args.ready.entry (room_of c.args.ready.memory)
    c.args.ready.aftermath.opens c.args.ready.aftermath.gone c.args.ready.aftermath.closes c.finish.ensures.same c.requires.memory
    c.requires.opens c.requires.gone c.requires.closes c.in_ok-receipt.ensures.opens c.finish.ensures.leaves
