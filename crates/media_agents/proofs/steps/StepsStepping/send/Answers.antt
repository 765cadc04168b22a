use Rattle.media_agents.proofs.StepsLemmas.{sends_known}
use Rattle.media_agents.proofs.steps.StepsStepping.send.Goals as goal

pub returns-in-Some-clause-did : goal.returns-in-Some-clause-did
returns-in-Some-clause-did g c =
    sends_known g.N.Naming.home c.args.now c.args.at c.send_at.result.1 c.args.pass c.send_at.result.0 c.send_at.ensures.known c.send_at.ensures.step
