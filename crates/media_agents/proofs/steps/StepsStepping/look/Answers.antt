use Rattle.media_agents.proofs.StepsLemmas.{look_known}
use Rattle.media_agents.proofs.steps.StepsStepping.look.Goals as goal

pub returns-clause-did : goal.returns-clause-did
returns-clause-did g c = look_known g.N.Naming.home c.enter.result
