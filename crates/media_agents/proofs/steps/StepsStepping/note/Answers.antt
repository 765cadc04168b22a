use Rattle.media_agents.proofs.StepsLemmas.{writes_known}
use Rattle.media_agents.specs.Journals.{after_miss}
use Rattle.media_agents.proofs.steps.StepsStepping.note.Goals as goal

pub returns : goal.returns
returns g c = writes_known g.N.Naming.home (after_miss c.args.miss c.args.address.now)
