use Rattle.media_agents.proofs.StepsLemmas.{writes_known}
use Rattle.media_agents.specs.Journals.{after_nak}
use Rattle.media_agents.proofs.steps.StepsStepping.note_nak.Goals as goal

pub returns : goal.returns
returns g c = writes_known g.N.Naming.home (after_nak)
