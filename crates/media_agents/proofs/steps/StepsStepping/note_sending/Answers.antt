use Rattle.media_agents.proofs.StepsLemmas.{writes_known}
use Rattle.media_agents.specs.Journals.{after_sending}
use Rattle.media_agents.proofs.steps.StepsStepping.note_sending.Goals as goal

pub returns-then-is_cut : goal.returns-then-is_cut
returns-then-is_cut g c = writes_known g.N.Naming.home (after_sending c.args.it.now)

pub returns-else-is_cut : goal.returns-else-is_cut
returns-else-is_cut g c = writes_known g.N.Naming.home (after_sending c.args.it.now)
