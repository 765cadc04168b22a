use Rattle.media_agents.proofs.StepsLemmas.{writes_known}
use Rattle.media_agents.specs.Journals.{after_turn}
use Rattle.media_agents.proofs.steps.StepsStepping.note_turn.Goals as goal

pub returns-then-is_asking : goal.returns-then-is_asking
returns-then-is_asking g c = writes_known g.N.Naming.home (after_turn c.args.it.now)

pub returns-else-is_asking : goal.returns-else-is_asking
returns-else-is_asking g c = writes_known g.N.Naming.home (after_turn c.args.it.now)
