use Rattle.media_agents.proofs.StepsLemmas.{writes_known}
use Rattle.media_agents.specs.Journals.{after_packet}
use Rattle.media_agents.proofs.steps.StepsStepping.note_packet.Goals as goal

pub returns-then-is_some : goal.returns-then-is_some
returns-then-is_some g c = writes_known g.N.Naming.home (after_packet c.args.from.now c.args.it.now)

pub returns-else-is_counted : goal.returns-else-is_counted
returns-else-is_counted g c = writes_known g.N.Naming.home (after_packet c.args.from.now c.args.it.now)
