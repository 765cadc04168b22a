use Rattle.media_agents.proofs.StepsLemmas.{writes_known}
use Rattle.media_agents.specs.Journals.{after_entry}
use Rattle.media_agents.proofs.steps.StepsNoting.note_entry.Goals as goal

pub returns-then-not-is_empty : goal.returns-then-not-is_empty
returns-then-not-is_empty g c =
    writes_known g.N.Naming.home (after_entry c.args.event.now c.args.response.now c.args.decisions.now c.args.stamp)

pub returns-else-matches : goal.returns-else-matches
returns-else-matches g c =
    writes_known g.N.Naming.home (after_entry c.args.event.now c.args.response.now c.args.decisions.now c.args.stamp)
