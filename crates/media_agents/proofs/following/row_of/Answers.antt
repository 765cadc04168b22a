use Rattle.media_agents.proofs.RowLemmas.{row_sound}
use Rattle.media_agents.proofs.following.row_of.Goals as goal

pub returns-clause-sound : goal.returns-clause-sound
returns-clause-sound c = row_sound c.args.registry.now c.args.place.source c.source.result c.requires c.source.ensures
