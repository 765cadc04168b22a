use Rattle.media_agents.proofs.LookLemmas.{left}
use Rattle.media_agents.proofs.stepping.hear_at.Goals as goal

pub returns-in-Ok-clause-known : goal.returns-in-Ok-clause-known
returns-in-Ok-clause-known g c = left c.in-Ok.ensures c.leave.ensures
