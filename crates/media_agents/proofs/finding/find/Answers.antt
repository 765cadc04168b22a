use Rattle.media_agents.proofs.LookLemmas.{kept, left}
use Rattle.media_agents.proofs.finding.find.Goals as goal

pub returns-after-log_of-clause-known : goal.returns-after-log_of-clause-known
returns-after-log_of-clause-known c = left c.in-Ok.ensures c.leave.ensures

pub returns-in-Err-clause-known : goal.returns-in-Err-clause-known
returns-in-Err-clause-known c = kept c.in-Err.ensures
