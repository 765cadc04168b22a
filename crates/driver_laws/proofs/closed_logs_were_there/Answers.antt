use Rattle.driver_laws.proofs.ClosedLogLemmas.{closed_were_there}
use Rattle.driver_laws.proofs.closed_logs_were_there.Goals as goal

pub returns : goal.returns
returns c = closed_were_there
