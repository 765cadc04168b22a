use Rattle.driver_laws.proofs.ClosingLemmas.{logs_closed}
use Rattle.driver_laws.proofs.logs_close_exactly.Goals as goal

pub returns : goal.returns
returns c = logs_closed
