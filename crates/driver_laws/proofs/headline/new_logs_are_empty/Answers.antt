use Rattle.driver_laws.proofs.NewLogLemmas.{new_logs_empty}
use Rattle.driver_laws.proofs.headline.new_logs_are_empty.Goals as goal

pub returns : goal.returns
returns c = new_logs_empty
