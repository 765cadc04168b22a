use Rattle.driver_laws.proofs.GoingLemmas.{counters_go_only}
use Rattle.driver_laws.proofs.counters_are_removed_only.Goals as goal

pub returns : goal.returns
returns c settings policy peers events = counters_go_only _
