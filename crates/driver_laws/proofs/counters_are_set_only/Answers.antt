use Rattle.driver_laws.proofs.GoingLemmas.{counters_set_only}
use Rattle.driver_laws.proofs.counters_are_set_only.Goals as goal

pub returns : goal.returns
returns c settings policy peers events = counters_set_only _
