use Rattle.driver_laws.proofs.GoingLemmas.{clients_go_only}
use Rattle.driver_laws.proofs.clients_go_only.Goals as goal

pub returns : goal.returns
returns c settings policy peers events = clients_go_only _
