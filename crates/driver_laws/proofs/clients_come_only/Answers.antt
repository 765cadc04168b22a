use Rattle.driver_laws.proofs.ClientComingLemmas.{clients_attached}
use Rattle.driver_laws.proofs.clients_come_only.Goals as goal

pub returns : goal.returns
returns c settings policy peers events = clients_attached _
