use Rattle.driver_laws.proofs.GoneLemmas.{clients_gone}
use Rattle.driver_laws.proofs.clients_go_exactly.Goals as goal

pub returns : goal.returns
returns c settings policy peers events = clients_gone _
