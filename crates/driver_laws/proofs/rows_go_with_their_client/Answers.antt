use Rattle.driver_laws.proofs.GoneLemmas.{rows_gone}
use Rattle.driver_laws.proofs.rows_go_with_their_client.Goals as goal

pub returns : goal.returns
returns c settings policy peers events = rows_gone _
