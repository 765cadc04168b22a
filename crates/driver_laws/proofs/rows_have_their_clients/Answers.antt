use Rattle.driver_laws.proofs.OwnerLemmas.{rows_owned}
use Rattle.driver_laws.proofs.rows_have_their_clients.Goals as goal

pub returns : goal.returns
returns c = rows_owned
