use Rattle.driver_laws.proofs.LoggedLemmas.{registrations_logged}
use Rattle.driver_laws.proofs.registrations_have_their_logs.Goals as goal

pub returns : goal.returns
returns c = registrations_logged
