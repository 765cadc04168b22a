use Rattle.driver_laws.proofs.ReloadLemmas.{newest_in_force}
use Rattle.driver_laws.proofs.newest_policy_is_in_force.Goals as goal

pub returns : goal.returns
returns c settings policy peers events = newest_in_force _
