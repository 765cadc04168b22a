use Rattle.driver_laws.proofs.NumberLemmas.{numbers_rise}
use Rattle.driver_laws.proofs.OwnerLemmas.{rows_owned}
use Rattle.driver_laws.proofs.SettingCauseLemmas.{set_exactly}
use Rattle.driver_laws.proofs.setups_are_granted_exactly.Goals as goal

pub returns : goal.returns
returns c settings policy peers events =
    set_exactly _ (numbers_rise settings policy peers events) (rows_owned settings policy peers events)
