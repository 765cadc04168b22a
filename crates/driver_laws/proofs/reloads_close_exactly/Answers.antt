use Rattle.driver_laws.proofs.ReloadLemmas.{reloads_close}
use Rattle.driver_laws.proofs.NumberLemmas.{numbers_rise}
use Rattle.driver_laws.proofs.StayingLemmas.{images_read}
use Rattle.driver_laws.proofs.reloads_close_exactly.Goals as goal

pub returns : goal.returns
returns c settings policy peers events =
    reloads_close _ (numbers_rise settings policy peers events) (images_read settings policy peers events)
