use Rattle.driver_core.proofs.StayLemmas.{event_stays}
use Rattle.driver_core.proofs.asked.looking.policies_only_get_newer.Goals as goal

pub returns : goal.returns
returns c s event inputs = (event_stays s event inputs).policy
