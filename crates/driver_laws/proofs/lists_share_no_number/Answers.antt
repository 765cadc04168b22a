use Rattle.driver_laws.proofs.ApartLemmas.{lists_apart}
use Rattle.driver_laws.proofs.lists_share_no_number.Goals as goal

pub returns : goal.returns
returns c = lists_apart
