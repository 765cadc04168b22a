use Rattle.driver_laws.proofs.DenialLemmas.{denials_named}
use Rattle.driver_laws.proofs.NumberLemmas.{numbers_rise}
use Rattle.driver_laws.proofs.OwnerLemmas.{rows_owned}
use Rattle.driver_laws.proofs.denials_are_named.Goals as goal

pub returns : goal.returns
returns c settings policy peers events event inputs =
    denials_named _ event inputs (numbers_rise settings policy peers events) (rows_owned settings policy peers events)
