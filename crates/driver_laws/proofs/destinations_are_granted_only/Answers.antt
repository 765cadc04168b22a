use Rattle.driver_laws.proofs.DestinationOnlyLemmas.{destinations_come}
use Rattle.driver_laws.proofs.destinations_are_granted_only.Goals as goal

pub returns : goal.returns
returns c settings policy peers events = destinations_come _
