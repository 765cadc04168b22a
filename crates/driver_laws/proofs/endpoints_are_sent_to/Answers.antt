use Rattle.driver_laws.proofs.DestinationOnlyLemmas.{endpoints_sent}
use Rattle.driver_laws.proofs.endpoints_are_sent_to.Goals as goal

pub returns : goal.returns
returns c = endpoints_sent
