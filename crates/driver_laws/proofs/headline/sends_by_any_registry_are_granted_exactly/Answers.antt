use Rattle.driver_laws.proofs.OlderSendLemmas.{sends_by_any}
use Rattle.driver_laws.proofs.headline.sends_by_any_registry_are_granted_exactly.Goals as goal

pub returns : goal.returns
returns c = sends_by_any
