use Rattle.driver_laws.proofs.OlderLemmas.{offers_by_any}
use Rattle.driver_laws.proofs.headline.offers_by_any_registry_are_granted_exactly.Goals as goal

pub returns : goal.returns
returns c = offers_by_any
