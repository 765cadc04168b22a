use Rattle.driver_laws.proofs.OlderNakLemmas.{naks_by_any}
use Rattle.driver_laws.proofs.headline.naks_by_any_registry_are_granted_exactly.Goals as goal

pub returns : goal.returns
returns c = naks_by_any
