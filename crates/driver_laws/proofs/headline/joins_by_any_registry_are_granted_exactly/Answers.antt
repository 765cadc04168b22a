use Rattle.driver_laws.proofs.OlderJoinLemmas.{joins_by_any}
use Rattle.driver_laws.proofs.headline.joins_by_any_registry_are_granted_exactly.Goals as goal

pub returns : goal.returns
returns c = joins_by_any
