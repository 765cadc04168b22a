use Rattle.driver_laws.proofs.OlderLemmas.{polls_by_any}
use Rattle.driver_laws.proofs.headline.polls_by_any_registry_are_granted_exactly.Goals as goal

pub returns : goal.returns
returns c = polls_by_any
