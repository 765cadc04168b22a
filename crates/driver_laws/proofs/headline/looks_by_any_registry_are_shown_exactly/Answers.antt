use Rattle.driver_laws.proofs.OlderLookLemmas.{looks_by_any}
use Rattle.driver_laws.proofs.headline.looks_by_any_registry_are_shown_exactly.Goals as goal

pub returns : goal.returns
returns c = looks_by_any
