use Rattle.stream_registry.proofs.PageLawLemmas.{all_least}
use Rattle.stream_registry.proofs.laws.places_are_least.Goals as goal

pub returns : goal.returns
returns c = all_least
