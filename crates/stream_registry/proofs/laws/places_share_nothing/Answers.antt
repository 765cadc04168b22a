use Rattle.stream_registry.proofs.PageLawLemmas.{share_nothing}
use Rattle.stream_registry.proofs.laws.places_share_nothing.Goals as goal

pub returns : goal.returns
returns c = share_nothing
