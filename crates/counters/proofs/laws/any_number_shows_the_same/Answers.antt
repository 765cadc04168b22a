use Rattle.counters.proofs.VisibleLemmas.{any_number}
use Rattle.counters.proofs.laws.any_number_shows_the_same.Goals as goal

pub returns : goal.returns
returns c = any_number
