use Rattle.driver_laws.proofs.NewNumberLemmas.{never_drawn_again}
use Rattle.driver_laws.proofs.numbers_are_never_drawn_again.Goals as goal

pub returns : goal.returns
returns c = never_drawn_again
