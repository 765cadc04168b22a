use Rattle.driver_laws.proofs.NumberLemmas.{numbers_drawn}
use Rattle.driver_laws.proofs.numbers_are_at_most_the_last.Goals as goal

pub returns : goal.returns
returns c = numbers_drawn
