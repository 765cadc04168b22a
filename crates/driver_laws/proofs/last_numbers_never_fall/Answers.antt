use Rattle.driver_laws.proofs.NumberLemmas.{numbers_drawn_once}
use Rattle.driver_laws.proofs.last_numbers_never_fall.Goals as goal

pub returns : goal.returns
returns c = numbers_drawn_once
