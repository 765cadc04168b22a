use Rattle.driver_laws.proofs.NumberLemmas.{numbers_rise}
use Rattle.driver_laws.proofs.numbers_are_unique.Goals as goal

pub returns : goal.returns
returns c = numbers_rise
