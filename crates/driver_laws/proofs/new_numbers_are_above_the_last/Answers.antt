use Rattle.driver_laws.proofs.NewNumberLemmas.{comes_above}
use Rattle.driver_laws.proofs.new_numbers_are_above_the_last.Goals as goal

pub returns : goal.returns
returns c settings policy peers events = comes_above _
