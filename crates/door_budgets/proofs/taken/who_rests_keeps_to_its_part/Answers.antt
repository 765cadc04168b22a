use Rattle.door_budgets.proofs.RestLemmas.{keeps_to_its_part}
use Rattle.door_budgets.proofs.taken.who_rests_keeps_to_its_part.Goals as goal

pub returns : goal.returns
returns c = keeps_to_its_part
