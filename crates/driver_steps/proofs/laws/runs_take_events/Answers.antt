use Rattle.driver_steps.proofs.EndLemmas.{runs_take}
use Rattle.driver_steps.proofs.laws.runs_take_events.Goals as goal

pub returns : goal.returns
returns c = runs_take
