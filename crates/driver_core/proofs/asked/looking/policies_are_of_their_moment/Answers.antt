use Rattle.driver_core.specs.State.{opened}
use Rattle.driver_core.proofs.MomentLemmas.{event_timely, opened_timely, run_timely}
use Rattle.driver_core.proofs.asked.looking.policies_are_of_their_moment.Goals as goal

pub returns-clause-after : goal.returns-clause-after
returns-clause-after c s event inputs = event_timely s event inputs

pub returns-clause-every : goal.returns-clause-every
returns-clause-every c settings policy peers events =
    run_timely (opened settings policy peers) events (opened_timely settings policy peers)
