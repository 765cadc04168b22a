use Rattle.std.proofs.Common.{Ok, Err, rules}
use Rattle.driver_core.specs.Commands.{at_asking}
use Rattle.driver_core.proofs.LeaveLemmas.{granted, terminate_is}
use Rattle.driver_core.proofs.state.registry.Registry.outcome_of_terminate.Goals as goal

pub outcome_of_terminated-requires : goal.outcome_of_terminated-requires
outcome_of_terminated-requires c =
    granted (at_asking c.args.self.now c.args.asking) c.args.asking.client c.in-Ok.decision (search rules)

-- it is granted
pub returns-in-Ok : goal.returns-in-Ok
returns-in-Ok c =
    rw (terminate_is (at_asking c.args.self.now c.args.asking) c.args.asking.client c.args.asking.correlation (Ok c.in-Ok.decision)
    (search rules)) (c.outcome_of_terminated.ensures c.args.inputs.now)

-- it is refused
pub returns-in-Err : goal.returns-in-Err
returns-in-Err c =
    rw (terminate_is (at_asking c.args.self.now c.args.asking) c.args.asking.client c.args.asking.correlation (Err c.in-Err.refused)
    (search rules)) (c.outcome_of_refused.ensures c.args.inputs.now)
