use Rattle.std.proofs.Common.{Ok, rules}
use Rattle.driver_core.proofs.LeaveLemmas.{granted, terminate_is}
use Rattle.driver_core.proofs.state.registry.Registry.tell_terminate.Goals as goal

pub tell_terminated-requires : goal.tell_terminated-requires
tell_terminated-requires c = granted c.args.self.now c.args.client c.in-Ok.decision (search rules)

-- it is granted
pub returns-in-Ok : goal.returns-in-Ok
returns-in-Ok c =
    rw (terminate_is c.args.self.now c.args.client c.args.correlation (Ok c.in-Ok.decision) (search rules))
    (c.tell_terminated.ensures)
