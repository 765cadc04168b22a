use Rattle.std.proofs.Common.{rules}
use Rattle.driver_core.specs.Commands.{heard}
use Rattle.driver_core.specs.State.{at_moment}
use Rattle.driver_core.specs.Terminating.{terminated}
use Rattle.driver_core.proofs.LeaveLemmas.{terminated_outcome}
use Rattle.driver_core.proofs.state.registry.Registry.outcome_of_terminated.Goals as goal

pub returns : goal.returns
unfolding terminated heard at_moment
returns c =
    λ inputs.
    rw (terminated_outcome c.args.self.now c.args.asking.now c.args.asking.handle inputs c.args.asking.client
    c.args.asking.correlation) (search rules)
