use Rattle.std.proofs.Common.{rules}
use Rattle.driver_core.proofs.ReloadingLemmas.{reloaded_outcome}
use Rattle.driver_core.proofs.state.registry.Registry.outcome_of_reloaded.Goals as goal

pub returns : goal.returns
returns c = rw (reloaded_outcome c.args.self.now c.args.now c.args.inputs.now c.args.policy.now) (search rules)
