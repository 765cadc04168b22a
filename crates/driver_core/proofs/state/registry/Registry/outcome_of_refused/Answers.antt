use Rattle.std.proofs.Common.{rules}
use Rattle.driver_core.proofs.PairLemmas.{asking_refused}
use Rattle.driver_core.proofs.state.registry.Registry.outcome_of_refused.Goals as goal

pub returns : goal.returns
returns c =
    λ inputs.
    rw (asking_refused c.args.self.now c.args.asking.now c.args.asking.handle inputs c.args.asking.client.number
    c.args.asking.correlation c.args.refused) (search rules)
