use Rattle.std.proofs.Common.{rules}
use Rattle.driver_core.proofs.PairLemmas.{tick_kept}
use Rattle.driver_core.proofs.state.registry.Registry.outcome_of_tick.Goals as goal

-- nobody is late, and nothing closes
pub returns-then-is_empty-2 : goal.returns-then-is_empty-2
returns-then-is_empty-2 c =
    rw (tick_kept c.args.self.now c.args.now c.args.inputs.now c.in_ok-told.told (search rules) (search rules) (search rules))
    (search rules)
