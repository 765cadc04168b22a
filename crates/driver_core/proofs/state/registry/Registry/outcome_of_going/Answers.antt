use Rattle.std.proofs.Common.{rules}
use Rattle.driver_core.specs.State.{at_moment}
use Rattle.driver_core.proofs.TickLemmas.{going_outcome}
use Rattle.driver_core.proofs.state.registry.Registry.outcome_of_going.Goals as goal

pub returns : goal.returns
unfolding at_moment
returns c =
    rw (going_outcome c.args.self.now c.args.self.now.last_number c.args.now c.args.inputs.now c.args.told c.expired-late.result.items
    c.pairs_of_going.ensures.in_order c.requires (search rules)) (search rules)
