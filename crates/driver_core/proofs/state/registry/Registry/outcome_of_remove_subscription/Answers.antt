use Rattle.std.proofs.Common.{rules}
use Rattle.driver_core.proofs.UnsubscribeLemmas.{not_removed, removed_where}
use Rattle.driver_core.proofs.state.registry.Registry.outcome_of_remove_subscription.Goals as goal

-- the client has no such subscription
pub returns-in-None : goal.returns-in-None
returns-in-None c =
    rw (not_removed c.args.self.now c.args.asking.now c.args.asking.handle c.args.asking.client c.args.asking.correlation c.args.fields
    (search rules)) (rw c.plainly-unknown.ensures at (c.outcome_of_refused.ensures c.args.inputs.now))

-- it has
pub returns-in-Some : goal.returns-in-Some
returns-in-Some c =
    rw (removed_where c.args.self.now c.args.asking.now c.args.asking.handle c.args.asking.client c.args.asking.correlation c.args.fields
    (search rules)) (search rules)
