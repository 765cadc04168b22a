use Rattle.std.proofs.Common.{Err, rules}
use Rattle.driver_core.specs.Commands.{at_asking}
use Rattle.driver_core.proofs.SubscribeLemmas.{added_on, not_taken}
use Rattle.driver_core.proofs.state.registry.Registry.outcome_of_add_subscription.Goals as goal

-- the command does not take the channel
pub returns-then-not-is_subscribable : goal.returns-then-not-is_subscribable
returns-then-not-is_subscribable c =
    rw (not_taken (at_asking c.args.self.now c.args.asking) c.args.asking.client c.args.asking.correlation c.args.fields.now
    c.in-Ok.channel.now (search rules) (search rules)) (rw c.plainly-invalid.ensures at (c.outcome_of_refused.ensures c.args.inputs.now))

-- the text is no channel
pub returns-in-Err : goal.returns-in-Err
returns-in-Err c =
    rw (added_on (at_asking c.args.self.now c.args.asking) c.args.asking.client c.args.asking.correlation c.args.fields.now
    (Err c.in-Err.field-0) (search rules)) (rw c.plainly-invalid.ensures at (c.outcome_of_refused-in-Err.ensures c.args.inputs.now))
