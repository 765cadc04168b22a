use Rattle.std.proofs.Common.{rules, ◌≡◌, Some}
use Rattle.driver_core.specs.Renewal.{subscription_at}
use Rattle.driver_core.proofs.CacheLemmas.{found_in}
use Rattle.driver_core.proofs.state.registry.Registry.receiving_cached.Goals as goal

pub poll_verdict-requires-clause-subscribed : goal.poll_verdict-requires-clause-subscribed
poll_verdict-requires-clause-subscribed c =
    let rows = c.args.self.now.streams.subscriptions in
    let row = c.in_ok-subscription.subscription.now in
    let found : subscription_at rows c.args.subscription ≡ Some row = search rules in
    (found_in _ rows row found).stands
