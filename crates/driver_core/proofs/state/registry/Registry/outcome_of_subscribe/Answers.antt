use Rattle.std.proofs.Common.{Ok, Err, rules}
use Rattle.driver_core.specs.Commands.{at_asking}
use Rattle.driver_core.proofs.SubscribeLemmas.{IsGranted, granted, subscribe_is}
use Rattle.driver_core.proofs.state.registry.Registry.outcome_of_subscribe.Goals as goal

pub outcome_of_subscribed-requires-clause-room : goal.outcome_of_subscribed-requires-clause-room
outcome_of_subscribed-requires-clause-room c =
    let granted_here : IsGranted (at_asking c.args.self.now c.args.asking) c.args.asking.client c.args.channel.now c.args.stream c.in-Ok.decision =
    granted (at_asking c.args.self.now c.args.asking) c.args.asking.client c.args.channel.now c.args.stream c.in-Ok.decision (search rules)
    in
    let room = granted_here.room in
    search rules

pub outcome_of_subscribed-requires-clause-decided : goal.outcome_of_subscribed-requires-clause-decided
outcome_of_subscribed-requires-clause-decided c =
    let granted_here : IsGranted (at_asking c.args.self.now c.args.asking) c.args.asking.client c.args.channel.now c.args.stream c.in-Ok.decision =
    granted (at_asking c.args.self.now c.args.asking) c.args.asking.client c.args.channel.now c.args.stream c.in-Ok.decision (search rules)
    in
    let decided = granted_here.decided in
    search rules

-- it is granted
pub returns-in-Ok : goal.returns-in-Ok
returns-in-Ok c =
    rw (subscribe_is (at_asking c.args.self.now c.args.asking) c.args.asking.client c.args.asking.correlation c.args.channel.now
    c.args.stream (Ok c.in-Ok.decision) (search rules)) (search rules)

-- it is refused
pub returns-in-Err : goal.returns-in-Err
returns-in-Err c =
    rw (subscribe_is (at_asking c.args.self.now c.args.asking) c.args.asking.client c.args.asking.correlation c.args.channel.now
    c.args.stream (Err c.in-Err.refused) (search rules)) (c.outcome_of_refused.ensures c.args.inputs.now)
