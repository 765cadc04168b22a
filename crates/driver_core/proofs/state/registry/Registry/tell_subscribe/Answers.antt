use Rattle.std.proofs.Common.{Ok, rules}
use Rattle.driver_core.proofs.SubscribeLemmas.{IsGranted, granted, subscribe_is}
use Rattle.driver_core.proofs.state.registry.Registry.tell_subscribe.Goals as goal

pub tell_subscribed-requires-clause-room : goal.tell_subscribed-requires-clause-room
tell_subscribed-requires-clause-room c =
    let granted_here : IsGranted c.args.self.now c.args.client c.args.channel.now c.args.stream c.in-Ok.decision =
    granted c.args.self.now c.args.client c.args.channel.now c.args.stream c.in-Ok.decision (search rules)
    in
    let room = granted_here.room in
    search rules

pub tell_subscribed-requires-clause-decided : goal.tell_subscribed-requires-clause-decided
tell_subscribed-requires-clause-decided c =
    let granted_here : IsGranted c.args.self.now c.args.client c.args.channel.now c.args.stream c.in-Ok.decision =
    granted c.args.self.now c.args.client c.args.channel.now c.args.stream c.in-Ok.decision (search rules)
    in
    let decided = granted_here.decided in
    search rules

-- it is granted
pub returns-in-Ok : goal.returns-in-Ok
returns-in-Ok c =
    rw (subscribe_is c.args.self.now c.args.client c.args.correlation c.args.channel.now c.args.stream (Ok c.in-Ok.decision)
    (search rules)) (search rules)
