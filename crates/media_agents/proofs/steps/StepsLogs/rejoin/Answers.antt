use Rattle.std.proofs.Common.{refl}
use Rattle.media_agents.proofs.AskingLemmas.{nowhere_rejoins}
use Rattle.media_agents.proofs.StepsLemmas.{rejoins_known}
use Rattle.media_agents.proofs.steps.StepsLogs.rejoin.Goals as goal

pub returns-in-Some : goal.returns-in-Some
returns-in-Some g c =
    rejoins_known g.N.Naming.home c.args.at c.args.at.source c.args.subscriptions.now c.rejoin_in.result c.rejoin_in.ensures

pub returns-in-None : goal.returns-in-None
returns-in-None g c =
    let home = g.N.Naming.home in
    rejoins_known home c.args.at c.args.at.source c.args.subscriptions.now _ (nowhere_rejoins home c.args.at.source c.args.subscriptions.now _ refl)

pub returns-in-Some-get : goal.returns-in-Some-get
returns-in-Some-get g c =
    rejoins_known g.N.Naming.home c.args.at c.args.at.source c.args.subscriptions.now c.rejoin_in-in-Some-get.result c.rejoin_in-in-Some-get.ensures

pub returns-in-None-get : goal.returns-in-None-get
returns-in-None-get g c =
    let home = g.N.Naming.home in
    rejoins_known home c.args.at c.args.at.source c.args.subscriptions.now _ (nowhere_rejoins home c.args.at.source c.args.subscriptions.now _ refl)
