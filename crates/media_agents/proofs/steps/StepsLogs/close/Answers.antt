use Rattle.std.proofs.Common.{refl}
use Rattle.media_agents.proofs.AskingLemmas.{nowhere_closes}
use Rattle.media_agents.proofs.StepsLemmas.{closes_known}
use Rattle.media_agents.proofs.steps.StepsLogs.close.Goals as goal

pub returns-in-Some-clause-closed : goal.returns-in-Some-clause-closed
returns-in-Some-clause-closed g c =
    closes_known g.N.Naming.home c.args.at c.args.at.source c.close_in.result c.close_in.ensures.closed

pub returns-in-None-clause-closed : goal.returns-in-None-clause-closed
returns-in-None-clause-closed g c =
    let home = g.N.Naming.home in closes_known home c.args.at c.args.at.source _ (nowhere_closes home c.args.at.source _ refl)

pub returns-in-Some-get-clause-closed : goal.returns-in-Some-get-clause-closed
returns-in-Some-get-clause-closed g c =
    closes_known g.N.Naming.home c.args.at c.args.at.source c.close_in-in-Some-get.result c.close_in-in-Some-get.ensures.closed

pub returns-in-None-get-clause-closed : goal.returns-in-None-get-clause-closed
returns-in-None-get-clause-closed g c =
    let home = g.N.Naming.home in closes_known home c.args.at c.args.at.source _ (nowhere_closes home c.args.at.source _ refl)
