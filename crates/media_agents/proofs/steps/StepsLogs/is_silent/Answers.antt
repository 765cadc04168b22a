use Rattle.std.proofs.Common.{false}
use Rattle.media_agents.proofs.AskingLemmas.{nowhere_says}
use Rattle.media_agents.proofs.StepsLemmas.{says_known}
use Rattle.media_agents.proofs.steps.StepsLogs.is_silent.Goals as goal

pub returns-in-Some : goal.returns-in-Some
returns-in-Some g c = says_known g.N.Naming.home c.args.at c.args.at.source c.args.now c.args.limit c.ask_image.result c.ask_image.ensures

pub returns-in-None : goal.returns-in-None
returns-in-None g c =
    let home = g.N.Naming.home in
    says_known home c.args.at c.args.at.source c.args.now c.args.limit false (nowhere_says home c.args.at.source c.args.now c.args.limit)
