use Rattle.media_agents.proofs.StepsLemmas.{reports_known}
use Rattle.media_agents.proofs.steps.StepsStepping.report.Goals as goal

pub returns-in-Some-clause-did : goal.returns-in-Some-clause-did
returns-in-Some-clause-did g c =
    reports_known g.N.Naming.home c.args.now c.args.at c.report_at.result.1 c.args.pass c.report_at.result.0 c.report_at.ensures.known c.report_at.ensures.step
