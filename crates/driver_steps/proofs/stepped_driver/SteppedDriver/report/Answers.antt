use Rattle.std.specs.Prelude.{option_copied}
use Rattle.driver_steps.specs.declared.step.Step.TheVariants.{Image}
use Rattle.driver_steps.specs.Ends.{looks_at}
use Rattle.driver_steps.proofs.ReportLemmas.{report_goes}
use Rattle.driver_steps.proofs.ServingLemmas.{served_as_well, step_serves}
use Rattle.driver_steps.proofs.stepped_driver.SteppedDriver.report.Goals as goal

pub invariant_of-self : goal.invariant_of-self
invariant_of-self c = (c.report_by.ensures.kept.on c.self.inside.registry c.self.invariant.0, c.self.invariant.1)

pub returns : goal.returns
returns c =
    let shown = looks_at c.self.inside.registry (option_copied c.args.older) in
    rw (← c.self.view_is)
    (step_serves shown c.self.inside.registry c.self.inside.logs c.report_by.new.logs (Image c.args.now c.args.source) c.report_by.result
    (λ e has. has)
    (served_as_well c.self.inside.logs c.report_by.new.logs _ _ c.report_by.result (λ e. report_goes shown e c.args.now c.args.source)
    (rw (← c.looked_at-registry.ensures) c.report_by.ensures.serves)))
