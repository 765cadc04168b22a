use Rattle.std.specs.Prelude.{option_copied}
use Rattle.driver_steps.specs.declared.step.Step.TheVariants.{Send}
use Rattle.driver_steps.specs.Ends.{looks_at}
use Rattle.driver_steps.proofs.ServingLemmas.{step_serves}
use Rattle.driver_steps.proofs.stepped_driver.SteppedDriver.send.Goals as goal

pub invariant_of-self : goal.invariant_of-self
invariant_of-self c = (c.send_by.ensures.kept.on c.self.inside.registry c.self.invariant.0, c.self.invariant.1)

pub returns : goal.returns
returns c =
    rw (← c.self.view_is)
    (step_serves (looks_at c.self.inside.registry (option_copied c.args.older)) c.self.inside.registry c.self.inside.logs c.send_by.new.logs
    (Send c.args.now c.args.source) c.send_by.result (λ e has. has) (rw (← c.looked_at-registry.ensures) c.send_by.ensures.serves))
