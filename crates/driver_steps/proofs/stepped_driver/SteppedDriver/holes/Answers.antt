use Rattle.std.proofs.Common.{ap, ◌∙◌}
use Rattle.driver_steps.specs.Standing.{Held, pages_of_logs}
use Rattle.driver_steps.proofs.HoleLemmas.{taken_live}
use Rattle.log_arena.specs.Pages.{holes_of}
use Rattle.driver_steps.proofs.stepped_driver.SteppedDriver.holes.Goals as goal

pub returns : goal.returns
returns c =
    c.holes.ensures
    ∙ ap holes_of (taken_live c.self.inside.registry c.self.inside.logs c.self.invariant.0)
    ∙ ap (λ (h : Held). holes_of (pages_of_logs h.registry)) c.self.view_is
