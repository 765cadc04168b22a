use Rattle.std.proofs.Common.{ap, ◌∙◌}
use Rattle.driver_steps.specs.OpenLogs.{HeldLogs, plots_of}
use Rattle.log_steps.specs.Plots.{taken_pages}
use Rattle.driver_steps.proofs.HoleLemmas.{leased_taken}
use Rattle.log_arena.specs.Pages.{holes_of}
use Rattle.driver_steps.proofs.open_logs.OpenLogs.holes.Goals as goal

pub returns : goal.returns
returns c =
    c.holes.ensures
    ∙ ap holes_of (leased_taken c.self.inside.arena (plots_of c.self.inside.logs.items) c.self.invariant)
    ∙ ap (λ (h : HeldLogs). holes_of (taken_pages h.pages (plots_of h.logs))) c.self.view_is
