use Rattle.std.proofs.Common.{ℕ, List, ap, ◌∙◌}
use Rattle.driver_core.specs.State.{State}
use Rattle.driver_steps.specs.OpenLogs.{HeldLogs}
use Rattle.driver_steps.proofs.CachingLemmas.{cached_opened}
use Rattle.driver_steps.proofs.StandLemmas.{opening_match}
use Rattle.driver_steps.proofs.stepped_driver.SteppedDriver.new.Goals as goal

pub invariant_of-result : goal.invariant_of-result
invariant_of-result c =
    let registry = ap (λ (parts : (State × HeldLogs) × List ℕ). parts.0.0) c.in_ok-registry.ensures.first
    ∙ ap (λ (parts : State × HeldLogs). parts.0) c.in_ok-parts-2.ensures.first ∙ c.in_ok-parts.ensures.first ∙ c.in_ok-new.ensures in
    let logs = ap (λ (parts : (State × HeldLogs) × List ℕ). parts.0.1) c.in_ok-registry.ensures.first
    ∙ ap (λ (parts : State × HeldLogs). parts.1) c.in_ok-parts-2.ensures.first ∙ (rw c.in_ok-parts.ensures.second at c.new-2.ensures) in (
      rw (registry, logs) (opening_match 0 c.args.settings c.args.policy c.args.peers.now c.requires),
      cached_opened _ c.in_ok-registry.caches.items (c.cached_verdicts_stay_right.ensures.empty _)
          (rw c.in_ok-registry.ensures.second at c.caches.ensures.count) (rw c.in_ok-registry.ensures.second at c.caches.ensures.empty),
    )
