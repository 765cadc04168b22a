use Rattle.std.proofs.Common.{◌≡◌, ◌∙◌, true, sym, ap, subst}
use Rattle.driver_core.specs.State.{State}
use Rattle.published_registry.specs.declared.rule.Told.{Told}
use Rattle.published_registry.specs.declared.shown.Shown.{Shown}
use Rattle.published_registry.specs.Rules.{Fits, Sees, told}
use Rattle.published_registry.proofs.Moves.{seen, sees, stays}
use Rattle.published_registry.proofs.pass.Pass.enter.Goals as goal

-- what is known of a look that was just taken
looked : (v w : Told) (x y : Shown) → v.knows ≡ true → Sees v x y w → (w ≡ told w.opening y.front) × Fits w.opening y.front y
looked v w x y knows look =
    let now = look knows in
    let opening : w.opening ≡ v.opening = ap (λ (t : Told). t.opening) now.0 in (
      now.0 ∙ ap (λ (s : State). told s y.front) (sym opening),
      subst (λ (s : State). Fits s y.front y) (sym opening) (seen v.opening v.front y now.1),
    )

pub enter_as-requires : goal.enter_as-requires
enter_as-requires c x = sees _ _ x x (stays x)

pub invariant_of-result : goal.invariant_of-result
invariant_of-result c =
    looked c.self.inside.reader.place.me.0.client c.in-Ok.reading.place.me.0.client c.in-Ok.reading.part.value c.in-Ok.reading.part.value c.self.invariant.0 c.in-Ok.ensures.1
