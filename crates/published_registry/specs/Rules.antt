-- The rule under which a registry is shown, and what each step says.
use Rattle.std.specs.Prelude.{◌≡◌, ℕ, true, false, List, []}
use mathlib.Core.List.{IsPrefix}
use mathlib.Core.Option.{some}
use lib.ListN.{get_elem?}
use Rattle.driver_core.specs.Conduct.{state_after}
use Rattle.driver_core.specs.State.{State}
use Rattle.published_registry.specs.declared.rule.Told.{Told}
use Rattle.published_registry.specs.declared.shown.Shown.{Shown}
use Rattle.published_registry.specs.declared.shown.Step.{Step}
use Rattle.published_registry.specs.declared.shown.Step.TheVariants.{Nothing, Takes}
use Rattle.published_registry.specs.Histories.{Known, IsLegal, registry_after}
use Rattle.published_registry.specs.Nowhere.{nowhere}

-- what a step makes of what is shown
abbrev pub after_step : Shown → Step → Shown
after_step x Nothing = x
after_step x (Takes entry front) =
    record { registry = state_after x.registry entry.event entry.inputs; front = front }

-- who knows of no history yet
abbrev pub stranger : Told
stranger = record {
  knows = false;
  opening = nowhere;
  front = record { book = record { number = 0; log_name = 0; cells_name = 0 }; entries = [] };
}

-- who knows of this beginning of the history from this opening on
abbrev pub told : State → Known → Told
told opening front = record { knows = true; opening = opening; front = front }

-- What is shown goes with what is known: it is the registry after the entries that are shown with it, which are a legal history
-- from that opening on, and begin with those that are known
pub record Fits (opening : State) (front : Known) (x : Shown) : Type 0 where
  pub book : x.front.book ≡ front.book
  pub fold : x.registry ≡ registry_after opening x.front.entries
  pub legal : IsLegal opening x.front.entries
  pub later : IsPrefix front.entries x.front.entries

-- what is shown goes with all that is known
abbrev pub Holds : Shown → List Told → Type 0
Holds x views =
    (seat : ℕ) (v : Told) → get_elem? views seat ≡ some v → v.knows ≡ true → Fits v.opening v.front x

-- what is shown now is known, and goes with what was known before
abbrev pub Sees : Told → Shown → Shown → Told → Type 0
Sees v x y w = v.knows ≡ true → (w ≡ told v.opening y.front) × Fits v.opening v.front y

-- the history begins with what is shown now
abbrev pub Begins : Told → Shown → Shown → Told → Type 0
Begins v x y w = w ≡ told y.registry y.front
