-- Registries that are kept for actors that look at older ones than the newest. Own rules.
use Rattle.std.specs.Prelude.{◌≡◌, ◌≤◌, List, All, Option, Some, None}
use Rattle.driver_core.specs.State.{State}
use Rattle.driver_world.specs.declared.actor.Actor.{Actor}
use Rattle.driver_world.specs.declared.past.Shown.{Shown}
use Rattle.driver_world.specs.Views.{Past, newest_of, registry_at}

-- it is the registry of its number
abbrev pub IsAt : Past → Shown → Type 0
IsAt past shown = (shown.number ≤ newest_of past) × (shown.registry.value ≡ registry_at past shown.number)

abbrev pub IsShown : Past → Option Shown → Type 0
IsShown past None = Unit {0}
IsShown past (Some shown) = IsAt past shown

-- what one sees who is shown it
abbrev pub shown_state : Option Shown → Option State
shown_state None = None
shown_state (Some shown) = Some shown.registry.value

abbrev pub AreShown : Past → List (Actor × Option Shown) → Type 0
AreShown past all = All (λ one. IsShown past one.1) all
