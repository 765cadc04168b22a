-- One event of the conductor: two total functions, neither of which reads the other.
use Rattle.std.specs.Prelude.{ℕ, List, [], ◌∷◌}
use Rattle.driver_core.specs.Change.{Change}
use Rattle.driver_core.specs.Draft.{Draft}
use Rattle.driver_core.specs.declared.state.event.Event.{Event}
use Rattle.driver_core.specs.declared.state.event.Event.TheVariants.{Attach, Command, Reload, Setup, Tick}
use Rattle.driver_core.specs.declared.state.event.Inputs.{Inputs}
use Rattle.driver_core.specs.declared.state.outcome.Outcome.{Outcome}
use Rattle.driver_core.specs.Attaching.{attach}
use Rattle.driver_core.specs.Commands.{command}
use Rattle.driver_core.specs.Reloading.{reload}
use Rattle.driver_core.specs.Renewal.{renewed}
use Rattle.driver_core.specs.SettingUp.{set_up}
use Rattle.driver_core.specs.State.{State, at_moment, ruled}
use Rattle.driver_core.specs.Ticking.{tick}
use Rattle.driver_core.specs.Unread.{dropping}

-- what the event's own rule makes of the registry
unfoldable pub drafted : State → Event → Inputs → Draft
drafted s (Attach now principal) inputs = attach (at_moment s now) principal
drafted s (Command now client bytes) inputs = command (at_moment s now) client bytes
drafted s (Reload now policy) inputs = reload (at_moment s now) policy
drafted s (Tick now) inputs = tick (at_moment s now) inputs.silent
drafted s (Setup now local from setup) inputs = set_up (at_moment s now) local from setup

-- the moment that an event tells
abbrev pub moment_told : Event → ℕ
moment_told (Attach now principal) = now
moment_told (Command now client bytes) = now
moment_told (Reload now policy) = now
moment_told (Tick now) = now
moment_told (Setup now local from setup) = now

-- the registry to which an event comes: the policy is what it is at the event's moment
abbrev pub coming_to : State → Event → State
coming_to s event = ruled s (moment_told event)

-- and then the pairs are renewed, and images close that none reads
unfoldable pub conduct : State → Event → Inputs → Change
conduct s event inputs = dropping s (renewed s inputs (drafted (coming_to s event) event inputs))

-- what the event reports
abbrev pub outcome_of : State → Event → Inputs → Outcome
outcome_of s event inputs = (conduct s event inputs).outcome

-- what the event leaves
abbrev pub state_after : State → Event → Inputs → State
state_after s event inputs = (conduct s event inputs).after

-- the registry after these events, each with what the logs said at it
abbrev pub state_of : State → List (Event × Inputs) → State
state_of s [] = s
state_of s (event ∷ events) = state_of (state_after s event.0 event.1) events
