-- How the copies of a publisher go together.
use Rattle.std.specs.Prelude.{◌≡◌, [], ◌∷◌, ◌++◌}
use Rattle.driver_core.specs.Conduct.{state_after}
use Rattle.driver_core.specs.declared.state.entry.Entry.{Entry}
use Rattle.driver_core.specs.State.{State}
use Rattle.logbook.specs.Pages.{Named}
use Rattle.published_registry.specs.Books.{head_of}
use Rattle.published_registry.specs.declared.rule.Told.{Told}
use Rattle.published_registry.specs.declared.shown.Shown.{Shown}
use Rattle.published_registry.specs.Histories.{Known, IsPlannedOn, registry_after}
use Rattle.published_registry.specs.Rules.{Fits, told}

-- What readers are shown is what the publisher knows last, its own registry is the same, and it has the right to add to the
-- history
pub record Stands (known : Told) (shown : Shown) (newest : State) (front : Known) (head : Named) : Type 0 where
  pub knows : known ≡ told known.opening front
  pub fits : Fits known.opening front shown
  pub last : shown.front ≡ front
  pub own : newest ≡ shown.registry
  pub right : head ≡ head_of front.book

-- One entry more stands in the history and is done to the publisher's own registry, which it was planned on, and readers are
-- not shown it yet
pub record Waits (known : Told) (shown : Shown) (newest : State) (front : Known) (head : Named) (entry : Entry) : Type 0 where
  pub before : State
  pub was : Known
  pub stands : Stands known shown before was head
  pub book : front.book ≡ was.book
  pub entries : front.entries ≡ was.entries ++ entry ∷ []
  pub planned : IsPlannedOn (registry_after known.opening was.entries) entry
  pub own : newest ≡ state_after before entry.event entry.inputs
