-- Over every list of events: which logs close.
use Rattle.std.specs.Prelude.{◌≡◌, ℕ, ◌-◌, ◌<◌, ◌==◌, max, Bool, true, not, List, map, filter, Contains, Some, ◌⊎◌}
use Rattle.std.specs.List.{list_any}
use Rattle.driver_core.specs.Change.{Change}
use Rattle.driver_core.specs.declared.state.event.Event.{Event}
use Rattle.driver_core.specs.declared.state.event.Event.TheVariants.{Tick}
use Rattle.driver_core.specs.declared.state.event.Inputs.{Inputs}
use Rattle.driver_core.specs.declared.state.peer.Peer.{Peer}
use Rattle.driver_core.specs.declared.state.settings.Settings.{Settings}
use Rattle.driver_core.specs.Conduct.{coming_to, conduct, drafted, state_of}
use Rattle.driver_core.specs.Pairs.{pairs_of}
use Rattle.driver_core.specs.Soundness.{AreSettings, log_of}
use Rattle.driver_core.specs.State.{State, opened}
use Rattle.driver_laws.specs.Events.{AfterAnyEvents}
use Rattle.driver_laws.specs.LeavingLaws.{IsTerminatedBy}
use Rattle.log_readers.specs.Unread.{is_unread}
use Rattle.policy_core.specs.RuleList.{Rules}
use Rattle.stream_registry.specs.declared.lingering.LogPlace.{LogPlace}
use Rattle.stream_registry.specs.declared.row.LogRow.{LogRow}
use Rattle.stream_registry.specs.Lingering.{is_image_of, place_of}
use Rattle.stream_registry.specs.Origins.{lingering_since}

-- at a tick the log has lingered for longer than it may
pub record IsPastBy (s : State) (event : Event) (log : LogRow) : Type 0 where
  pub moment : ℕ
  pub since : ℕ
  pub event_is : event ≡ Tick moment
  pub lingers : lingering_since log ≡ Some since
  pub too_long : log.measures.linger < max s.moment moment - since

-- at a tick it is one of the images that the event's inputs call silent
pub record IsSilentBy (event : Event) (inputs : Inputs) (log : LogRow) : Type 0 where
  pub moment : ℕ
  pub event_is : event ≡ Tick moment
  pub silent : is_image_of inputs.silent log ≡ true

-- it is an image of which the moment and the event's own rule leave no pair
abbrev pub IsUnreadBehind : State → Event → Inputs → LogRow → Type 0
IsUnreadBehind s event inputs log = is_unread (pairs_of (drafted s event inputs).after) log ≡ true

-- or the driver is ended
abbrev pub Closes : State → Event → Inputs → LogRow → Type 0
Closes s event inputs log =
    IsPastBy s event log
    ⊎ (IsSilentBy event inputs log ⊎ (IsTerminatedBy s event ⊎ IsUnreadBehind s event inputs log))

-- ---- closed exactly

-- the outcome says that it closes, and no log of its number is live
pub record IsClosed (change : Change) (log : LogRow) : Type 0 where
  pub told : Contains change.outcome.closes (place_of log)
  pub gone :
      (other : LogRow) → Contains change.after.streams.sources other → ¬ (other.number ≡ log.number)

abbrev pub LogsCloseExactly : Type 0
LogsCloseExactly =
    (settings : Settings) (policy : Rules) (peers : List Peer) (events : List (Event × Inputs)) → AreSettings settings →
    (event : Event) (inputs : Inputs) (log : LogRow) →
    Contains (state_of (opened settings policy peers) events).streams.sources log →
    Closes (coming_to (state_of (opened settings policy peers) events) event) event inputs log →
    IsClosed (conduct (state_of (opened settings policy peers) events) event inputs) log

-- ---- closed only

-- it is the same log, whether it lingers or not
abbrev pub IsSameLog : LogRow → LogRow → Type 0
IsSameLog log other = log_of log ≡ log_of other

-- the log is live, but for the moment since when it lingers
pub record IsLive (after : State) (log : LogRow) : Type 0 where
  pub now : LogRow
  pub stands : Contains after.streams.sources now
  pub same : IsSameLog now log

-- what the outcome reports is the place of a log that the event closes
pub record IsToldBy (s : State) (event : Event) (inputs : Inputs) (place : LogPlace) : Type 0 where
  pub log : LogRow
  pub stood : Contains s.streams.sources log
  pub place_is : place ≡ place_of log
  pub closes : Closes s event inputs log

pub record ClosesOnly (s : State) (event : Event) (inputs : Inputs) (change : Change) : Type 0 where
  pub live :
      (log : LogRow) → Contains s.streams.sources log →
      IsLive change.after log ⊎ Closes s event inputs log
  pub told : (place : LogPlace) → Contains change.outcome.closes place → IsToldBy s event inputs place

abbrev pub LogsCloseOnly : Type 0
LogsCloseOnly =
    AfterAnyEvents (λ s. (event : Event) (inputs : Inputs) →
    ClosesOnly (coming_to s event) event inputs (conduct s event inputs))

-- ---- what closes was there

-- no log of its number is live
abbrev pub is_no_more : State → LogRow → Bool
is_no_more after log =
    not (list_any (λ (other : LogRow). other.number == log.number) after.streams.sources)

-- what is reported are the places of the logs that were live before and are no more, each once, in the order in which they came
abbrev pub ClosedLogsWereThere : Type 0
ClosedLogsWereThere =
    AfterAnyEvents (λ s.
    (event : Event) (inputs : Inputs) →
    (conduct s event inputs).outcome.closes
    ≡ map place_of (filter (is_no_more (conduct s event inputs).after) s.streams.sources))
