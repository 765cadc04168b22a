-- What a client is shown of how far the logs of its own have come: what the log says that a lock guards, by the registry that the
-- client saw last. Own rules.
use Rattle.std.specs.Prelude.{◌≡◌, ℕ, ◌≤◌, ◌⊎◌, ◌==◌, Bool, false, Option, Some, None, Result, Ok, Err, if◌then◌else◌}
use Rattle.std.specs.Option.{option_map}
use Rattle.driver_core.specs.Directing.{own_log}
use Rattle.driver_core.specs.Renewal.{source_at, subscription_at}
use Rattle.driver_core.specs.State.{State}
use Rattle.log_arena.specs.Homes.{Home}
use Rattle.log_slots.specs.Counting.{SlotCount}
use Rattle.log_slots.specs.Positions.{positions_in, reading_in}
use Rattle.log_slots.specs.Slots.{IsLocked, SlotLog}
use Rattle.log_slots.specs.declared.positions.PublicationPositions.{PublicationPositions}
use Rattle.log_slots.specs.declared.positions.ReadingPositions.{ReadingPositions}
use Rattle.media_agents.specs.Finding.{log_at}
use Rattle.media_agents.specs.declared.slots.LogAt.{LogAt}
use Rattle.media_driver.specs.declared.faults.PositionFault.{PositionFault}
use Rattle.media_driver.specs.declared.faults.PositionFault.TheVariants.{Closed, NoLook}
use Rattle.media_driver.specs.declared.positions.ImagePositions.{ImagePositions}
use Rattle.stream_registry.specs.Origins.{begins_at}
use Rattle.stream_registry.specs.declared.row.Subscription.{Subscription}

-- ---- a publication

-- where the log is that the client's own registration is with, and how long a status message stands
abbrev pub with_timeout : ℕ → Option LogAt → Option (LogAt × ℕ)
with_timeout timeout None = None
with_timeout timeout (Some at) = Some (at, timeout)

abbrev pub publication_of : State → ℕ → ℕ → Option (LogAt × ℕ)
publication_of s client registration =
    with_timeout s.settings.connection_timeout (option_map log_at (own_log s client registration))

-- a lock guards a log of which that is so at that moment
pub record ShowsPublication (home : Home) (source now timeout : ℕ) (shown : Option PublicationPositions) : Type 0 where
  pub slot : SlotCount
  pub locked : IsLocked home slot.kept
  pub shown_is : shown ≡ positions_in source now timeout slot.kept slot.reports

-- at a moment that is not before that one
pub record ShownSince (home : Home) (moment source timeout : ℕ) (shown : Option PublicationPositions) : Type 0 where
  pub now : ℕ
  pub later : moment ≤ now
  pub shows : ShowsPublication home source now timeout shown

abbrev pub IsShownOf : Home → ℕ → Option (LogAt × ℕ) → Option PublicationPositions → Type 0
IsShownOf home moment None shown = ⊥
IsShownOf home moment (Some found) shown = ShownSince home moment found.0.source found.1 shown

-- the positions are those of the log; and it is closed only where there is none of the client's own, or none is open
abbrev pub IsPublicationShown : Home → ℕ → Option (LogAt × ℕ) → Result PublicationPositions PositionFault → Type 0
IsPublicationShown home moment found (Ok positions) = IsShownOf home moment found (Some positions)
IsPublicationShown home moment found (Err Closed) = (found ≡ None) ⊎ IsShownOf home moment found None
IsPublicationShown home moment found (Err NoLook) = Unit {0}

-- ---- a log that a subscription reads

abbrev pub is_of_client : ℕ → Option Subscription → Bool
is_of_client client None = false
is_of_client client (Some subscription) = subscription.client == client

-- where the log of the source is, and at which position it begins, where the subscription is the client's own
abbrev pub reading_of : State → ℕ → ℕ → ℕ → Option (LogAt × ℕ)
reading_of s client subscription source =
    if is_of_client client (subscription_at s.streams.subscriptions subscription)
    then option_map (λ row. (log_at row, begins_at row)) (source_at s.streams.sources source)
    else None

pub record ShowsReading (home : Home) (source subscription : ℕ) (shown : Option ReadingPositions) : Type 0 where
  pub slot : SlotLog
  pub locked : IsLocked home slot
  pub shown_is : shown ≡ reading_in source subscription slot

abbrev pub IsReadingOf : Home → ℕ → Option (LogAt × ℕ) → Option ReadingPositions → Type 0
IsReadingOf home subscription None shown = ⊥
IsReadingOf home subscription (Some found) shown = ShowsReading home found.0.source subscription shown

abbrev pub joined_at : ℕ → ReadingPositions → ImagePositions
joined_at joined reading = record { joined = joined; position = reading.position; received = reading.received }

-- and with the position at which the stream is joined
pub record IsJoinedReading (home : Home) (subscription : ℕ) (found : LogAt × ℕ) (positions : ImagePositions) : Type 0 where
  pub reading : ReadingPositions
  pub shows : ShowsReading home found.0.source subscription (Some reading)
  pub positions_are : positions ≡ joined_at found.1 reading

abbrev pub IsJoinedOf : Home → ℕ → Option (LogAt × ℕ) → ImagePositions → Type 0
IsJoinedOf home subscription None positions = ⊥
IsJoinedOf home subscription (Some found) positions = IsJoinedReading home subscription found positions

abbrev pub IsReadingShown : Home → ℕ → Option (LogAt × ℕ) → Result ImagePositions PositionFault → Type 0
IsReadingShown home subscription found (Ok positions) = IsJoinedOf home subscription found positions
IsReadingShown home subscription found (Err Closed) = (found ≡ None) ⊎ IsReadingOf home subscription found None
IsReadingShown home subscription found (Err NoLook) = Unit {0}
