-- What logs answer the conductor, each asked under the lock of its slot, one after another. Own rules.
use Rattle.std.specs.Prelude.{◌≡◌, ℕ, ℤ, ◌++◌, Bool, true, false, List, [], ◌∷◌, Option, Some, None, Result, Ok, Err, filter_map, take}
use Rattle.std.specs.Option.{option_map}
use Rattle.driver_core.specs.declared.state.event.End.{End}
use Rattle.driver_core.specs.declared.state.event.Event.{Event}
use Rattle.driver_core.specs.declared.state.event.Event.TheVariants.{Attach, Command, Reload, Setup, Tick}
use Rattle.driver_core.specs.Pairs.{pairs_of}
use Rattle.driver_core.specs.Readers.{readers_of}
use Rattle.driver_core.specs.Renewal.{source_at}
use Rattle.driver_core.specs.State.{State, at_moment}
use Rattle.log_steps.specs.Held.{HeldLog}
use Rattle.log_arena.specs.Homes.{Home}
use Rattle.log_slots.specs.Slots.{IsLocked, SlotLog, is_silent_in, log_of, reach_in, with_log, with_readers, without_log}
use Rattle.media_agents.specs.Acts.{Access, Chain, held}
use Rattle.media_agents.specs.declared.slots.LogAt.{LogAt}
use Rattle.media_agents.specs.Finding.{log_at}
use Rattle.stream_registry.specs.declared.pairs.Pair.{Pair}
use Rattle.stream_registry.specs.declared.lingering.LogPlace.{LogPlace}
use Rattle.stream_registry.specs.declared.row.LogRow.{LogRow}
use Rattle.stream_registry.specs.Origins.{is_published}

-- a hold of a lock may have found this in the slot, and left that
pub record IsHold (home : Home) (found left : SlotLog) : Type 0 where
  pub found_is : IsLocked home found
  pub left_is : IsLocked home left

-- ---- one hold, where `Held found left` says that a hold found this and left that

-- these subscriptions, and no others, read the log of that source from then on: how far it reaches, if it is open there
pub record Rejoins (Held : SlotLog → SlotLog → Type 0) (source : ℕ) (subscriptions : List ℕ) (position : Option ℕ) : Type 0 where
  pub found : SlotLog
  pub held : Held found (with_readers source subscriptions found)
  pub position_is : position ≡ reach_in source found

-- whether it is the log of an image that is open there, of which nothing was heard for longer than the limit
pub record SaysSilent (Held : SlotLog → SlotLog → Type 0) (source now limit : ℕ) (silent : Bool) : Type 0 where
  pub found : SlotLog
  pub held : Held found found
  pub silent_is : silent ≡ is_silent_in source now limit found

-- the log of that source, if it is open there, which it is no longer
pub record Closes (Held : SlotLog → SlotLog → Type 0) (source : ℕ) (log : Option HeldLog) : Type 0 where
  pub found : SlotLog
  pub held : Held found (without_log source found)
  pub log_is : log ≡ log_of source found

-- no log was open there, and this one is from then on, of that session and stream
pub record Takes (Held : SlotLog → SlotLog → Type 0) (session stream : ℤ) (log : HeldLog) : Type 0 where
  pub found : SlotLog
  pub held : Held found (with_log session stream log)
  pub free : found.log ≡ None

-- the log came back, and nothing was changed there
pub record Refuses (Held : SlotLog → SlotLog → Type 0) (log back : HeldLog) : Type 0 where
  pub found : SlotLog
  pub held : Held found found
  pub back_is : back ≡ log

-- the log opened there, or came back
abbrev pub Opens : (SlotLog → SlotLog → Type 0) → ℤ → ℤ → HeldLog → Result Unit HeldLog → Type 0
Opens Held session stream log (Ok done) = Takes Held session stream log
Opens Held session stream log (Err back) = Refuses Held log back

-- the accesses are one hold of that log's lock
abbrev pub IsAt : LogAt → List Access → SlotLog → SlotLog → Type 0
IsAt at accesses found left = accesses ≡ held at found left ∷ []

-- the access changed nothing
abbrev pub LeavesIt : Access → Type 0
LeavesIt (held at found left) = left ≡ found
LeavesIt access = Unit {0}

-- ---- one after another

-- after the answers before it
abbrev pub with_answer : {B : Type 0} → Option B → List B → List B
with_answer None answers = answers
with_answer (Some answer) answers = answers ++ answer ∷ []

module _ {A B : Type 0} where
  -- one was asked, which may have an answer
  abbrev pub Asks : (A → Option B → List Access → Type 0) → A → List B → List B → List Access → Type 0
  Asks Says one before after accesses = (answer : Option B) × Says one answer accesses × (after ≡ with_answer answer before)

  -- each of these was asked, in their order, and those are the answers of all that had one
  abbrev pub Gathers : (A → Option B → List Access → Type 0) → List A → List B → List Access → Type 0
  Gathers Says all answers = Chain (Asks Says) all [] answers

-- ---- images that are silent

abbrev pub silent_number : ℕ → Bool → Option ℕ
silent_number source false = None
silent_number source true = Some source

-- the log of an image was asked, and the answer is its number if it is silent; that of a publication is not asked
abbrev pub SilenceOfKind : Bool → LogAt → ℕ → ℕ → Option ℕ → List Access → Type 0
SilenceOfKind true at now limit answer accesses = (answer ≡ None) × (accesses ≡ [])
SilenceOfKind false at now limit answer accesses =
    (silent : Bool) × SaysSilent (IsAt at accesses) at.source now limit silent × (answer ≡ silent_number at.source silent)

abbrev pub SilenceOf : ℕ → ℕ → LogRow → Option ℕ → List Access → Type 0
SilenceOf now limit row answer accesses = SilenceOfKind (is_published row) (log_at row) now limit answer accesses

-- the images of a registry that are silent at that moment, each asked
abbrev pub AreSilentAt : State → ℕ → List ℕ → List Access → Type 0
AreSilentAt s now silent accesses = Gathers (SilenceOf (at_moment s now).moment s.settings.image_liveness) s.streams.sources silent accesses

-- those that an event closes as silent: a tick alone closes any
abbrev pub AreSilent : State → Event → List ℕ → List Access → Type 0
AreSilent s (Attach now principal) silent accesses = (silent ≡ []) × (accesses ≡ [])
AreSilent s (Command now client bytes) silent accesses = (silent ≡ []) × (accesses ≡ [])
AreSilent s (Reload now policy) silent accesses = (silent ≡ []) × (accesses ≡ [])
AreSilent s (Tick now) silent accesses = AreSilentAt s now silent accesses
AreSilent s (Setup now local from setup) silent accesses = (silent ≡ []) × (accesses ≡ [])

-- ---- pairs that come and go

-- who reads a log once these pairs came: those that do, and those that come, 512 at most
abbrev pub readers_with : State → List Pair → ℕ → List ℕ
readers_with s come source = take 512 (readers_of (pairs_of s) source ++ readers_of come source)

abbrev pub end_at : ℕ → ℕ → End
end_at source position = record { source = source; position = position }

-- the log is joined by those that come, and the answer is how far it reaches, if it is there and open
abbrev pub JoinsAt : State → List Pair → ℕ → Option LogRow → Option End → List Access → Type 0
JoinsAt s come source None answer accesses = (answer ≡ None) × (accesses ≡ [])
JoinsAt s come source (Some row) answer accesses =
    (position : Option ℕ) × Rejoins (IsAt (log_at row) accesses) row.number (readers_with s come source) position × (answer ≡ option_map (end_at source) position)

abbrev pub Joins : State → List Pair → Pair → Option End → List Access → Type 0
Joins s come pair answer accesses = JoinsAt s come pair.source (source_at s.streams.sources pair.source) answer accesses

-- so were the first of them, as many as may be
pub record JoinsSome (s : State) (come : List Pair) (accesses : List Access) : Type 0 where
  pub count : ℕ
  pub ends : List End
  pub joins : Gathers (Joins s come) (take count come) ends accesses

-- the log is read by those that the registry says, if it is there
abbrev pub SettlesAt : State → ℕ → Option LogRow → List Access → Type 0
SettlesAt s source None accesses = accesses ≡ []
SettlesAt s source (Some row) accesses =
    (position : Option ℕ) × Rejoins (IsAt (log_at row) accesses) row.number (readers_of (pairs_of s) source) position

abbrev pub Settles : State → Pair → List Access → Type 0
Settles s pair accesses = SettlesAt s pair.source (source_at s.streams.sources pair.source) accesses

-- ---- logs that close

-- where the log is that closes, as its row says; a row that the registry has not is nowhere
abbrev pub closing_at : State → LogPlace → Option LogAt
closing_at s place = option_map log_at (source_at s.streams.sources place.source)

-- where those are that close, in their order
abbrev pub closing : State → List LogPlace → List LogAt
closing s closes = filter_map (closing_at s) closes

-- a hold of its lock closed the log, if it was open there
abbrev pub IsClosed : LogAt → List Access → Type 0
IsClosed at accesses = (log : Option HeldLog) × Closes (IsAt at accesses) at.source log

abbrev pub IsRowClosed : LogRow → List Access → Type 0
IsRowClosed row accesses = IsClosed (log_at row) accesses
