-- What follows an entry: a log opens, the pairs go that it takes away, and logs close. Own rules.
use Rattle.std.specs.Prelude.{◌≡◌, ℕ, ◌*◌, ◌/◌, Bool, true, false, List, [], All, Option, Some, None}
use Rattle.driver_core.specs.Conduct.{outcome_of}
use Rattle.driver_core.specs.declared.state.entry.Entry.{Entry}
use Rattle.driver_core.specs.declared.state.event.Event.{Event}
use Rattle.driver_core.specs.Pairs.{pairs_of}
use Rattle.driver_core.specs.Readers.{readers_of}
use Rattle.driver_core.specs.Renewal.{source_at}
use Rattle.driver_core.specs.State.{State}
use Rattle.log_steps.specs.Held.{HeldLog}
use Rattle.log_steps.specs.Rooms.{IsRoomFor, memory_of}
use Rattle.log_arena.specs.Homes.{Home}
use Rattle.log_arena.specs.Pages.{IsLeastPlace, marked}
use Rattle.log_slots.specs.Opening.{OpensAs}
use Rattle.log_traffic.specs.Held.{place_held}
use Rattle.media_agents.specs.Acts.{Access, Chain, Each, Then}
use Rattle.media_agents.specs.Asking.{AreSilent, Closes, Gathers, IsAt, Joins, JoinsSome, LeavesIt, Refuses, Rejoins, Settles, Takes, closing}
use Rattle.media_agents.specs.declared.slots.LogAt.{LogAt}
use Rattle.media_agents.specs.Finding.{log_at}
use Rattle.stream_registry.specs.declared.lingering.LogPlace.{LogPlace}
use Rattle.stream_registry.specs.declared.pairs.Pair.{Pair}
use Rattle.stream_registry.specs.declared.row.LogRow.{LogRow}
use Rattle.stream_registry.specs.LogPages.{log_pages}

-- ---- what is asked before an entry is made

-- the pairs that would come with the event, before it is known how far their logs reach
abbrev pub coming : State → Event → List ℕ → List Pair
coming s event silent = (outcome_of s event (record { silent = silent; ends = [] })).come

-- each pair that comes with the entry was joined to its log, and the entry says how far these reached
abbrev pub IsJoined : State → Entry → List Access → Type 0
IsJoined s entry accesses =
    Gathers (Joins s (coming s entry.event entry.inputs.silent)) (coming s entry.event entry.inputs.silent) entry.inputs.ends accesses

-- No entry was made of the event, and all logs are read as before. Before it was found which pairs would come, logs were only asked.
-- After that the first of these were joined, and then the log of each is read by those that the registry says.
pub data Undoes (s : State) (event : Event) (accesses : List Access) : Type 0 where
  unforeseen : All LeavesIt accesses → Undoes s event accesses
  undone : (silent : List ℕ) → Then (AreSilent s event silent) (Then (JoinsSome s (coming s event silent)) (Each (Settles s) (coming s event silent))) accesses
      → Undoes s event accesses

-- ---- the pages of the region

-- those of a log have no lease any more
abbrev pub freed : HeldLog → List Bool → List Bool
freed held pages = marked false ((place_held held.log).place / 4096) (3 * (place_held held.log).term_length / 4096) pages

abbrev pub freed_if : Option HeldLog → List Bool → List Bool
freed_if None pages = pages
freed_if (Some held) pages = freed held pages

-- those of a row's log have one
abbrev pub taken_by : LogRow → List Bool → List Bool
taken_by row pages = marked true row.place (log_pages row) pages

-- ---- the log opens that an event opens

-- the log of that row is read by those that the registry says
abbrev pub IsRead : State → LogRow → List Access → Type 0
IsRead s row accesses = (position : Option ℕ) × Rejoins (IsAt (log_at row) accesses) row.number (readers_of (pairs_of s) row.number) position

-- the slot of that row took the log
abbrev pub IsPut : LogRow → HeldLog → List Access → Type 0
IsPut row log accesses = Takes (IsAt (log_at row) accesses) row.session row.stream log

-- the log is in its slot, and those read it that the registry says; or the slot did not take it, and its pages are free again
pub data Puts (s : State) (row : LogRow) (log : HeldLog) (old new : List Bool) (accesses : List Access) : Type 0 where
  put : Then (IsPut row log) (IsRead s row) accesses → new ≡ old → Puts s row log old new accesses
  gave_back : Refuses (IsAt (log_at row) accesses) log log → new ≡ freed log old → Puts s row log old new accesses

-- the log of that row opened as it says; only where its place has no room, or the memory is not for it, nothing was done
pub data OpensRow (home : Home) (s : State) (room : Option ℕ) (row : LogRow) (old new : List Bool) (accesses : List Access) : Type 0 where
  opened : (log : HeldLog) → OpensAs home s.settings s.moment row log → Puts s row log (taken_by row old) new accesses → OpensRow home s room row old new accesses
  without_room : (IsLeastPlace old (log_pages row) row.place → IsRoomFor room row row.origin → ⊥) → new ≡ old → accesses ≡ []
      → OpensRow home s room row old new accesses

-- that of the source, if the registry has it
abbrev pub OpensSource : Home → State → Option ℕ → Option LogRow → List Bool → List Bool → List Access → Type 0
OpensSource home s room None old new accesses = (new ≡ old) × (accesses ≡ [])
OpensSource home s room (Some row) old new accesses = OpensRow home s room row old new accesses

abbrev pub OpensAt : Home → State → Option ℕ → LogPlace → List Bool → List Bool → List Access → Type 0
OpensAt home s room place old new accesses = OpensSource home s room (source_at s.streams.sources place.source) old new accesses

-- that which the event opens, if it opens one
abbrev pub OpensNext : Home → State → Option ℕ → Option LogPlace → List Bool → List Bool → List Access → Type 0
OpensNext home s room None old new accesses = (new ≡ old) × (accesses ≡ [])
OpensNext home s room (Some place) old new accesses = OpensAt home s room place old new accesses

-- ---- logs close

-- a hold of its lock closed the log, if it was open there, and then its pages are free
abbrev pub ClosesAt : LogAt → List Bool → List Bool → List Access → Type 0
ClosesAt at old new accesses = (log : Option HeldLog) × Closes (IsAt at accesses) at.source log × (new ≡ freed_if log old)

-- so did each of these, in their order
abbrev pub ClosesEach : List LogAt → List Bool → List Bool → List Access → Type 0
ClosesEach ats old new accesses = Chain ClosesAt ats old new accesses

-- ---- all that follows

-- The pairs that went read no more, and then the logs closed.
abbrev pub Leaves : State → List Pair → List LogAt → List Bool → List Bool → List Access → Type 0
Leaves s gone closes old new accesses = Then (Each (Settles s) gone) (ClosesEach closes old new) accesses

-- The log opened that the entry opens, as the registry after it says. Then the pairs that went read no more, and the logs closed
-- that the entry closes, where the registry before it has them.
pub record Follows (home : Home) (before after : State) (entry : Entry) (old new : List Bool) (accesses : List Access) : Type 0 where
  pub opened : List Bool
  pub happens : Then (OpensNext home after (memory_of entry.event) entry.outcome.opens old opened)
      (Leaves after entry.outcome.gone (closing before entry.outcome.closes) opened new) accesses
