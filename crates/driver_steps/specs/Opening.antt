-- The log that an event opens, if it opens one, and what becomes of the others. Own rules.
use Rattle.std.specs.Prelude.{◌≡◌, ℕ, ◌<◌, List, length, map, filter, Option, Some, None}
use Rattle.driver_core.specs.declared.state.event.Event.{Event}
use Rattle.driver_core.specs.Pairs.{pairs_of}
use Rattle.driver_core.specs.Renewal.{source_at}
use Rattle.driver_core.specs.State.{State}
use Rattle.driver_steps.specs.declared.opening.Memory.{Memory}
use Rattle.driver_steps.specs.declared.opening.Memory.TheVariants.{Publication, Image}
use Rattle.driver_steps.specs.declared.opening.Opening.{Opening}
use Rattle.driver_steps.specs.OpenLogs.{HeldLogs, IsOpening, OpensFor, is_kept, rejoined_held}
use Rattle.stream_registry.specs.declared.lingering.LogPlace.{LogPlace}
use Rattle.stream_registry.specs.declared.row.LogRow.{LogRow}
use Rattle.log_steps.specs.Moves.{taken}
use Rattle.log_steps.specs.Rooms.{IsRoomFor, memory_of}

-- where the log is to lie for which memory was taken, if it was for one
abbrev pub place_of : Option Opening → Option LogPlace
place_of None = None
place_of (Some opening) = Some opening.place

-- of how many bytes the log is for which the memory is: none are said of a publication's
abbrev pub room_of : Memory → Option ℕ
room_of (Publication room) = None
room_of (Image room) = Some room

-- it is for that log
abbrev pub IsMemoryFor : Option ℕ → Option LogRow → Type 0
IsMemoryFor room None = Unit {0}
IsMemoryFor room (Some log) = IsRoomFor room log log.origin

-- there is room for it among the others, and its memory is that for what the event brings
abbrev pub HasRoom : HeldLogs → Event → Option Opening → Type 0
HasRoom logs event None = Unit {0}
HasRoom logs event (Some opening) = (length logs.logs < logs.room) × (room_of opening.memory ≡ memory_of event)

-- it can be opened, as the registry after the event says
abbrev pub CanOpen : HeldLogs → State → Event → Option LogPlace → Type 0
CanOpen logs after event None = Unit {0}
CanOpen logs after event (Some opens) =
    IsOpening logs opens.place (source_at after.streams.sources opens.source)
    × IsMemoryFor (memory_of event) (source_at after.streams.sources opens.source)

-- it was opened
abbrev pub OpensNext : HeldLogs → HeldLogs → State → Option LogPlace → Type 0
OpensNext old new after None = new ≡ old
OpensNext old new after (Some opens) =
    OpensFor old new after opens.place (source_at after.streams.sources opens.source)

-- the log that the event opens is open, those are closed that it closes, and then exactly the pairs read
pub record Follows (old new : HeldLogs) (after : State) (place : Option LogPlace) (closes : List LogPlace) : Type 0 where
  pub opened : HeldLogs
  pub opens : OpensNext old opened after place
  pub left :
      new
      ≡ record opened {
        logs = map (rejoined_held (pairs_of after)) (filter (is_kept closes) opened.logs);
      }
