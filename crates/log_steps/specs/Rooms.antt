-- The memory that a log takes. Own rules.
use Rattle.std.specs.Prelude.{◌≡◌, ℕ, ◌*◌, Option, Some, None}
use Rattle.driver_core.specs.declared.state.event.Event.{Event}
use Rattle.driver_core.specs.declared.state.event.Event.TheVariants.{Setup as SetUp}
use Rattle.frame_codec.specs.declared.join.Join.{Join}
use Rattle.frame_codec.specs.declared.setup.Setup.{Setup}
use Rattle.frame_codec.specs.Join.{join_of}
use Rattle.stream_registry.specs.declared.row.Origin.{Origin}
use Rattle.stream_registry.specs.declared.row.Origin.TheVariants.{Published, Remote}
use Rattle.stream_registry.specs.declared.row.LogRow.{LogRow}

abbrev pub room_by : Option Join → Option ℕ
room_by None = None
room_by (Some join) = Some (3 * join.term_length)

abbrev pub room_of_setup : Setup → Option ℕ
room_of_setup setup = room_by (join_of setup)

-- that for the log which the event brings
abbrev pub memory_of : Event → Option ℕ
memory_of (SetUp now local from setup) = room_of_setup setup
memory_of event = None

abbrev pub IsRoomFor : Option ℕ → LogRow → Origin → Type 0
IsRoomFor room log (Published exclusive since) = room ≡ None
IsRoomFor room log (Remote address initial_term join) = room ≡ Some (3 * log.measures.term_length)
