-- A log that opens in a slot. Own rules.
use Rattle.std.specs.Prelude.{◌≡◌, ℕ, ◌*◌, ◌/◌, Option, Some, None}
use Rattle.driver_core.specs.declared.state.settings.Settings.{Settings}
use Rattle.log_steps.specs.Held.{HeldLog}
use Rattle.log_steps.specs.Idents.{begins_of}
use Rattle.log_arena.specs.Homes.{Home}
use Rattle.log_slots.specs.declared.memory.LogMemory.{LogMemory}
use Rattle.log_slots.specs.declared.memory.LogMemory.TheVariants.{Publication, Image}
use Rattle.log_slots.specs.Slots.{IsMadeFor}
use Rattle.log_traffic.specs.Held.{made_held, messages_held, place_held}
use Rattle.log_traffic.specs.Whole.{StandsFor}
use Rattle.stream_registry.specs.declared.row.LogRow.{LogRow}

-- of how many bytes the log is for which the memory is: none are said of a publication's
abbrev pub room_of : LogMemory → Option ℕ
room_of (Publication room) = None
room_of (Image memory) = Some (3 * memory)

-- it is the log of that row, in a lease of that region at the row's place, and begins as the row says
pub record OpensAs (home : Home) (settings : Settings) (now : ℕ) (row : LogRow) (held : HeldLog) : Type 0 where
  pub source_is : held.source ≡ row.number
  pub made_is : IsMadeFor row.session row.stream (made_held held.log)
  pub home_is : (place_held held.log).home ≡ home
  pub place_is : (place_held held.log).place / 4096 ≡ row.place
  pub terms_are : (place_held held.log).term_length ≡ row.measures.term_length
  pub fresh : messages_held held.log ≡ 0
  pub begins : StandsFor held.log (begins_of settings now row)
