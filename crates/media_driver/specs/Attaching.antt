-- What a driver asks and answers as a client attaches. Own rules.
use Rattle.std.specs.Prelude.{◌≡◌, ◌≤◌, ◌+◌, ◌⊎◌, ℕ, List}
use mathlib.Core.List.{IsPrefix}
use Rattle.driver_core.specs.declared.state.entry.Entry.{Entry}
use Rattle.driver_core.specs.declared.state.event.Event.TheVariants.{Attach}
use Rattle.driver_core.specs.declared.state.outcome.Response.TheVariants.{Attached}
use Rattle.media_agents.specs.Answering.{Answers}
use Rattle.media_driver.specs.declared.faults.AttachFault.{AttachFault}
use Rattle.media_driver.specs.declared.faults.AttachFault.TheVariants.{Full, Stopped, NoMemory}
use Rattle.media_driver.specs.Parts.{Asks, DriverState}
use Rattle.published_registry.specs.Histories.{History}

-- it asks for a client of that principal, once, and nothing else changes
pub record AsksToAttach (principal : ℕ) (old new : DriverState) : Type 0 where
  pub now : ℕ
  pub asks : Asks (Attach now principal) old new

-- The same, and one more is out. Entries that the client knows of end with the one of that event, which has it under that number.
pub record Attaches (principal number : ℕ) (known : History) (old new : DriverState) : Type 0 where
  pub now : ℕ
  pub asks : Asks (Attach now principal) (record old { out = old.out + 1 }) new
  pub entries : List Entry
  pub answers : Answers (Attach now principal) (Attached number) entries
  pub seen : IsPrefix entries known.entries

-- Why there is no client. Where 64 are out nothing is asked, nor where memory runs out before; all else the conductor answers.
abbrev pub AttachFails : ℕ → AttachFault → DriverState → DriverState → Type 0
AttachFails principal Full old new = ((64 ≤ old.out) × (new ≡ old)) ⊎ AsksToAttach principal old new
AttachFails principal Stopped old new = AsksToAttach principal old new
AttachFails principal NoMemory old new = (new ≡ old) ⊎ AsksToAttach principal old new
