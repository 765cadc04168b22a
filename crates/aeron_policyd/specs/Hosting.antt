-- Who comes in by a door gets a client that attached for the principal of that door. Own rules.
use Rattle.std.specs.Prelude.{◌≡◌, ◌+◌, ◌-◌, ℕ, true, Result, Ok, Err}
use Rattle.driver_service.specs.declared.reason.Reason.{Reason}
use Rattle.driver_service.specs.declared.reason.Reason.TheVariants as reasons
use Rattle.media_driver.specs.Attaching.{Attaches}
use Rattle.media_driver.specs.Clients.{Attached}
use Rattle.media_driver.specs.Parts.{DriverState}
use Rattle.media_driver.specs.declared.faults.AttachFault.{AttachFault}
use Rattle.media_driver.specs.declared.faults.AttachFault.TheVariants as faults
use Rattle.published_registry.specs.Histories.{History, registry_of}
use Rattle.service_doors.specs.declared.serving.Begun.{Begun}
use Rattle.service_doors.specs.declared.serving.Returned.{Returned}

-- the number of a client, or why there is none
abbrev pub number_in : Result Begun Reason → Result ℕ Reason
number_in (Ok begun) = Ok begun.number
number_in (Err reason) = Err reason

-- a client of that number attached for that principal; where there is none, whatever the driver was asked
abbrev pub Gives : DriverState → ℕ → Result ℕ Reason → DriverState → Type 0
Gives old principal (Ok number) new = (known : History) × Attaches principal number known old new
Gives old principal (Err reason) new = Unit {0}

-- why there is none, as who came in is told
abbrev pub attach_reason : AttachFault → Reason
attach_reason faults.Full = reasons.Full
attach_reason faults.Stopped = reasons.Stopped
attach_reason faults.NoMemory = reasons.NoMemory

-- A client goes back to the driver; where it says that the driver was ended, the registry that it saw says so.
pub record TakesBack (returned : Returned) (old new : DriverState) : Type 0 where
  pub client : Attached
  pub number : returned.number ≡ client.number
  pub ended : returned.ended ≡ true → (registry_of client.known).stopped ≡ true
  pub taken : new ≡ record old { out = old.out - 1; counted = old.counted + client.counted }
