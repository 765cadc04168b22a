-- How far the logs of a client have come, as its connection is told. Own rules.
use Rattle.std.specs.Prelude.{◌≡◌, Result, Ok, Err}
use Rattle.driver_service.specs.declared.positions.ImagePositions.{ImagePositions}
use Rattle.driver_service.specs.declared.positions.PublicationPositions.{PublicationPositions}
use Rattle.driver_service.specs.declared.reason.Reason.{Reason}
use Rattle.driver_service.specs.declared.reason.Reason.TheVariants as reasons
use Rattle.driver_service.specs.declared.reason.Refusal.{Refusal}
use Rattle.driver_service.specs.declared.reason.Refusal.TheVariants.{Because}
use Rattle.log_slots.specs.declared.positions.PublicationPositions.{PublicationPositions as LogPositions}
use Rattle.media_driver.specs.declared.faults.PositionFault.{PositionFault}
use Rattle.media_driver.specs.declared.faults.PositionFault.TheVariants as faults
use Rattle.media_driver.specs.declared.positions.ImagePositions.{ImagePositions as ReadPositions}

abbrev pub position_reason : PositionFault → Reason
position_reason faults.Closed = reasons.Closed
position_reason faults.NoLook = reasons.NoLook

-- each number as the client is shown it
abbrev pub publication_told : LogPositions → PublicationPositions
publication_told shown = record { position = shown.position; limit = shown.limit; sent = shown.sent; consumed = shown.consumed; connected = shown.connected }

abbrev pub image_told : ReadPositions → ImagePositions
image_told shown = record { joined = shown.joined; position = shown.position; received = shown.received }

abbrev pub TellsPublication : Result LogPositions PositionFault → Result PublicationPositions Refusal → Type 0
TellsPublication (Ok shown) told = told ≡ Ok (publication_told shown)
TellsPublication (Err fault) told = told ≡ Err (Because (position_reason fault))

abbrev pub TellsImage : Result ReadPositions PositionFault → Result ImagePositions Refusal → Type 0
TellsImage (Ok shown) told = told ≡ Ok (image_told shown)
TellsImage (Err fault) told = told ≡ Err (Because (position_reason fault))
