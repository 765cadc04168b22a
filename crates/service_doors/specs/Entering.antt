-- Who may come in by the door of a principal. Own rules.
use Rattle.std.specs.Prelude.{◌≡◌, ℕ, Bool, true, false, List, Option, Some, None, Result, Ok, Err, ◌<◌, length, slice_index_or}
use Rattle.driver_service.specs.declared.reason.Reason.{Reason}
use Rattle.driver_service.specs.declared.reason.Reason.TheVariants as reasons
use Rattle.service_doors.specs.declared.doors.Door.{Door}
use Rattle.service_doors.specs.declared.hall.Event.{Event}
use Rattle.service_doors.specs.declared.hall.Event.TheVariants as events
use Rattle.service_doors.specs.declared.serving.Begun.{Begun}

-- why nobody comes in: the principal has as many clients as it may, or else there is no memory
abbrev pub WhyNot : Bool → Reason → Type 0
WhyNot true reason = reason ≡ reasons.Full
WhyNot false reason = reason ≡ reasons.NoMemory

-- Who comes in by a door acts for its principal, and shares what that principal's clients have together.
abbrev pub ActsFor : {R : Type 0} → Door → Event R → Type 0
ActsFor door (events.Enters entering told) = (door.principal ≡ Some entering.principal) × (entering.share.room.value.principal ≡ entering.principal)
ActsFor door event = Unit {0}

-- the same of one of these doors, where somebody came in
abbrev pub LedBy : {R : Type 0} → List Door → Event R → Type 0
LedBy doors (events.Enters entering told) = (place : ℕ) × (door : Door) × (place < length doors) × (door ≡ slice_index_or doors place door) × ActsFor door (events.Enters entering told)
LedBy doors event = Unit {0}

-- who came in, where somebody did of whom there is something to do
abbrev pub CameBy : {R : Type 0} → List Door → Option (Option (Event R)) → Type 0
CameBy doors None = Unit {0}
CameBy doors (Some None) = Unit {0}
CameBy doors (Some (Some event)) = LedBy doors event

-- who came in gets no client since the driver was ended
abbrev pub is_end : Reason → Bool
is_end reasons.Stopped = true
is_end reason = false

abbrev pub finds_end : Result Begun Reason → Bool
finds_end (Ok begun) = false
finds_end (Err reason) = is_end reason
