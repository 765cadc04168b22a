-- Who comes in by a door comes in by one of the doors.
use Rattle.std.proofs.Common.{◌≡◌, ◌<◌, ℕ, List, length, Option, Some, None}
use Rattle.std.specs.Prelude.{IfSome, slice_index_or}
use Rattle.service_doors.specs.Entering.{ActsFor, CameBy, LedBy}
use Rattle.service_doors.specs.declared.doors.Door.{Door}
use Rattle.service_doors.specs.declared.hall.Event.{Event}
use Rattle.service_doors.specs.declared.hall.Event.TheVariants as events

led : {R : Type 0} (doors : List Door) (place : ℕ) (door : Door) (event : Event R) →
    place < length doors → door ≡ slice_index_or doors place door → ActsFor door event → LedBy doors event
led doors place door (events.Enters entering told) less there acts = (place, door, less, there, acts)
led doors place door (events.Asks operator) less there acts = tt
led doors place door (events.Reads operator from choice) less there acts = tt
led doors place door events.Due less there acts = tt
led doors place door events.Quiet less there acts = tt
led doors place door events.Stops less there acts = tt

pub came : {R : Type 0} (doors : List Door) (place : ℕ) (door : Door) (event : Option (Event R)) →
    place < length doors → door ≡ slice_index_or doors place door → IfSome event (ActsFor door) → CameBy doors (Some event)
came doors place door None less there acts = tt
came doors place door (Some event) less there acts = led doors place door event less there acts
