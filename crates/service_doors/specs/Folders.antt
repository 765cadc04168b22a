-- The folders in which a driver's sockets may be. Own rules; the bits of a mode are those of chmod.
use Rattle.std.specs.Prelude.{ℕ, Bool, not, ◌&&◌, ◌==◌, Option, Some, None, bit_and, if◌then◌else◌}
use Rattle.service_doors.specs.declared.fault.PlaceFault.{PlaceFault}
use Rattle.service_doors.specs.declared.fault.PlaceFault.TheVariants.{Owner, Writers}
use Rattle.service_doors.specs.declared.folders.Holder.{Holder}

-- a user who is neither root nor the driver's own
abbrev pub is_other : ℕ → ℕ → Bool
is_other user own = not (user == 0) && not (user == own)

-- a group or others may write: 020 and 002
abbrev pub others_write : ℕ → Bool
others_write mode = not (bit_and mode 18 == 0)

-- what is there is moved by its owner alone: 01000
abbrev pub is_sticky : ℕ → Bool
is_sticky mode = not (bit_and mode 512 == 0)

-- the owner is root or the driver's user, and nobody else may write; others may where that is a folder above the one of the
-- socket, and sticky
abbrev pub refusal_of : Holder → ℕ → Bool → Option PlaceFault
refusal_of holder own above =
    if is_other holder.owner own then Some (Owner holder.owner)
    else if others_write holder.mode && not (above && is_sticky holder.mode) then Some Writers
    else None
