-- Who came in, and who may. Own rules.
use Rattle.std.specs.Prelude.{◌==◌, ℕ, Bool, List, filter, length}
use Rattle.service_doors.specs.declared.guests.Guest.{Guest}

-- they act for that principal
abbrev pub is_of : ℕ → Guest → Bool
is_of principal guest = guest.principal == principal

abbrev pub clients_of : ℕ → List Guest → List Guest
clients_of principal guests = filter (is_of principal) guests
