-- The fields of the commands that remove: REMOVE_PUBLICATION, REMOVE_SUBSCRIPTION and REMOVE_COUNTER. (The layout is this
-- project's own.)
use Rattle.std.specs.Prelude.{ℕ, ◌<◌, ◌^◌, List, Result, Ok}
use Rattle.command_codec.specs.declared.fault.CommandFault.{CommandFault}
use Rattle.command_codec.specs.declared.removal.Removal.{Removal}
use Rattle.command_codec.specs.Gives.{◌>>=◌}
use Rattle.command_codec.specs.Fields.{one_number, number_bytes}

-- the registration that is to go
unfoldable pub removal_of : List ℕ → Result Removal CommandFault
removal_of bytes = one_number bytes >>= λ number. Ok (record { registration = number })

unfoldable pub removal_bytes : Removal → List ℕ
removal_bytes r = number_bytes 8 r.registration

-- what can be read again
pub record IsRemoval (r : Removal) : Type 0 where
  pub registration : r.registration < 2 ^ 64
