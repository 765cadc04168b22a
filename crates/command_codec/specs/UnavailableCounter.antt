-- The fields of ON_UNAVAILABLE_COUNTER. (The layout is this project's own.)
use Rattle.std.specs.Prelude.{ℕ, ◌<◌, ◌^◌, List, Result, Ok}
use Rattle.command_codec.specs.declared.fault.CommandFault.{CommandFault}
use Rattle.command_codec.specs.declared.unavailable_counter.UnavailableCounter.{UnavailableCounter}
use Rattle.command_codec.specs.Gives.{◌>>=◌}
use Rattle.command_codec.specs.Fields.{one_number, number_bytes}

-- registration of the counter that went
unfoldable pub unavailable_counter_of : List ℕ → Result UnavailableCounter CommandFault
unavailable_counter_of bytes = one_number bytes >>= λ number. Ok (record { registration = number })

unfoldable pub unavailable_counter_bytes : UnavailableCounter → List ℕ
unavailable_counter_bytes r = number_bytes 8 r.registration

-- what can be read again
pub record IsUnavailableCounter (r : UnavailableCounter) : Type 0 where
  pub registration : r.registration < 2 ^ 64
