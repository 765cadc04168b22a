-- The fields of SET_COUNTER. (The command and its layout are this project's own.)
use Rattle.std.specs.Prelude.{ℕ, ◌<◌, ◌^◌, List, ◌++◌, Result, FitsSigned}
use Rattle.std.specs.Int.{w64}
use Rattle.command_codec.specs.declared.fault.CommandFault.{CommandFault}
use Rattle.command_codec.specs.declared.set_counter.SetCounter.{SetCounter}
use Rattle.command_codec.specs.Gives.{◌>>=◌}
use Rattle.command_codec.specs.Fields.{number_at, signed_at, ended, number_bytes, signed_bytes}

-- registration of the counter, its new value
unfoldable pub set_counter_of : List ℕ → Result SetCounter CommandFault
set_counter_of bytes = do
  registration ← number_at 8 bytes
  value ← signed_at w64 8 registration.1
  ended (record { registration = registration.0; value = value.0 }) value.1

unfoldable pub set_counter_bytes : SetCounter → List ℕ
set_counter_bytes s = number_bytes 8 s.registration ++ signed_bytes w64 8 s.value

-- what can be read again
pub record IsSetCounter (s : SetCounter) : Type 0 where
  pub registration : s.registration < 2 ^ 64
  pub value : FitsSigned w64 s.value
