-- The fields of ON_COUNTER_READY. (The layout is this project's own.)
use Rattle.std.specs.Prelude.{ℕ, ◌<◌, ◌^◌, List, ◌++◌, Result, Ok}
use Rattle.command_codec.specs.declared.fault.CommandFault.{CommandFault}
use Rattle.command_codec.specs.declared.counter_ready.CounterReady.{CounterReady}
use Rattle.command_codec.specs.Gives.{◌>>=◌}
use Rattle.command_codec.specs.Fields.{two_numbers, number_bytes}

-- correlation id of the command, registration of the counter
unfoldable pub counter_ready_of : List ℕ → Result CounterReady CommandFault
counter_ready_of bytes = two_numbers bytes >>= λ numbers. Ok (record { correlation = numbers.0; registration = numbers.1 })

unfoldable pub counter_ready_bytes : CounterReady → List ℕ
counter_ready_bytes r = number_bytes 8 r.correlation ++ number_bytes 8 r.registration

-- what can be read again
pub record IsCounterReady (r : CounterReady) : Type 0 where
  pub correlation : r.correlation < 2 ^ 64
  pub registration : r.registration < 2 ^ 64
