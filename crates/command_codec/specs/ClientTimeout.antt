-- The fields of ON_CLIENT_TIMEOUT. (The layout is this project's own.)
use Rattle.std.specs.Prelude.{ℕ, ◌<◌, ◌^◌, List, Result, Ok}
use Rattle.command_codec.specs.declared.fault.CommandFault.{CommandFault}
use Rattle.command_codec.specs.declared.client_timeout.ClientTimeout.{ClientTimeout}
use Rattle.command_codec.specs.Gives.{◌>>=◌}
use Rattle.command_codec.specs.Fields.{one_number, number_bytes}

-- id of the client that went
unfoldable pub client_timeout_of : List ℕ → Result ClientTimeout CommandFault
client_timeout_of bytes = one_number bytes >>= λ number. Ok (record { client = number })

unfoldable pub client_timeout_bytes : ClientTimeout → List ℕ
client_timeout_bytes r = number_bytes 8 r.client

-- what can be read again
pub record IsClientTimeout (r : ClientTimeout) : Type 0 where
  pub client : r.client < 2 ^ 64
