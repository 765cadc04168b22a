-- The fields of ON_OPERATION_SUCCESS. (The layout is this project's own.)
use Rattle.std.specs.Prelude.{ℕ, ◌<◌, ◌^◌, List, Result, Ok}
use Rattle.command_codec.specs.declared.fault.CommandFault.{CommandFault}
use Rattle.command_codec.specs.declared.operation_success.OperationSuccess.{OperationSuccess}
use Rattle.command_codec.specs.Gives.{◌>>=◌}
use Rattle.command_codec.specs.Fields.{one_number, number_bytes}

-- correlation id of the command
unfoldable pub operation_success_of : List ℕ → Result OperationSuccess CommandFault
operation_success_of bytes = one_number bytes >>= λ number. Ok (record { correlation = number })

unfoldable pub operation_success_bytes : OperationSuccess → List ℕ
operation_success_bytes r = number_bytes 8 r.correlation

-- what can be read again
pub record IsOperationSuccess (r : OperationSuccess) : Type 0 where
  pub correlation : r.correlation < 2 ^ 64
