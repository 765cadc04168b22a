-- The fields of ON_ERROR. (The layout is this project's own.)
use Rattle.std.specs.Prelude.{ℕ, ◌<◌, ◌^◌, List, ◌++◌, ok_or, Result}
use Rattle.std.specs.Int.{w32}
use Rattle.command_codec.specs.declared.fault.CommandFault.{CommandFault}
use Rattle.command_codec.specs.declared.fault.CommandFault.TheVariants.{Malformed}
use Rattle.command_codec.specs.declared.error_reply.ErrorReply.{ErrorReply}
use Rattle.command_codec.specs.Gives.{◌>>=◌}
use Rattle.command_codec.specs.Fields.{number_at, signed_at, longest, text_at, ended, number_bytes, signed_bytes, with_length, IsText}
use Rattle.command_codec.specs.ErrorCode.{code_of, code_number}

-- correlation id of the refused command, code (by its number, which has to be one's), text
unfoldable pub error_of : List ℕ → Result ErrorReply CommandFault
error_of bytes = do
  correlation ← number_at 8 bytes
  number ← signed_at w32 4 correlation.1
  code ← ok_or (code_of number.0) Malformed
  text ← text_at longest number.1
  ended (record { correlation = correlation.0; code = code; text = text.0 }) text.1

unfoldable pub error_bytes : ErrorReply → List ℕ
error_bytes e = number_bytes 8 e.correlation ++ signed_bytes w32 4 (code_number e.code) ++ with_length e.text

-- what can be read again
pub record IsErrorReply (e : ErrorReply) : Type 0 where
  pub correlation : e.correlation < 2 ^ 64
  pub text : IsText longest e.text
