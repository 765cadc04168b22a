-- The fields of ADD_PUBLICATION and ADD_EXCLUSIVE_PUBLICATION. (The layout is this project's own.)
use Rattle.std.specs.Prelude.{ℕ, List, ◌++◌, Result, FitsSigned}
use Rattle.std.specs.Int.{w32}
use Rattle.command_codec.specs.declared.fault.CommandFault.{CommandFault}
use Rattle.command_codec.specs.declared.add_publication.AddPublication.{AddPublication}
use Rattle.command_codec.specs.Gives.{◌>>=◌}
use Rattle.command_codec.specs.Fields.{signed_at, longest, text_at, ended, signed_bytes, with_length, IsText}

-- stream id, channel
unfoldable pub add_publication_of : List ℕ → Result AddPublication CommandFault
add_publication_of bytes = do
  stream ← signed_at w32 4 bytes
  channel ← text_at longest stream.1
  ended (record { stream = stream.0; channel = channel.0 }) channel.1

unfoldable pub add_publication_bytes : AddPublication → List ℕ
add_publication_bytes a = signed_bytes w32 4 a.stream ++ with_length a.channel

-- what can be read again
pub record IsAddPublication (a : AddPublication) : Type 0 where
  pub stream : FitsSigned w32 a.stream
  pub channel : IsText longest a.channel
