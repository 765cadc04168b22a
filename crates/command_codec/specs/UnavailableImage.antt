-- The fields of ON_UNAVAILABLE_IMAGE. (The layout is this project's own.)
use Rattle.std.specs.Prelude.{ℕ, ◌<◌, ◌^◌, List, ◌++◌, Result, FitsSigned}
use Rattle.std.specs.Int.{w32}
use Rattle.command_codec.specs.declared.fault.CommandFault.{CommandFault}
use Rattle.command_codec.specs.declared.unavailable_image.UnavailableImage.{UnavailableImage}
use Rattle.command_codec.specs.Gives.{◌>>=◌}
use Rattle.command_codec.specs.Fields.{number_at, signed_at, ended, number_bytes, signed_bytes}

-- source, registration of the subscription, stream id
unfoldable pub unavailable_image_of : List ℕ → Result UnavailableImage CommandFault
unavailable_image_of bytes = do
  source ← number_at 8 bytes
  subscription ← number_at 8 source.1
  stream ← signed_at w32 4 subscription.1
  ended (record { source = source.0; subscription = subscription.0; stream = stream.0 }) stream.1

unfoldable pub unavailable_image_bytes : UnavailableImage → List ℕ
unavailable_image_bytes r = number_bytes 8 r.source ++ number_bytes 8 r.subscription ++ signed_bytes w32 4 r.stream

-- what can be read again
pub record IsUnavailableImage (r : UnavailableImage) : Type 0 where
  pub source : r.source < 2 ^ 64
  pub subscription : r.subscription < 2 ^ 64
  pub stream : FitsSigned w32 r.stream
