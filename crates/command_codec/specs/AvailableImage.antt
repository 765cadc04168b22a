-- The fields of ON_AVAILABLE_IMAGE. (The layout is this project's own.)
use Rattle.std.specs.Prelude.{ℕ, ◌<◌, ◌^◌, List, ◌++◌, Result, FitsSigned}
use Rattle.std.specs.Int.{w32}
use Rattle.command_codec.specs.declared.fault.CommandFault.{CommandFault}
use Rattle.command_codec.specs.declared.available_image.AvailableImage.{AvailableImage}
use Rattle.command_codec.specs.Gives.{◌>>=◌}
use Rattle.command_codec.specs.Fields.{number_at, signed_at, longest, text_at, ended, number_bytes, signed_bytes, with_length, IsText}

-- source, registration of the subscription, session id, stream id, position of the join, origin
unfoldable pub available_image_of : List ℕ → Result AvailableImage CommandFault
available_image_of bytes = do
  source ← number_at 8 bytes
  subscription ← number_at 8 source.1
  session ← signed_at w32 4 subscription.1
  stream ← signed_at w32 4 session.1
  position ← number_at 8 stream.1
  origin ← text_at longest position.1
  ended (record { source = source.0; subscription = subscription.0; session = session.0; stream = stream.0; position = position.0; origin = origin.0 }) origin.1

unfoldable pub available_image_bytes : AvailableImage → List ℕ
available_image_bytes r = number_bytes 8 r.source ++ number_bytes 8 r.subscription ++ signed_bytes w32 4 r.session ++ signed_bytes w32 4 r.stream ++ number_bytes 8 r.position ++ with_length r.origin

-- what can be read again
pub record IsAvailableImage (r : AvailableImage) : Type 0 where
  pub source : r.source < 2 ^ 64
  pub subscription : r.subscription < 2 ^ 64
  pub session : FitsSigned w32 r.session
  pub stream : FitsSigned w32 r.stream
  pub position : r.position < 2 ^ 64
  pub origin : IsText longest r.origin
