-- The fields of ON_PUBLICATION_READY and ON_EXCLUSIVE_PUBLICATION_READY. (The layout is this project's own.)
use Rattle.std.specs.Prelude.{ℕ, ◌<◌, ◌^◌, List, ◌++◌, Result, FitsSigned}
use Rattle.std.specs.Int.{w32}
use Rattle.command_codec.specs.declared.fault.CommandFault.{CommandFault}
use Rattle.command_codec.specs.declared.publication_ready.PublicationReady.{PublicationReady}
use Rattle.command_codec.specs.Gives.{◌>>=◌}
use Rattle.command_codec.specs.Fields.{number_at, signed_at, ended, number_bytes, signed_bytes}

-- correlation id of the command, registration of the publication, session id and stream id of its log
unfoldable pub publication_ready_of : List ℕ → Result PublicationReady CommandFault
publication_ready_of bytes = do
  correlation ← number_at 8 bytes
  registration ← number_at 8 correlation.1
  session ← signed_at w32 4 registration.1
  stream ← signed_at w32 4 session.1
  ended (record { correlation = correlation.0; registration = registration.0; session = session.0; stream = stream.0 }) stream.1

unfoldable pub publication_ready_bytes : PublicationReady → List ℕ
publication_ready_bytes r = number_bytes 8 r.correlation ++ number_bytes 8 r.registration ++ signed_bytes w32 4 r.session ++ signed_bytes w32 4 r.stream

-- what can be read again
pub record IsPublicationReady (r : PublicationReady) : Type 0 where
  pub correlation : r.correlation < 2 ^ 64
  pub registration : r.registration < 2 ^ 64
  pub session : FitsSigned w32 r.session
  pub stream : FitsSigned w32 r.stream
