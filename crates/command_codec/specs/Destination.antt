-- The fields of ADD_DESTINATION and REMOVE_DESTINATION. (The layout is this project's own.)
use Rattle.std.specs.Prelude.{◌≡◌, ℕ, ◌<◌, ◌^◌, List, ◌++◌, Result, Ok}
use Rattle.command_codec.specs.declared.fault.CommandFault.{CommandFault}
use Rattle.command_codec.specs.declared.destination.Destination.{Destination}
use Rattle.command_codec.specs.Gives.{◌>>=◌}
use Rattle.command_codec.specs.Fields.{number_at, longest, text_at, ended, number_bytes, with_length, IsBytes, IsText}

-- registration of the publication, channel of the destination
unfoldable pub destination_of : List ℕ → Result Destination CommandFault
destination_of bytes = do
  registration ← number_at 8 bytes
  channel ← text_at longest registration.1
  ended (record { registration = registration.0; channel = channel.0 }) channel.1

unfoldable pub destination_bytes : Destination → List ℕ
destination_bytes d = number_bytes 8 d.registration ++ with_length d.channel

-- what can be read again
pub record IsDestination (d : Destination) : Type 0 where
  pub registration : d.registration < 2 ^ 64
  pub channel : IsText longest d.channel

-- what is written is read again, and what was read has one spelling
pub record DestinationsReadBack : Type 0 where
  pub again : (d : Destination) → IsDestination d → destination_of (destination_bytes d) ≡ Ok d
  pub one_spelling : (bytes : List ℕ) (d : Destination) → IsBytes bytes → destination_of bytes ≡ Ok d →
      (bytes ≡ destination_bytes d) × IsDestination d
