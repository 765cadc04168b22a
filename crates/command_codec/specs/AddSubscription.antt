-- The fields of ADD_SUBSCRIPTION. (The layout is this project's own.)
use Rattle.std.specs.Prelude.{ℕ, ◌<◌, ◌^◌, List, ◌++◌, Result, FitsSigned}
use Rattle.std.specs.Int.{w32}
use Rattle.command_codec.specs.declared.fault.CommandFault.{CommandFault}
use Rattle.command_codec.specs.declared.add_subscription.AddSubscription.{AddSubscription}
use Rattle.command_codec.specs.Gives.{◌>>=◌}
use Rattle.command_codec.specs.Fields.{number_at, signed_at, longest, text_at, ended, number_bytes, signed_bytes, with_length, IsText}

-- registration correlation id, stream id, channel
unfoldable pub add_subscription_of : List ℕ → Result AddSubscription CommandFault
add_subscription_of bytes = do
  registration ← number_at 8 bytes
  stream ← signed_at w32 4 registration.1
  channel ← text_at longest stream.1
  ended (record { registration_correlation = registration.0; stream = stream.0; channel = channel.0 }) channel.1

unfoldable pub add_subscription_bytes : AddSubscription → List ℕ
add_subscription_bytes a = number_bytes 8 a.registration_correlation ++ signed_bytes w32 4 a.stream ++ with_length a.channel

-- what can be read again
pub record IsAddSubscription (a : AddSubscription) : Type 0 where
  pub registration_correlation : a.registration_correlation < 2 ^ 64
  pub stream : FitsSigned w32 a.stream
  pub channel : IsText longest a.channel
