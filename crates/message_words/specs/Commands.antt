-- The fields of commands among words. Own rules; the fields are those of the commands' layouts.
use Rattle.std.specs.Prelude.{ℕ, List, Result, Ok}
use Rattle.command_codec.specs.AddCounter.{longest_key, longest_label}
use Rattle.command_codec.specs.TerminateDriver.{longest_token}
use Rattle.command_codec.specs.Fields.{longest}
use Rattle.command_codec.specs.declared.add_counter.AddCounter.{AddCounter}
use Rattle.command_codec.specs.declared.add_publication.AddPublication.{AddPublication}
use Rattle.command_codec.specs.declared.add_subscription.AddSubscription.{AddSubscription}
use Rattle.command_codec.specs.declared.command.Body.{Body}
use Rattle.command_codec.specs.declared.command.Body.TheVariants as bodies
use Rattle.command_codec.specs.declared.command.Command.{Command}
use Rattle.command_codec.specs.declared.destination.Destination.{Destination}
use Rattle.command_codec.specs.declared.removal.Removal.{Removal}
use Rattle.command_codec.specs.declared.set_counter.SetCounter.{SetCounter}
use Rattle.command_codec.specs.declared.terminate_driver.TerminateDriver.{TerminateDriver}
use Rattle.message_words.specs.declared.fault.WordFault.{WordFault}
use Rattle.message_words.specs.declared.name.CommandName.{CommandName}
use Rattle.message_words.specs.declared.name.CommandName.TheVariants as commands
use Rattle.message_words.specs.declared.key.Key.TheVariants as keys
use Rattle.message_words.specs.Given.{◌>>=◌}
use Rattle.message_words.specs.Values.{bytes_at, integer_at, long_at, number_at, number_or, text_at}

abbrev pub channel_at : List (List ℕ) → Result (List ℕ) WordFault
channel_at words = text_at longest keys.Channel keys.ChannelHex words

abbrev pub add_publication_in : List (List ℕ) → Result AddPublication WordFault
add_publication_in words = do
  stream ← integer_at keys.Stream words
  channel ← channel_at words
  Ok (record { stream = stream; channel = channel })

abbrev pub removal_in : List (List ℕ) → Result Removal WordFault
removal_in words = number_at keys.Registration words >>= λ registration. Ok (record { registration = registration })

abbrev pub add_subscription_in : List (List ℕ) → Result AddSubscription WordFault
add_subscription_in words = do
  registration ← number_or keys.RegistrationCorrelation 0 words
  stream ← integer_at keys.Stream words
  channel ← channel_at words
  Ok (record { registration_correlation = registration; stream = stream; channel = channel })

abbrev pub destination_in : List (List ℕ) → Result Destination WordFault
destination_in words = do
  registration ← number_at keys.Registration words
  channel ← channel_at words
  Ok (record { registration = registration; channel = channel })

abbrev pub add_counter_in : List (List ℕ) → Result AddCounter WordFault
add_counter_in words = do
  type_id ← integer_at keys.TypeId words
  key ← bytes_at longest_key keys.CounterKey words
  label ← text_at longest_label keys.Label keys.LabelHex words
  Ok (record { type_id = type_id; key = key; label = label })

abbrev pub terminate_driver_in : List (List ℕ) → Result TerminateDriver WordFault
terminate_driver_in words = bytes_at longest_token keys.Token words >>= λ token. Ok (record { token = token })

abbrev pub set_counter_in : List (List ℕ) → Result SetCounter WordFault
set_counter_in words = do
  registration ← number_at keys.Registration words
  value ← long_at keys.Value words
  Ok (record { registration = registration; value = value })

-- what a command asks for
unfoldable pub body_in : CommandName → List (List ℕ) → Result Body WordFault
body_in commands.AddPublication words = add_publication_in words >>= λ fields. Ok (bodies.AddPublication fields)
body_in commands.RemovePublication words = removal_in words >>= λ fields. Ok (bodies.RemovePublication fields)
body_in commands.AddExclusivePublication words = add_publication_in words >>= λ fields. Ok (bodies.AddExclusivePublication fields)
body_in commands.AddSubscription words = add_subscription_in words >>= λ fields. Ok (bodies.AddSubscription fields)
body_in commands.RemoveSubscription words = removal_in words >>= λ fields. Ok (bodies.RemoveSubscription fields)
body_in commands.ClientKeepalive words = Ok bodies.ClientKeepalive
body_in commands.AddDestination words = destination_in words >>= λ fields. Ok (bodies.AddDestination fields)
body_in commands.RemoveDestination words = destination_in words >>= λ fields. Ok (bodies.RemoveDestination fields)
body_in commands.AddCounter words = add_counter_in words >>= λ fields. Ok (bodies.AddCounter fields)
body_in commands.RemoveCounter words = removal_in words >>= λ fields. Ok (bodies.RemoveCounter fields)
body_in commands.ClientClose words = Ok bodies.ClientClose
body_in commands.TerminateDriver words = terminate_driver_in words >>= λ fields. Ok (bodies.TerminateDriver fields)
body_in commands.SetCounter words = set_counter_in words >>= λ fields. Ok (bodies.SetCounter fields)

-- the command of that name whose fields these words give
unfoldable pub command_in : CommandName → List (List ℕ) → Result Command WordFault
command_in name words = do
  client ← number_at keys.Client words
  correlation ← number_at keys.Correlation words
  body ← body_in name words
  Ok (record { client = client; correlation = correlation; body = body })
