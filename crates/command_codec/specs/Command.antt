-- Commands as bytes: type, client id, correlation id, then the fields of the type, and nothing after them.
-- (Layouts and type numbers are this project's own.)
use Rattle.std.specs.Prelude.{ℕ, ◌<◌, ◌^◌, ◌==◌, nat_lt, if◌then◌else◌, Bool, true, false, List, [], ◌∷◌, ◌++◌, length, drop, find, ok_or, Result, Ok, Err}
use Rattle.command_codec.specs.declared.fault.CommandFault.{CommandFault}
use Rattle.command_codec.specs.declared.fault.CommandFault.TheVariants.{Unknown}
use Rattle.command_codec.specs.declared.command.Command.{Command}
use Rattle.command_codec.specs.declared.command.Body.{Body}
use Rattle.command_codec.specs.declared.command.Body.TheVariants as bodies
use Rattle.command_codec.specs.declared.command.Kind.{Kind}
use Rattle.command_codec.specs.declared.command.Kind.TheVariants as kinds
use Rattle.command_codec.specs.Gives.{◌>>=◌}
use Rattle.command_codec.specs.Fields.{number_in, number_at, ended, number_bytes}
use Rattle.command_codec.specs.AddPublication.{add_publication_of, add_publication_bytes, IsAddPublication}
use Rattle.command_codec.specs.AddSubscription.{add_subscription_of, add_subscription_bytes, IsAddSubscription}
use Rattle.command_codec.specs.Removal.{removal_of, removal_bytes, IsRemoval}
use Rattle.command_codec.specs.Destination.{destination_of, destination_bytes, IsDestination}
use Rattle.command_codec.specs.AddCounter.{add_counter_of, add_counter_bytes, IsAddCounter}
use Rattle.command_codec.specs.TerminateDriver.{terminate_driver_of, terminate_driver_bytes, IsTerminateDriver}
use Rattle.command_codec.specs.SetCounter.{set_counter_of, set_counter_bytes, IsSetCounter}

-- ---- the kinds of commands, a line each

abbrev pub all_kinds : List Kind
all_kinds =
    kinds.AddPublication ∷ kinds.RemovePublication ∷ kinds.AddExclusivePublication ∷ kinds.AddSubscription
    ∷ kinds.RemoveSubscription ∷ kinds.ClientKeepalive ∷ kinds.AddDestination ∷ kinds.RemoveDestination ∷ kinds.AddCounter
    ∷ kinds.RemoveCounter ∷ kinds.ClientClose ∷ kinds.TerminateDriver ∷ kinds.SetCounter ∷ []

-- the number of a kind
unfoldable pub kind_number : Kind → ℕ
kind_number kinds.AddPublication = 1
kind_number kinds.RemovePublication = 2
kind_number kinds.AddExclusivePublication = 3
kind_number kinds.AddSubscription = 4
kind_number kinds.RemoveSubscription = 5
kind_number kinds.ClientKeepalive = 6
kind_number kinds.AddDestination = 7
kind_number kinds.RemoveDestination = 8
kind_number kinds.AddCounter = 9
kind_number kinds.RemoveCounter = 0x0A
kind_number kinds.ClientClose = 0x0B
kind_number kinds.TerminateDriver = 0x0E
kind_number kinds.SetCounter = 0x1001

-- the kind that has this number
unfoldable pub kind_of : ℕ → Result Kind CommandFault
kind_of number = ok_or (find (λ kind. number == kind_number kind) all_kinds) Unknown

-- the kind of a command, by what it asks for
abbrev pub kind_in : Body → Kind
kind_in (bodies.AddPublication fields) = kinds.AddPublication
kind_in (bodies.RemovePublication fields) = kinds.RemovePublication
kind_in (bodies.AddExclusivePublication fields) = kinds.AddExclusivePublication
kind_in (bodies.AddSubscription fields) = kinds.AddSubscription
kind_in (bodies.RemoveSubscription fields) = kinds.RemoveSubscription
kind_in bodies.ClientKeepalive = kinds.ClientKeepalive
kind_in (bodies.AddDestination fields) = kinds.AddDestination
kind_in (bodies.RemoveDestination fields) = kinds.RemoveDestination
kind_in (bodies.AddCounter fields) = kinds.AddCounter
kind_in (bodies.RemoveCounter fields) = kinds.RemoveCounter
kind_in bodies.ClientClose = kinds.ClientClose
kind_in (bodies.TerminateDriver fields) = kinds.TerminateDriver
kind_in (bodies.SetCounter fields) = kinds.SetCounter

-- what the bytes after a command's head ask for
unfoldable pub fields_of : Kind → List ℕ → Result Body CommandFault
fields_of kinds.AddPublication bytes = add_publication_of bytes >>= λ fields. Ok (bodies.AddPublication fields)
fields_of kinds.RemovePublication bytes = removal_of bytes >>= λ fields. Ok (bodies.RemovePublication fields)
fields_of kinds.AddExclusivePublication bytes = add_publication_of bytes >>= λ fields. Ok (bodies.AddExclusivePublication fields)
fields_of kinds.AddSubscription bytes = add_subscription_of bytes >>= λ fields. Ok (bodies.AddSubscription fields)
fields_of kinds.RemoveSubscription bytes = removal_of bytes >>= λ fields. Ok (bodies.RemoveSubscription fields)
fields_of kinds.ClientKeepalive bytes = ended bodies.ClientKeepalive bytes
fields_of kinds.AddDestination bytes = destination_of bytes >>= λ fields. Ok (bodies.AddDestination fields)
fields_of kinds.RemoveDestination bytes = destination_of bytes >>= λ fields. Ok (bodies.RemoveDestination fields)
fields_of kinds.AddCounter bytes = add_counter_of bytes >>= λ fields. Ok (bodies.AddCounter fields)
fields_of kinds.RemoveCounter bytes = removal_of bytes >>= λ fields. Ok (bodies.RemoveCounter fields)
fields_of kinds.ClientClose bytes = ended bodies.ClientClose bytes
fields_of kinds.TerminateDriver bytes = terminate_driver_of bytes >>= λ fields. Ok (bodies.TerminateDriver fields)
fields_of kinds.SetCounter bytes = set_counter_of bytes >>= λ fields. Ok (bodies.SetCounter fields)

unfoldable pub fields_bytes : Body → List ℕ
fields_bytes (bodies.AddPublication fields) = add_publication_bytes fields
fields_bytes (bodies.RemovePublication fields) = removal_bytes fields
fields_bytes (bodies.AddExclusivePublication fields) = add_publication_bytes fields
fields_bytes (bodies.AddSubscription fields) = add_subscription_bytes fields
fields_bytes (bodies.RemoveSubscription fields) = removal_bytes fields
fields_bytes bodies.ClientKeepalive = []
fields_bytes (bodies.AddDestination fields) = destination_bytes fields
fields_bytes (bodies.RemoveDestination fields) = destination_bytes fields
fields_bytes (bodies.AddCounter fields) = add_counter_bytes fields
fields_bytes (bodies.RemoveCounter fields) = removal_bytes fields
fields_bytes bodies.ClientClose = []
fields_bytes (bodies.TerminateDriver fields) = terminate_driver_bytes fields
fields_bytes (bodies.SetCounter fields) = set_counter_bytes fields

-- what can be read again
abbrev pub AreFields : Body → Type 0
AreFields (bodies.AddPublication fields) = IsAddPublication fields
AreFields (bodies.RemovePublication fields) = IsRemoval fields
AreFields (bodies.AddExclusivePublication fields) = IsAddPublication fields
AreFields (bodies.AddSubscription fields) = IsAddSubscription fields
AreFields (bodies.RemoveSubscription fields) = IsRemoval fields
AreFields bodies.ClientKeepalive = Unit {0}
AreFields (bodies.AddDestination fields) = IsDestination fields
AreFields (bodies.RemoveDestination fields) = IsDestination fields
AreFields (bodies.AddCounter fields) = IsAddCounter fields
AreFields (bodies.RemoveCounter fields) = IsRemoval fields
AreFields bodies.ClientClose = Unit {0}
AreFields (bodies.TerminateDriver fields) = IsTerminateDriver fields
AreFields (bodies.SetCounter fields) = IsSetCounter fields

-- whether a command's fields have a text that takes memory
abbrev pub has_bytes : Body → Bool
has_bytes (bodies.AddPublication fields) = true
has_bytes (bodies.RemovePublication fields) = false
has_bytes (bodies.AddExclusivePublication fields) = true
has_bytes (bodies.AddSubscription fields) = true
has_bytes (bodies.RemoveSubscription fields) = false
has_bytes bodies.ClientKeepalive = false
has_bytes (bodies.AddDestination fields) = true
has_bytes (bodies.RemoveDestination fields) = true
has_bytes (bodies.AddCounter fields) = false
has_bytes (bodies.RemoveCounter fields) = false
has_bytes bodies.ClientClose = false
has_bytes (bodies.TerminateDriver fields) = true
has_bytes (bodies.SetCounter fields) = false

-- ---- commands

-- The type is looked at first: whatever follows a type that is not known, the command is unknown.
unfoldable pub command_of : List ℕ → Result Command CommandFault
command_of bytes = do
  number ← number_at 4 bytes
  kind ← kind_of number.0
  client ← number_at 8 number.1
  correlation ← number_at 8 client.1
  body ← fields_of kind correlation.1
  Ok (record { client = client.0; correlation = correlation.0; body = body })

unfoldable pub command_bytes : Command → List ℕ
command_bytes c = number_bytes 4 (kind_number (kind_in c.body)) ++ number_bytes 8 c.client ++ number_bytes 8 c.correlation ++ fields_bytes c.body

-- the correlation id that an error names, whether the bytes are a command or not
unfoldable pub correlation_of : List ℕ → ℕ
correlation_of bytes = if nat_lt (length bytes) 20 then 0 else number_in 8 (drop 12 bytes)

-- what can be read again: each number fits its field, a text is ASCII, and no text or byte string is longer than its
-- field allows
pub record IsCommand (c : Command) : Type 0 where
  pub client : c.client < 2 ^ 64
  pub correlation : c.correlation < 2 ^ 64
  pub body : AreFields c.body
