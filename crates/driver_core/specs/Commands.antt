-- The bytes of a command come over a client's handle.
use Rattle.std.specs.Prelude.{ℕ, ◌==◌, Bool, true, false, List, [], Option, Some, None, Result, Ok, Err, if◌then◌else◌}
use Rattle.driver_core.specs.Draft.{Draft}
use Rattle.driver_core.specs.declared.rules.asking.Asking.{Asking}
use Rattle.driver_core.specs.declared.state.refusal.Refusal.{Refusal}
use Rattle.driver_core.specs.declared.state.refusal.Refusal.TheVariants.{UnknownCommandType, MalformedCommand, WrongClient}
use Rattle.driver_core.specs.Draft.{refused}
use Rattle.driver_core.specs.Closing.{keep_alive, close}
use Rattle.driver_core.specs.Counting.{add_counter, set_counter, remove_counter}
use Rattle.driver_core.specs.Directing.{add_destination, remove_destination}
use Rattle.driver_core.specs.Publishing.{add_publication}
use Rattle.driver_core.specs.State.{State, at_moment}
use Rattle.driver_core.specs.Subscribing.{add_subscription}
use Rattle.driver_core.specs.Terminating.{terminate}
use Rattle.driver_core.specs.Unpublishing.{remove_publication}
use Rattle.driver_core.specs.Unsubscribing.{remove_subscription}
use Rattle.client_registry.specs.declared.client.Client.{Client}
use Rattle.client_registry.specs.Clients.{client_at, touched}
use Rattle.command_codec.specs.declared.command.Command.{Command}
use Rattle.command_codec.specs.declared.command.Body.{Body}
use Rattle.command_codec.specs.declared.command.Body.TheVariants.{AddPublication, AddExclusivePublication, RemovePublication, AddSubscription, RemoveSubscription, ClientKeepalive, AddDestination, RemoveDestination, AddCounter, RemoveCounter, ClientClose, TerminateDriver, SetCounter}
use Rattle.command_codec.specs.declared.fault.CommandFault.{CommandFault}
use Rattle.command_codec.specs.declared.fault.CommandFault.TheVariants.{Unknown}
use Rattle.command_codec.specs.Command.{command_of, correlation_of}

-- the client of this id was heard of now
unfoldable pub heard : State → ℕ → State
heard s number = record s { clients = touched s.clients number s.moment }

-- the registry at which the command of a client that is there is decided
abbrev pub at_request : State → ℕ → ℕ → State
at_request s now handle = heard (at_moment s now) handle

-- so for a command that is asked
abbrev pub at_asking : State → Asking → State
at_asking s asking = at_request s asking.now asking.handle

-- commands that change no pair, whatever is decided on them
abbrev pub keeps_pairs : Body → Bool
keeps_pairs (RemovePublication fields) = true
keeps_pairs ClientKeepalive = true
keeps_pairs (AddDestination fields) = true
keeps_pairs (RemoveDestination fields) = true
keeps_pairs (AddCounter fields) = true
keeps_pairs (RemoveCounter fields) = true
keeps_pairs (SetCounter fields) = true
keeps_pairs other = false

-- what is asked for by a client that is there
abbrev pub body_change : State → Client → ℕ → Body → Draft
body_change s client correlation (AddPublication fields) = add_publication s client correlation fields false
body_change s client correlation (RemovePublication fields) = remove_publication s client correlation fields
body_change s client correlation (AddExclusivePublication fields) = add_publication s client correlation fields true
body_change s client correlation (AddSubscription fields) = add_subscription s client correlation fields
body_change s client correlation (RemoveSubscription fields) = remove_subscription s client correlation fields
body_change s client correlation ClientKeepalive = keep_alive s
body_change s client correlation (AddDestination fields) = add_destination s client correlation fields
body_change s client correlation (RemoveDestination fields) = remove_destination s client correlation fields
body_change s client correlation (AddCounter fields) = add_counter s client correlation fields
body_change s client correlation (RemoveCounter fields) = remove_counter s client correlation fields
body_change s client correlation ClientClose = close s client correlation
body_change s client correlation (TerminateDriver fields) = terminate s client correlation
body_change s client correlation (SetCounter fields) = set_counter s client correlation fields

unfoldable pub requested : State → Client → Command → Draft
requested s client command = body_change s client command.correlation command.body

-- the handle's own client has to be named, and be there; then it was heard of
abbrev pub asked_by : State → ℕ → Command → Option Client → Draft
asked_by s handle command None = refused s [] handle command.correlation WrongClient
asked_by s handle command (Some client) = requested (heard s handle) client command

unfoldable pub asked : State → ℕ → Command → Draft
asked s handle command =
    if command.client == handle
    then asked_by s handle command (client_at s.clients.rows handle)
    else refused s [] handle command.correlation WrongClient

-- the refusal of bytes that are no command
abbrev pub refusal_for : CommandFault → Refusal
refusal_for Unknown = UnknownCommandType
refusal_for other = MalformedCommand

abbrev pub command_from : State → ℕ → List ℕ → Result Command CommandFault → Draft
command_from s handle bytes (Ok command) = asked s handle command
command_from s handle bytes (Err fault) = refused s [] handle (correlation_of bytes) (refusal_for fault)

unfoldable pub command : State → ℕ → List ℕ → Draft
command s handle bytes = command_from s handle bytes (command_of bytes)
