-- What the bytes of a command are read as, and the channel that a command names.
use Rattle.std.specs.Prelude.{Option, Some, None, Result, Ok, Err}
use Rattle.std.specs.declared.boxed.Box.{Box}
use denote.Ref.{Bor}
use Rattle.channel_uri.specs.Channel.{Shape, denotes}
use Rattle.channel_uri.specs.declared.error.UriError.{UriError}
use Rattle.channel_uri.specs.declared.error.UriError.TheVariants.{NoScheme}
use Rattle.command_codec.specs.declared.command.Body.{Body}
use Rattle.command_codec.specs.declared.command.Body.TheVariants.{AddPublication, AddExclusivePublication, AddSubscription, AddDestination, RemoveDestination}
use Rattle.command_codec.specs.declared.command.Command.{Command}
use Rattle.command_codec.specs.declared.fault.CommandFault.{CommandFault}

-- the channel of what is published or subscribed to, or of a destination; what names none has what the empty text denotes
abbrev pub channel_named : Body → Result Shape UriError
channel_named (AddPublication fields) = denotes fields.channel
channel_named (AddExclusivePublication fields) = denotes fields.channel
channel_named (AddSubscription fields) = denotes fields.channel
channel_named (AddDestination fields) = denotes fields.channel
channel_named (RemoveDestination fields) = denotes fields.channel
channel_named other = Err NoScheme

unfoldable pub channel_in : Result Command CommandFault → Result Shape UriError
channel_in (Ok command) = channel_named command.body
channel_in (Err fault) = Err NoScheme

-- the channel of a command that keeps it apart; a command that names none keeps none
abbrev pub channel_kept : {Z : Type 0} → Option (Result (Box Shape Z) UriError) → Result Shape UriError
channel_kept None = Err NoScheme
channel_kept (Some (Ok channel)) = Ok channel.value
channel_kept (Some (Err fault)) = Err fault

-- the channel to which the reference leads
abbrev pub channel_lent : Result (Bor Shape) UriError → Result Shape UriError
channel_lent (Ok channel) = Ok channel.now
channel_lent (Err fault) = Err fault
