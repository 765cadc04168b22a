-- What bytes are that came to be handed on as a command. Own rules.
use Rattle.std.specs.Prelude.{ℕ, Bool, true, false, List, Option, Some, None, Result, Ok, Err}
use Rattle.command_codec.specs.Command.{command_of, correlation_of}
use Rattle.command_codec.specs.declared.command.Body.{Body}
use Rattle.command_codec.specs.declared.command.Body.TheVariants as bodies
use Rattle.command_codec.specs.declared.command.Command.{Command}
use Rattle.command_codec.specs.declared.fault.CommandFault.{CommandFault}
use Rattle.served_clients.specs.declared.given.Given.{Given}

-- what a command asks for; bytes that are none ask for nothing
abbrev pub body_in : Result Command CommandFault → Option Body
body_in (Ok command) = Some command.body
body_in (Err fault) = None

abbrev pub given_of : List ℕ → Given
given_of bytes = record { correlation = correlation_of bytes; body = body_in (command_of bytes) }

abbrev pub subscribes_in : Option Body → Bool
subscribes_in (Some (bodies.AddSubscription add)) = true
subscribes_in other = false

-- it asks to subscribe
abbrev pub is_subscribing : Given → Bool
is_subscribing given = subscribes_in given.body
