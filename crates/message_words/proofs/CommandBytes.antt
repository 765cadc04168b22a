-- What is written of a command is bytes, and is read as that command.
use Rattle.std.proofs.Common.{◌≡◌, ℕ, List, length, Ok, refl, arith}
use Rattle.std.specs.Int.{w32, w64, cast_unsigned}
use Rattle.command_codec.specs.declared.command.Body.{Body}
use Rattle.command_codec.specs.declared.command.Body.TheVariants as bodies
use Rattle.command_codec.specs.declared.command.Command.{Command}
use Rattle.command_codec.specs.AddCounter.{add_counter_bytes}
use Rattle.command_codec.specs.AddPublication.{add_publication_bytes}
use Rattle.command_codec.specs.AddSubscription.{add_subscription_bytes}
use Rattle.command_codec.specs.Command.{AreFields, IsCommand, command_bytes, fields_bytes, kind_in, kind_number}
use Rattle.command_codec.specs.Destination.{destination_bytes}
use Rattle.command_codec.specs.Fields.{IsBytes, number_bytes, with_length}
use Rattle.command_codec.specs.Removal.{removal_bytes}
use Rattle.command_codec.specs.SetCounter.{set_counter_bytes}
use Rattle.command_codec.specs.TerminateDriver.{terminate_driver_bytes}
use Rattle.command_codec.proofs.CommandLemmas.{command_again}
use Rattle.message_words.specs.Datagrams.{ended}
use Rattle.message_words.specs.Decoding.{bytes_said, decoded}
use Rattle.message_words.specs.Laws.{HasBytes}
use Rattle.message_words.specs.Message.{body_widths, message_bytes, message_hex}
use Rattle.message_words.specs.Shown.{command_line}
use Rattle.message_words.specs.declared.decoding.Reading.TheVariants as readings
use Rattle.message_words.specs.declared.message.Message.TheVariants as messages
use Rattle.message_words.proofs.CommandsBack.{ascii_bytes}
use Rattle.message_words.proofs.HexBack.{IsBytes-append, IsBytes-low_first, bytes_back}

number_is_bytes : (count number : ℕ) → IsBytes (number_bytes count number)
unfolding number_bytes
number_is_bytes count number = IsBytes-low_first 0 count number

length_is_bytes : (bytes : List ℕ) → IsBytes bytes → IsBytes (with_length bytes)
length_is_bytes bytes fits = IsBytes-append (number_bytes 4 (length bytes)) bytes (number_is_bytes 4 (length bytes)) fits

fields_are_bytes : (body : Body) → AreFields body → HasBytes body → IsBytes (fields_bytes body)
unfolding fields_bytes add_publication_bytes removal_bytes add_subscription_bytes destination_bytes add_counter_bytes terminate_driver_bytes set_counter_bytes
fields_are_bytes (bodies.AddPublication fields) sound fits =
    IsBytes-append _ _ (number_is_bytes 4 (cast_unsigned w32 fields.stream)) (length_is_bytes fields.channel (ascii_bytes fields.channel sound.channel.ascii))
fields_are_bytes (bodies.RemovePublication fields) sound fits = number_is_bytes 8 fields.registration
fields_are_bytes (bodies.AddExclusivePublication fields) sound fits =
    IsBytes-append _ _ (number_is_bytes 4 (cast_unsigned w32 fields.stream)) (length_is_bytes fields.channel (ascii_bytes fields.channel sound.channel.ascii))
fields_are_bytes (bodies.AddSubscription fields) sound fits =
    IsBytes-append _ _ (IsBytes-append _ _ (number_is_bytes 8 fields.registration_correlation) (number_is_bytes 4 (cast_unsigned w32 fields.stream)))
    (length_is_bytes fields.channel (ascii_bytes fields.channel sound.channel.ascii))
fields_are_bytes (bodies.RemoveSubscription fields) sound fits = number_is_bytes 8 fields.registration
fields_are_bytes bodies.ClientKeepalive sound fits = λ at. omega arith
fields_are_bytes (bodies.AddDestination fields) sound fits =
    IsBytes-append _ _ (number_is_bytes 8 fields.registration) (length_is_bytes fields.channel (ascii_bytes fields.channel sound.channel.ascii))
fields_are_bytes (bodies.RemoveDestination fields) sound fits =
    IsBytes-append _ _ (number_is_bytes 8 fields.registration) (length_is_bytes fields.channel (ascii_bytes fields.channel sound.channel.ascii))
fields_are_bytes (bodies.AddCounter fields) sound fits =
    IsBytes-append _ _ (IsBytes-append _ _ (number_is_bytes 4 (cast_unsigned w32 fields.type_id)) (length_is_bytes fields.key fits))
    (length_is_bytes fields.label (ascii_bytes fields.label sound.label.ascii))
fields_are_bytes (bodies.RemoveCounter fields) sound fits = number_is_bytes 8 fields.registration
fields_are_bytes bodies.ClientClose sound fits = λ at. omega arith
fields_are_bytes (bodies.TerminateDriver fields) sound fits = length_is_bytes fields.token fits
fields_are_bytes (bodies.SetCounter fields) sound fits =
    IsBytes-append _ _ (number_is_bytes 8 fields.registration) (number_is_bytes 8 (cast_unsigned w64 fields.value))

command_is_bytes : (command : Command) → IsCommand command → HasBytes command.body → IsBytes (command_bytes command)
unfolding command_bytes
command_is_bytes command sound fits =
    IsBytes-append _ _ (IsBytes-append _ _ (IsBytes-append _ _ (number_is_bytes 4 (kind_number (kind_in command.body)))
    (number_is_bytes 8 command.client)) (number_is_bytes 8 command.correlation)) (fields_are_bytes command.body sound.body fits)

pub command_decoded : (command : Command) → IsCommand command → HasBytes command.body
    → decoded readings.Command (message_hex (messages.Command command)) ≡ Ok (ended (command_line command))
unfolding message_hex message_bytes bytes_said
command_decoded command sound fits =
    rw (bytes_back (body_widths command.body) (command_bytes command) (command_is_bytes command sound fits), command_again command sound) refl
