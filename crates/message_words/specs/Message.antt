-- Words as a command or a datagram, and its bytes in hexadecimal. Own rules.
use Rattle.std.specs.Prelude.{ℕ, ◌+◌, List, [], ◌∷◌, Option, Some, None, Result, Ok, Err, length}
use Rattle.command_codec.specs.Command.{command_bytes}
use Rattle.command_codec.specs.declared.command.Body.{Body}
use Rattle.command_codec.specs.declared.command.Body.TheVariants as bodies
use Rattle.message_words.specs.Commands.{command_in}
use Rattle.message_words.specs.Frames.{sending_bytes, sending_in}
use Rattle.message_words.specs.Given.{unknown_at, ◌>>=◌}
use Rattle.message_words.specs.Hex.{grouped}
use Rattle.message_words.specs.Name.{keys_of, name_of}
use Rattle.message_words.specs.declared.fault.WordFault.{WordFault}
use Rattle.message_words.specs.declared.fault.WordFault.TheVariants.{NoName, UnknownName, UnknownWord}
use Rattle.message_words.specs.declared.frames.Sending.{Sending}
use Rattle.message_words.specs.declared.frames.Sending.TheVariants as sendings
use Rattle.message_words.specs.declared.message.Message.{Message}
use Rattle.message_words.specs.declared.message.Message.TheVariants as messages
use Rattle.message_words.specs.declared.name.Name.{Name}
use Rattle.message_words.specs.declared.name.Name.TheVariants as names

-- ---- what words denote

abbrev pub message_as : Name → List (List ℕ) → Result Message WordFault
message_as (names.Command name) words = command_in name words >>= λ command. Ok (messages.Command command)
message_as (names.Frame name) words = sending_in name words >>= λ sending. Ok (messages.Datagram sending)

-- where each word gives a value to a key of that name; words are counted from 1
abbrev pub message_with : Name → List (List ℕ) → Option ℕ → Result Message WordFault
message_with name words None = message_as name words
message_with name words (Some at) = Err (UnknownWord (at + 1))

abbrev pub message_named : Option Name → List (List ℕ) → Result Message WordFault
message_named None words = Err UnknownName
message_named (Some name) words = message_with name words (unknown_at (keys_of name) words)

-- a name, and then a value for each key, in any order
unfoldable pub message_of : List (List ℕ) → Result Message WordFault
message_of [] = Err NoName
message_of (name ∷ words) = message_named (name_of name) words

-- ---- its bytes

unfoldable pub message_bytes : Message → List ℕ
message_bytes (messages.Command command) = command_bytes command
message_bytes (messages.Datagram sending) = sending_bytes sending

-- how many bytes the fields have after the first: client and correlation id, then those of the command
abbrev pub body_widths : Body → List ℕ
body_widths (bodies.AddPublication fields) = 8 ∷ 8 ∷ 4 ∷ 4 ∷ []
body_widths (bodies.RemovePublication fields) = 8 ∷ 8 ∷ 8 ∷ []
body_widths (bodies.AddExclusivePublication fields) = 8 ∷ 8 ∷ 4 ∷ 4 ∷ []
body_widths (bodies.AddSubscription fields) = 8 ∷ 8 ∷ 8 ∷ 4 ∷ 4 ∷ []
body_widths (bodies.RemoveSubscription fields) = 8 ∷ 8 ∷ 8 ∷ []
body_widths bodies.ClientKeepalive = 8 ∷ 8 ∷ []
body_widths (bodies.AddDestination fields) = 8 ∷ 8 ∷ 8 ∷ 4 ∷ []
body_widths (bodies.RemoveDestination fields) = 8 ∷ 8 ∷ 8 ∷ 4 ∷ []
body_widths (bodies.AddCounter fields) = 8 ∷ 8 ∷ 4 ∷ 4 ∷ length fields.key ∷ 4 ∷ []
body_widths (bodies.RemoveCounter fields) = 8 ∷ 8 ∷ 8 ∷ []
body_widths bodies.ClientClose = 8 ∷ 8 ∷ []
body_widths (bodies.TerminateDriver fields) = 8 ∷ 8 ∷ 4 ∷ []
body_widths (bodies.SetCounter fields) = 8 ∷ 8 ∷ 8 ∷ []

-- of frames: the length is the first field; version, flags and type are the second
abbrev pub sending_widths : Sending → List ℕ
sending_widths (sendings.Data fields) = 4 ∷ 4 ∷ 4 ∷ 4 ∷ 4 ∷ 8 ∷ length fields.payload ∷ []
sending_widths (sendings.Pad fields) = 4 ∷ 4 ∷ 4 ∷ 4 ∷ 4 ∷ []
sending_widths (sendings.Heartbeat fields) = 4 ∷ 4 ∷ 4 ∷ 4 ∷ 4 ∷ []
sending_widths (sendings.Nak fields) = 4 ∷ 4 ∷ 4 ∷ 4 ∷ 4 ∷ []
sending_widths (sendings.StatusMessage fields) = 4 ∷ 4 ∷ 4 ∷ 4 ∷ 4 ∷ 4 ∷ []
sending_widths (sendings.Setup fields) = 4 ∷ 4 ∷ 4 ∷ 4 ∷ 4 ∷ 4 ∷ 4 ∷ 4 ∷ []

abbrev pub message_widths : Message → List ℕ
message_widths (messages.Command command) = body_widths command.body
message_widths (messages.Datagram sending) = sending_widths sending

-- the hexadecimal of a command or a datagram, as scripts take it
unfoldable pub message_hex : Message → List ℕ
message_hex message = grouped (message_widths message) (message_bytes message)

-- what `encode` gives for words
abbrev pub encoded : List (List ℕ) → Result (List ℕ) WordFault
encoded words = message_of words >>= λ message. Ok (message_hex message)
