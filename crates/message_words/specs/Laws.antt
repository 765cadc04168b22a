-- What holds of all messages in words. Own rules.
use Rattle.std.specs.Prelude.{◌≡◌, ℕ, ◌<◌, List, ◌++◌, Ok}
use Rattle.command_codec.specs.Command.{IsCommand}
use Rattle.command_codec.specs.declared.command.Body.{Body}
use Rattle.command_codec.specs.declared.command.Body.TheVariants as bodies
use Rattle.command_codec.specs.Fields.{IsBytes}
use Rattle.frame_codec.specs.Written.{IsNak, IsPlace, IsSetup, IsStatusMessage, IsWritten, padding, part}
use Rattle.message_words.specs.Datagrams.{beat_rest, data_rest, ended, nak_place, nak_rest, pad_rest, place_fields, setup_place, setup_rest, status_place, status_rest}
use Rattle.message_words.specs.Decoding.{decoded}
use Rattle.message_words.specs.Message.{message_hex, message_of}
use Rattle.message_words.specs.Name.{name_text}
use Rattle.message_words.specs.Shown.{Field, body_name, command_fields, line_of, words_of}
use Rattle.message_words.specs.declared.decoding.Reading.{Reading}
use Rattle.message_words.specs.declared.decoding.Reading.TheVariants as readings
use Rattle.message_words.specs.declared.frames.Sending.{Sending}
use Rattle.message_words.specs.declared.frames.Sending.TheVariants as sendings
use Rattle.message_words.specs.declared.message.Message.{Message}
use Rattle.message_words.specs.declared.message.Message.TheVariants as messages
use Rattle.message_words.specs.declared.name.FrameName.{FrameName}
use Rattle.message_words.specs.declared.name.FrameName.TheVariants as frames
use Rattle.message_words.specs.declared.name.Name.{Name}
use Rattle.message_words.specs.declared.name.Name.TheVariants as every

-- the byte strings of a command, a counter's key and a token, are of bytes
abbrev pub HasBytes : Body → Type 0
HasBytes (bodies.AddPublication fields) = Unit {0}
HasBytes (bodies.RemovePublication fields) = Unit {0}
HasBytes (bodies.AddExclusivePublication fields) = Unit {0}
HasBytes (bodies.AddSubscription fields) = Unit {0}
HasBytes (bodies.RemoveSubscription fields) = Unit {0}
HasBytes bodies.ClientKeepalive = Unit {0}
HasBytes (bodies.AddDestination fields) = Unit {0}
HasBytes (bodies.RemoveDestination fields) = Unit {0}
HasBytes (bodies.AddCounter fields) = IsBytes fields.key
HasBytes (bodies.RemoveCounter fields) = Unit {0}
HasBytes bodies.ClientClose = Unit {0}
HasBytes (bodies.TerminateDriver fields) = IsBytes fields.token
HasBytes (bodies.SetCounter fields) = Unit {0}

-- what can be written and is then read again
abbrev pub IsSending : Sending → Type 0
IsSending (sendings.Data fields) = (fields.flags.bits < 256) × IsWritten (part fields.flags fields.place fields.payload) × IsBytes fields.payload
IsSending (sendings.Pad fields) = (fields.flags.bits < 256) × IsWritten (padding fields.flags fields.place fields.size)
IsSending (sendings.Heartbeat fields) = (fields.flags.bits < 256) × IsPlace fields.place
IsSending (sendings.Nak fields) = IsNak fields
IsSending (sendings.StatusMessage fields) = IsStatusMessage fields
IsSending (sendings.Setup fields) = IsSetup fields

abbrev pub IsMessage : Message → Type 0
IsMessage (messages.Command command) = IsCommand command × HasBytes command.body
IsMessage (messages.Datagram sending) = IsSending sending

-- ---- the words and the line of a message

abbrev pub sending_name : Sending → FrameName
sending_name (sendings.Data fields) = frames.Data
sending_name (sendings.Pad fields) = frames.Pad
sending_name (sendings.Heartbeat fields) = frames.Heartbeat
sending_name (sendings.Nak fields) = frames.Nak
sending_name (sendings.StatusMessage fields) = frames.StatusMessage
sending_name (sendings.Setup fields) = frames.Setup

abbrev pub sending_fields : Sending → List Field
sending_fields (sendings.Data fields) = place_fields fields.place ++ data_rest fields.flags fields.payload
sending_fields (sendings.Pad fields) = place_fields fields.place ++ pad_rest fields.flags fields.size
sending_fields (sendings.Heartbeat fields) = place_fields fields.place ++ beat_rest fields.flags
sending_fields (sendings.Nak fields) = place_fields (nak_place fields) ++ nak_rest fields
sending_fields (sendings.StatusMessage fields) = place_fields (status_place fields) ++ status_rest fields
sending_fields (sendings.Setup fields) = place_fields (setup_place fields) ++ setup_rest fields

abbrev pub message_name : Message → Name
message_name (messages.Command command) = every.Command (body_name command.body)
message_name (messages.Datagram sending) = every.Frame (sending_name sending)

abbrev pub message_fields : Message → List Field
message_fields (messages.Command command) = command_fields command
message_fields (messages.Datagram sending) = sending_fields sending

abbrev pub message_words : Message → List (List ℕ)
message_words message = words_of (name_text (message_name message)) (message_fields message)

-- the line that a shell reads as those words
abbrev pub message_line : Message → List ℕ
message_line message = line_of (name_text (message_name message)) (message_fields message)

-- what its bytes are read as
abbrev pub reading_of : Message → Reading
reading_of (messages.Command command) = readings.Command
reading_of (messages.Datagram sending) = readings.Datagram

-- `decode` of what `encode` gives of a message is the line of words that denote that message
pub record IsDecoded (message : Message) : Type 0 where
  pub line : decoded (reading_of message) (message_hex message) ≡ Ok (ended (message_line message))
  pub words : message_of (message_words message) ≡ Ok message
