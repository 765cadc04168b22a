-- What `decode` answers: the words of the command, the reply or the datagram that bytes are, or why they are not.
use Rattle.std.specs.Prelude.{◌≡◌, ℕ, List, [], ◌∷◌, Option, Result, Ok, Err, codes, find}
use Rattle.std.specs.Str.{bytes_eq}
use Rattle.command_codec.specs.Command.{command_of}
use Rattle.command_codec.specs.Reply.{reply_of}
use Rattle.command_codec.specs.declared.command.Command.{Command}
use Rattle.command_codec.specs.declared.fault.CommandFault.{CommandFault}
use Rattle.command_codec.specs.declared.fault.CommandFault.TheVariants as causes
use Rattle.command_codec.specs.declared.reply.Reply.{Reply}
use Rattle.frame_codec.specs.Datagram.{Content, packet_of}
use Rattle.frame_codec.specs.Fault.{fault_text}
use Rattle.frame_codec.specs.declared.fault.BadPacket.{BadPacket}
use Rattle.hex.specs.declared.error.FromHexError.{FromHexError}
use Rattle.message_words.specs.Datagrams.{content_lines, ended}
use Rattle.message_words.specs.Hex.{bytes_of}
use Rattle.message_words.specs.Replies.{reply_line}
use Rattle.message_words.specs.Shown.{command_line}
use Rattle.message_words.specs.declared.decoding.DecodeFault.{DecodeFault}
use Rattle.message_words.specs.declared.decoding.DecodeFault.TheVariants as faults
use Rattle.message_words.specs.declared.decoding.Reading.{Reading}
use Rattle.message_words.specs.declared.decoding.Reading.TheVariants as readings

-- ---- what bytes are said to be

abbrev pub reading_text : Reading → List ℕ
reading_text readings.Command = codes "command"
reading_text readings.Reply = codes "reply"
reading_text readings.Datagram = codes "datagram"

unfoldable pub reading_named : List ℕ → Option Reading
reading_named text = find (λ reading. bytes_eq (reading_text reading) text) (readings.Command ∷ readings.Reply ∷ readings.Datagram ∷ [])

-- ---- what is said of bytes

-- the answer is what is said, unless memory ran out
abbrev pub Answers : Result (List ℕ) DecodeFault → Result (List ℕ) DecodeFault → Type 0
Answers (Ok text) said = said ≡ Ok text
Answers (Err faults.NoMemory) said = Unit {0}
Answers (Err faults.BadHex) said = said ≡ Err faults.BadHex
Answers (Err (faults.Command fault)) said = said ≡ Err (faults.Command fault)
Answers (Err (faults.Reply fault)) said = said ≡ Err (faults.Reply fault)
Answers (Err (faults.Datagram fault)) said = said ≡ Err (faults.Datagram fault)

abbrev pub command_said : Result Command CommandFault → Result (List ℕ) DecodeFault
command_said (Ok command) = Ok (ended (command_line command))
command_said (Err fault) = Err (faults.Command fault)

abbrev pub reply_said : Result Reply CommandFault → Result (List ℕ) DecodeFault
reply_said (Ok reply) = Ok (ended (reply_line reply))
reply_said (Err fault) = Err (faults.Reply fault)

abbrev pub datagram_said : Result Content BadPacket → Result (List ℕ) DecodeFault
datagram_said (Ok content) = Ok (content_lines content)
datagram_said (Err fault) = Err (faults.Datagram fault)

-- what is said of bytes that are read as one of the three
unfoldable pub bytes_said : Reading → List ℕ → Result (List ℕ) DecodeFault
bytes_said readings.Command bytes = command_said (command_of bytes)
bytes_said readings.Reply bytes = reply_said (reply_of bytes)
bytes_said readings.Datagram bytes = datagram_said (packet_of bytes)

abbrev pub digits_said : Reading → Result (List ℕ) FromHexError → Result (List ℕ) DecodeFault
digits_said reading (Ok bytes) = bytes_said reading bytes
digits_said reading (Err fault) = Err faults.BadHex

-- what `decode` answers for hexadecimal
abbrev pub decoded : Reading → List ℕ → Result (List ℕ) DecodeFault
decoded reading text = digits_said reading (bytes_of text)

-- ---- the texts of faults; a datagram's are those by which a driver drops it

abbrev pub decode_fault_text : DecodeFault → List ℕ
decode_fault_text faults.BadHex = codes "bad hexadecimal"
decode_fault_text (faults.Command causes.Unknown) = codes "unknown command type"
decode_fault_text (faults.Command causes.Malformed) = codes "malformed command"
decode_fault_text (faults.Command causes.NoMemory) = codes "no memory"
decode_fault_text (faults.Reply causes.Unknown) = codes "unknown reply type"
decode_fault_text (faults.Reply causes.Malformed) = codes "malformed reply"
decode_fault_text (faults.Reply causes.NoMemory) = codes "no memory"
decode_fault_text (faults.Datagram fault) = fault_text fault
decode_fault_text faults.NoMemory = codes "no memory"
