-- The words of a message denote it.
use Rattle.std.proofs.Common.{◌≡◌, ℕ, List, Ok}
use Rattle.message_words.specs.Datagrams.{ended}
use Rattle.message_words.specs.Decoding.{decoded}
use Rattle.message_words.specs.Laws.{IsMessage, IsDecoded, message_line, message_words, reading_of}
use Rattle.message_words.specs.Message.{message_hex, message_of}
use Rattle.message_words.specs.Shown.{command_line}
use Rattle.message_words.specs.declared.message.Message.{Message}
use Rattle.message_words.specs.declared.message.Message.TheVariants as messages
use Rattle.message_words.proofs.CommandBytes.{command_decoded}
use Rattle.message_words.proofs.CommandsBack.{words_back}
use Rattle.message_words.proofs.SendingBytes.{sending_decoded}
use Rattle.message_words.proofs.SendingsBack.{sending_back}
use Rattle.message_words.proofs.SoundWords.{message_sound}

pub message_back : (message : Message) → IsMessage message → message_of (message_words message) ≡ Ok message
message_back (messages.Command command) sound = words_back command sound.0 sound.1
message_back (messages.Datagram sending) sound = sending_back sending sound

pub message_decoded : (message : Message) → IsMessage message → decoded (reading_of message) (message_hex message) ≡ Ok (ended (message_line message))
unfolding command_line
message_decoded (messages.Command command) sound = command_decoded command sound.0 sound.1
message_decoded (messages.Datagram sending) sound = sending_decoded sending sound

pub decoded_again : (words : List (List ℕ)) (message : Message) → message_of words ≡ Ok message → IsDecoded message
decoded_again words message is =
    let sound = message_sound words message is in
    record { line = message_decoded message sound; words = message_back message sound }
