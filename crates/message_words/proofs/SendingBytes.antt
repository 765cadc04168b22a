-- What is written of a datagram is bytes, and is read as that datagram.
use Rattle.std.proofs.Common.{◌≡◌, ℕ, zero, suc, ◌<◌, ℤ, pos, List, [], ◌∷◌, Ok, refl, sym, ap, ◌∙◌, arith}
use Rattle.std.specs.Int.{w32, cast_unsigned}
use Rattle.std.proofs.lemmas.List.{append-nil, drop_at}
use Rattle.command_codec.specs.Fields.{IsBytes}
use Rattle.frame_codec.specs.declared.flags.Flags.{Flags}
use Rattle.frame_codec.specs.declared.header.Header.{Header}
use Rattle.frame_codec.specs.declared.header.Kind.TheVariants as kinds
use Rattle.frame_codec.specs.declared.nak.Nak.{Nak}
use Rattle.frame_codec.specs.declared.setup.Setup.{Setup}
use Rattle.frame_codec.specs.declared.status_message.StatusMessage.{StatusMessage}
use Rattle.frame_codec.specs.Datagram.{Content, packet_of}
use Rattle.frame_codec.specs.Datagram as contents
use Rattle.frame_codec.specs.Frame.{beat_bytes, data_bytes, data_header, pad_bytes}
use Rattle.frame_codec.specs.Header.{header_bytes, kind_number, plain_header}
use Rattle.frame_codec.specs.Nak.{nak_bytes}
use Rattle.frame_codec.specs.Setup.{setup_bytes}
use Rattle.frame_codec.specs.StatusMessage.{status_bytes}
use Rattle.frame_codec.specs.Writing.{front_bytes, no_flags, number_bytes, signed_bytes}
use Rattle.frame_codec.specs.Written.{padding, part, written_frame}
use Rattle.frame_codec.proofs.FramesAgain.{beat_again, frames_again}
use Rattle.frame_codec.proofs.RoundTrips.{nak_again, setup_again, status_again}
use Rattle.frame_codec.proofs.WritingLemmas.{length-header_bytes}
use Rattle.message_words.specs.Datagrams.{beat_line, beat_rest, content_lines, data_rest, ended, frame_line, nak_line, nak_place, nak_rest, pad_rest, setup_line, setup_place, setup_rest, status_line, status_place, status_rest}
use Rattle.message_words.specs.Decoding.{bytes_said, decoded}
use Rattle.message_words.specs.declared.decoding.Reading.TheVariants as readings
use Rattle.message_words.specs.Frames.{sending_bytes}
use Rattle.message_words.specs.Laws.{IsSending, message_line}
use Rattle.message_words.specs.Message.{message_bytes, message_hex, sending_widths}
use Rattle.message_words.specs.declared.frames.Beat.{Beat}
use Rattle.message_words.specs.declared.frames.DataFrame.{DataFrame}
use Rattle.message_words.specs.declared.frames.Pad.{Pad}
use Rattle.message_words.specs.declared.frames.Sending.{Sending}
use Rattle.message_words.specs.declared.frames.Sending.TheVariants as sendings
use Rattle.message_words.specs.declared.message.Message.TheVariants as messages
use Rattle.message_words.specs.declared.name.FrameName.TheVariants as frames
use Rattle.message_words.proofs.HexBack.{IsBytes-append, IsBytes-low_first, IsBytes-zeros, bytes_back}
use Rattle.message_words.proofs.Texts.{placed_is}

-- ---- bytes

number_is_bytes : (count number : ℕ) → IsBytes (number_bytes count number)
unfolding number_bytes
number_is_bytes count number = IsBytes-low_first 0 count number

signed_is_bytes : (number : ℤ) → IsBytes (signed_bytes number)
unfolding signed_bytes
signed_is_bytes number = IsBytes-low_first 0 4 (cast_unsigned w32 number)

byte_is_bytes : (byte : ℕ) → byte < 256 → IsBytes (byte ∷ [])
byte_is_bytes byte fits zero = fits
byte_is_bytes byte fits (suc at) = omega arith

front_is_bytes : (size : ℕ) (flags : Flags) (number : ℕ) → flags.bits < 256 → IsBytes (front_bytes size flags number)
unfolding front_bytes
front_is_bytes size flags number fits =
    IsBytes-append _ _ (IsBytes-append _ _ (IsBytes-append _ _ (number_is_bytes 4 size) (byte_is_bytes 0 (omega arith))) (byte_is_bytes flags.bits fits))
    (number_is_bytes 2 number)

header_is_bytes : (header : Header) → header.flags.bits < 256 → IsBytes (header_bytes header)
unfolding header_bytes
header_is_bytes header fits =
    IsBytes-append _ _ (IsBytes-append _ _ (IsBytes-append _ _ (IsBytes-append _ _ (IsBytes-append _ _
    (front_is_bytes header.length header.flags (kind_number header.kind) fits) (number_is_bytes 4 header.place.term_offset))
    (signed_is_bytes header.place.session_id)) (signed_is_bytes header.place.stream_id)) (signed_is_bytes header.place.term_id))
    (number_is_bytes 8 header.reserved_value)

sending_is_bytes : (sending : Sending) → IsSending sending → IsBytes (sending_bytes sending)
unfolding sending_bytes data_bytes pad_bytes beat_bytes nak_bytes status_bytes setup_bytes
sending_is_bytes (sendings.Data fields) sound =
    IsBytes-append _ _ (IsBytes-append _ _ (header_is_bytes (data_header fields.flags fields.place fields.payload) sound.0) sound.2) (IsBytes-zeros _)
sending_is_bytes (sendings.Pad fields) sound = header_is_bytes (plain_header kinds.Pad fields.size fields.flags fields.place) sound.0
sending_is_bytes (sendings.Heartbeat fields) sound = header_is_bytes (plain_header kinds.Data 0 fields.flags fields.place) sound.0
sending_is_bytes (sendings.Nak nak) sound =
    IsBytes-append _ _ (IsBytes-append _ _ (IsBytes-append _ _ (IsBytes-append _ _ (IsBytes-append _ _ (front_is_bytes 28 no_flags 2 (omega arith))
    (signed_is_bytes nak.session_id)) (signed_is_bytes nak.stream_id)) (signed_is_bytes nak.term_id)) (number_is_bytes 4 nak.term_offset)) (signed_is_bytes nak.length)
sending_is_bytes (sendings.StatusMessage message) sound =
    IsBytes-append _ _ (IsBytes-append _ _ (IsBytes-append _ _ (IsBytes-append _ _ (IsBytes-append _ _ (IsBytes-append _ _ (front_is_bytes 36 no_flags 3 (omega arith))
    (signed_is_bytes message.session_id)) (signed_is_bytes message.stream_id)) (signed_is_bytes message.consumption_term_id))
    (number_is_bytes 4 message.consumption_term_offset)) (number_is_bytes 4 message.receiver_window)) (number_is_bytes 8 message.receiver_id)
sending_is_bytes (sendings.Setup setup) sound =
    IsBytes-append _ _ (IsBytes-append _ _ (IsBytes-append _ _ (IsBytes-append _ _ (IsBytes-append _ _ (IsBytes-append _ _ (IsBytes-append _ _ (IsBytes-append _ _
    (front_is_bytes 40 no_flags 5 (omega arith)) (number_is_bytes 4 setup.term_offset)) (signed_is_bytes setup.session_id)) (signed_is_bytes setup.stream_id))
    (signed_is_bytes setup.initial_term_id)) (signed_is_bytes setup.active_term_id)) (signed_is_bytes setup.term_length)) (signed_is_bytes setup.mtu))
    (signed_is_bytes (pos 0))

-- ---- lines

abbrev line_is : Sending → List ℕ → Type 0
line_is sending line = line ≡ message_line (messages.Datagram sending)

data_line : (fields : DataFrame) → line_is (sendings.Data fields) (frame_line (written_frame (part fields.flags fields.place fields.payload)))
data_line fields =
    let header : Header = data_header fields.flags fields.place fields.payload in
    rw (drop_at (header_bytes header) fields.payload 32 (length-header_bytes header))
    (append-nil _ ∙ placed_is frames.Data fields.place (data_rest fields.flags fields.payload))

pad_line : (fields : Pad) → line_is (sendings.Pad fields) (frame_line (written_frame (padding fields.flags fields.place fields.size)))
pad_line fields = append-nil _ ∙ placed_is frames.Pad fields.place (pad_rest fields.flags fields.size)

heartbeat_line : (fields : Beat) → line_is (sendings.Heartbeat fields) (beat_line (plain_header kinds.Data 0 fields.flags fields.place))
heartbeat_line fields = append-nil _ ∙ placed_is frames.Heartbeat fields.place (beat_rest fields.flags)

nak_line_is : (nak : Nak) → IsSending (sendings.Nak nak) → line_is (sendings.Nak nak) (nak_line nak)
nak_line_is nak sound = rw (sound.no_flags) (append-nil _ ∙ placed_is frames.Nak (nak_place nak) (nak_rest nak))

status_line_is : (message : StatusMessage) → IsSending (sendings.StatusMessage message) → line_is (sendings.StatusMessage message) (status_line message)
status_line_is message sound = rw (sound.no_flags) (append-nil _ ∙ placed_is frames.StatusMessage (status_place message) (status_rest message))

setup_line_is : (setup : Setup) → IsSending (sendings.Setup setup) → line_is (sendings.Setup setup) (setup_line setup)
setup_line_is setup sound = rw (sound.no_flags, sound.no_ttl) (append-nil _ ∙ placed_is frames.Setup (setup_place setup) (setup_rest setup))

-- ---- what is said of the bytes

decoded_from : (sending : Sending) (content : Content) → IsSending sending → packet_of (sending_bytes sending) ≡ Ok content
    → content_lines content ≡ ended (message_line (messages.Datagram sending))
    → decoded readings.Datagram (message_hex (messages.Datagram sending)) ≡ Ok (ended (message_line (messages.Datagram sending)))
unfolding message_hex message_bytes bytes_said
decoded_from sending content sound read line =
    rw (bytes_back (sending_widths sending) (sending_bytes sending) (sending_is_bytes sending sound), read, line) refl

pub sending_decoded : (sending : Sending) → IsSending sending
    → decoded readings.Datagram (message_hex (messages.Datagram sending)) ≡ Ok (ended (message_line (messages.Datagram sending)))
unfolding sending_bytes content_lines
sending_decoded (sendings.Data fields) sound =
    decoded_from (sendings.Data fields) _ sound
    (ap packet_of (sym (append-nil (data_bytes fields.flags fields.place fields.payload))) ∙ frames_again (part fields.flags fields.place fields.payload) [] sound.1 tt)
    (ap ended (data_line fields))
sending_decoded (sendings.Pad fields) sound =
    decoded_from (sendings.Pad fields) _ sound
    (ap packet_of (sym (append-nil (pad_bytes fields.flags fields.place fields.size))) ∙ frames_again (padding fields.flags fields.place fields.size) [] sound.1 tt)
    (ap ended (pad_line fields))
sending_decoded (sendings.Heartbeat fields) sound =
    decoded_from (sendings.Heartbeat fields) _ sound (beat_again fields.flags fields.place sound.1) (ap ended (heartbeat_line fields))
sending_decoded (sendings.Nak nak) sound =
    decoded_from (sendings.Nak nak) (contents.nak nak) sound (ap packet_of (sym (append-nil (nak_bytes nak))) ∙ nak_again nak [] sound) (ap ended (nak_line_is nak sound))
sending_decoded (sendings.StatusMessage message) sound =
    decoded_from (sendings.StatusMessage message) (contents.status message) sound
    (ap packet_of (sym (append-nil (status_bytes message))) ∙ status_again message [] sound) (ap ended (status_line_is message sound))
sending_decoded (sendings.Setup setup) sound =
    decoded_from (sendings.Setup setup) (contents.setup setup) sound
    (ap packet_of (sym (append-nil (setup_bytes setup))) ∙ setup_again setup [] sound) (ap ended (setup_line_is setup sound))
