-- Datagrams in words, a line a frame. Own rules.
use Rattle.std.specs.Prelude.{ℕ, ◌==◌, pos, ℤ, List, [], ◌∷◌, ◌++◌, codes, drop, if◌then◌else◌}
use Rattle.std.specs.Fmt.{decimal, signed_decimal}
use Rattle.std.specs.Ordering.{int_eq}
use Rattle.frame_codec.specs.Datagram.{Content}
use Rattle.frame_codec.specs.Datagram as contents
use Rattle.frame_codec.specs.Frame.{Sent}
use Rattle.frame_codec.specs.declared.flags.Flags.{Flags}
use Rattle.frame_codec.specs.declared.header.Header.{Header}
use Rattle.frame_codec.specs.declared.header.Kind.{Kind}
use Rattle.frame_codec.specs.declared.header.Kind.TheVariants.{Data, Pad}
use Rattle.frame_codec.specs.declared.header.TermPlace.{TermPlace}
use Rattle.frame_codec.specs.declared.nak.Nak.{Nak}
use Rattle.frame_codec.specs.declared.setup.Setup.{Setup}
use Rattle.frame_codec.specs.declared.status_message.StatusMessage.{StatusMessage}
use Rattle.hex.specs.Hex.{encode_lower}
use Rattle.message_words.specs.Name.{frame_text}
use Rattle.message_words.specs.Shown.{Field, bare, fields_text}
use Rattle.message_words.specs.declared.key.Key.TheVariants as keys
use Rattle.message_words.specs.declared.name.FrameName.{FrameName}
use Rattle.message_words.specs.declared.name.FrameName.TheVariants as names

-- ---- the fields of frames

unfoldable pub place_fields : TermPlace → List Field
place_fields place =
    bare keys.Session (signed_decimal place.session_id) ∷ bare keys.Stream (signed_decimal place.stream_id)
    ∷ bare keys.Term (signed_decimal place.term_id) ∷ bare keys.Offset (decimal place.term_offset) ∷ []

abbrev pub flags_field : Flags → Field
flags_field flags = bare keys.Flags (encode_lower (flags.bits ∷ []))

-- what stands after the place
abbrev pub data_rest : Flags → List ℕ → List Field
data_rest flags payload = flags_field flags ∷ bare keys.Payload (encode_lower payload) ∷ []

abbrev pub pad_rest : Flags → ℕ → List Field
pad_rest flags size = flags_field flags ∷ bare keys.Length (decimal size) ∷ []

abbrev pub beat_rest : Flags → List Field
beat_rest flags = flags_field flags ∷ []

abbrev pub nak_rest : Nak → List Field
nak_rest nak = bare keys.Length (signed_decimal nak.length) ∷ []

abbrev pub status_rest : StatusMessage → List Field
status_rest message = bare keys.Window (decimal message.receiver_window) ∷ bare keys.Receiver (decimal message.receiver_id) ∷ []

abbrev pub setup_rest : Setup → List Field
setup_rest setup =
    bare keys.InitialTerm (signed_decimal setup.initial_term_id) ∷ bare keys.TermLength (signed_decimal setup.term_length)
    ∷ bare keys.Mtu (signed_decimal setup.mtu) ∷ []

-- the place that a NAK, a status message or a SETUP names
abbrev pub nak_place : Nak → TermPlace
nak_place nak = record { session_id = nak.session_id; stream_id = nak.stream_id; term_id = nak.term_id; term_offset = nak.term_offset }

abbrev pub status_place : StatusMessage → TermPlace
status_place message = record { session_id = message.session_id; stream_id = message.stream_id; term_id = message.consumption_term_id; term_offset = message.consumption_term_offset }

abbrev pub setup_place : Setup → TermPlace
setup_place setup = record { session_id = setup.session_id; stream_id = setup.stream_id; term_id = setup.active_term_id; term_offset = setup.term_offset }

-- ---- what a frame may have and no word gives: it is shown where it is not 0

abbrev pub reserved_text : ℕ → List ℕ
reserved_text value = if value == 0 then [] else codes " reserved=" ++ decimal value

abbrev pub flags_text : Flags → List ℕ
flags_text flags = if flags.bits == 0 then [] else codes " flags=" ++ encode_lower (flags.bits ∷ [])

abbrev pub ttl_text : ℤ → List ℕ
ttl_text ttl = if int_eq ttl (pos 0) then [] else codes " ttl=" ++ signed_decimal ttl

-- ---- lines

-- the name of a frame, its place, and the text of its other fields
unfoldable pub placed_line : FrameName → TermPlace → List ℕ → List ℕ
placed_line name place rest = frame_text name ++ (fields_text (place_fields place) ++ rest)

abbrev pub frame_as : Kind → Sent → List ℕ
frame_as Data frame = placed_line names.Data frame.header.place (fields_text (data_rest frame.header.flags (drop 32 frame.bytes))) ++ reserved_text frame.header.reserved_value
frame_as Pad frame = placed_line names.Pad frame.header.place (fields_text (pad_rest frame.header.flags frame.header.length)) ++ reserved_text frame.header.reserved_value

abbrev pub frame_line : Sent → List ℕ
frame_line frame = frame_as frame.header.kind frame

abbrev pub frame_lines : List Sent → List ℕ
frame_lines [] = []
frame_lines (frame ∷ frames) = frame_line frame ++ (10 ∷ frame_lines frames)

abbrev pub beat_line : Header → List ℕ
beat_line header = placed_line names.Heartbeat header.place (fields_text (beat_rest header.flags)) ++ reserved_text header.reserved_value

abbrev pub nak_line : Nak → List ℕ
nak_line nak = placed_line names.Nak (nak_place nak) (fields_text (nak_rest nak)) ++ flags_text nak.flags

abbrev pub status_line : StatusMessage → List ℕ
status_line message = placed_line names.StatusMessage (status_place message) (fields_text (status_rest message)) ++ flags_text message.flags

abbrev pub setup_line : Setup → List ℕ
setup_line setup = placed_line names.Setup (setup_place setup) (fields_text (setup_rest setup)) ++ (flags_text setup.flags ++ ttl_text setup.ttl)

abbrev pub ended : List ℕ → List ℕ
ended line = line ++ (10 ∷ [])

unfoldable pub content_lines : Content → List ℕ
content_lines (contents.frames frames) = frame_lines frames
content_lines (contents.beat header) = ended (beat_line header)
content_lines (contents.nak nak) = ended (nak_line nak)
content_lines (contents.status message) = ended (status_line message)
content_lines (contents.setup setup) = ended (setup_line setup)
