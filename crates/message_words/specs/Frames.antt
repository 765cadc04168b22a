-- Datagrams of one frame among words, and their bytes. Own rules; the fields are those of the frames' layouts.
use Rattle.std.specs.Prelude.{ℕ, ◌%◌, ◌==◌, pos, List, Option, Some, None, Result, Ok, option_and_then, if◌then◌else◌}
use Rattle.frame_codec.specs.declared.flags.Flags.{Flags}
use Rattle.frame_codec.specs.declared.header.TermPlace.{TermPlace}
use Rattle.frame_codec.specs.declared.nak.Nak.{Nak}
use Rattle.frame_codec.specs.declared.setup.Setup.{Setup}
use Rattle.frame_codec.specs.declared.status_message.StatusMessage.{StatusMessage}
use Rattle.frame_codec.specs.Frame.{beat_bytes, data_bytes, pad_bytes}
use Rattle.frame_codec.specs.Nak.{nak_bytes}
use Rattle.frame_codec.specs.Setup.{setup_bytes}
use Rattle.frame_codec.specs.StatusMessage.{status_bytes}
use Rattle.frame_codec.specs.Writing.{no_flags}
use Rattle.message_words.specs.declared.fault.WordFault.{WordFault}
use Rattle.message_words.specs.declared.frames.Beat.{Beat}
use Rattle.message_words.specs.declared.frames.DataFrame.{DataFrame}
use Rattle.message_words.specs.declared.frames.Pad.{Pad}
use Rattle.message_words.specs.declared.frames.Sending.{Sending}
use Rattle.message_words.specs.declared.frames.Sending.TheVariants as sendings
use Rattle.message_words.specs.declared.name.FrameName.{FrameName}
use Rattle.message_words.specs.declared.name.FrameName.TheVariants as frames
use Rattle.message_words.specs.declared.key.Key.TheVariants as keys
use Rattle.message_words.specs.Given.{given, needed, ◌>>=◌}
use Rattle.message_words.specs.Values.{bytes_at, flags_at, integer_at, integer_or, natural_at, natural_of, natural_or, number_or, offset_or}

-- flags of a whole message: 0xC0
abbrev pub whole : Flags
whole = record { bits = 192 }

-- the greatest length of a payload: with its header below 2 ^ 31
abbrev pub longest_payload : ℕ
longest_payload = 0x7FFFFFDF

abbrev pub place_in : List (List ℕ) → Result TermPlace WordFault
place_in words = do
  session ← integer_at keys.Session words
  stream ← integer_at keys.Stream words
  term ← integer_at keys.Term words
  offset ← offset_or keys.Offset 0 words
  Ok (record { session_id = session; stream_id = stream; term_id = term; term_offset = offset })

abbrev pub data_in : List (List ℕ) → Result DataFrame WordFault
data_in words = do
  place ← place_in words
  flags ← flags_at keys.Flags whole words
  payload ← bytes_at longest_payload keys.Payload words
  Ok (record { flags = flags; place = place; payload = payload })

-- how much of a term a pad covers: a positive multiple of 32
abbrev pub covered : ℕ → Option ℕ
covered number = if number == 0 then None else if number % 32 == 0 then Some number else None

abbrev pub covered_of : List ℕ → Option ℕ
covered_of value = option_and_then covered (natural_of value)

abbrev pub covered_at : List (List ℕ) → Result ℕ WordFault
covered_at words = given keys.Length words >>= needed keys.Length covered_of

abbrev pub pad_in : List (List ℕ) → Result Pad WordFault
pad_in words = do
  place ← place_in words
  flags ← flags_at keys.Flags whole words
  size ← covered_at words
  Ok (record { flags = flags; place = place; size = size })

abbrev pub beat_in : List (List ℕ) → Result Beat WordFault
beat_in words = do
  place ← place_in words
  flags ← flags_at keys.Flags whole words
  Ok (record { flags = flags; place = place })

abbrev pub nak_in : List (List ℕ) → Result Nak WordFault
nak_in words = do
  place ← place_in words
  size ← integer_at keys.Length words
  Ok (record { flags = no_flags; session_id = place.session_id; stream_id = place.stream_id; term_id = place.term_id; term_offset = place.term_offset; length = size })

abbrev pub status_in : List (List ℕ) → Result StatusMessage WordFault
status_in words = do
  session ← integer_at keys.Session words
  stream ← integer_at keys.Stream words
  term ← integer_at keys.Term words
  offset ← natural_or keys.Offset 0 words
  window ← natural_at keys.Window words
  receiver ← number_or keys.Receiver 0 words
  Ok (record { flags = no_flags; session_id = session; stream_id = stream; consumption_term_id = term; consumption_term_offset = offset; receiver_window = window; receiver_id = receiver })

abbrev pub setup_in : List (List ℕ) → Result Setup WordFault
setup_in words = do
  place ← place_in words
  initial ← integer_or keys.InitialTerm place.term_id words
  term_length ← integer_or keys.TermLength (pos 65536) words
  mtu ← integer_or keys.Mtu (pos 1408) words
  Ok (record { flags = no_flags; term_offset = place.term_offset; session_id = place.session_id; stream_id = place.stream_id; initial_term_id = initial; active_term_id = place.term_id; term_length = term_length; mtu = mtu; ttl = pos 0 })

-- the datagram of that name whose fields these words give
unfoldable pub sending_in : FrameName → List (List ℕ) → Result Sending WordFault
sending_in frames.Data words = data_in words >>= λ fields. Ok (sendings.Data fields)
sending_in frames.Pad words = pad_in words >>= λ fields. Ok (sendings.Pad fields)
sending_in frames.Heartbeat words = beat_in words >>= λ fields. Ok (sendings.Heartbeat fields)
sending_in frames.Nak words = nak_in words >>= λ fields. Ok (sendings.Nak fields)
sending_in frames.StatusMessage words = status_in words >>= λ fields. Ok (sendings.StatusMessage fields)
sending_in frames.Setup words = setup_in words >>= λ fields. Ok (sendings.Setup fields)

-- its bytes, as drivers here write them
unfoldable pub sending_bytes : Sending → List ℕ
sending_bytes (sendings.Data fields) = data_bytes fields.flags fields.place fields.payload
sending_bytes (sendings.Pad fields) = pad_bytes fields.flags fields.place fields.size
sending_bytes (sendings.Heartbeat fields) = beat_bytes fields.flags fields.place
sending_bytes (sendings.Nak fields) = nak_bytes fields
sending_bytes (sendings.StatusMessage fields) = status_bytes fields
sending_bytes (sendings.Setup fields) = setup_bytes fields
