-- What can be written and is then read back, and what was read and is then written again.
use Rattle.std.specs.Prelude.{◌≡◌, ℕ, pos, ◌+◌, ◌-◌, ◌%◌, ◌<◌, ◌^◌, true, List, [], ◌∷◌, ◌++◌, length, take, drop, replicate, FitsSigned}
use Rattle.std.specs.Int.{w32}
use Rattle.frame_codec.specs.declared.flags.Flags.{Flags}
use Rattle.frame_codec.specs.declared.header.Kind.{Kind}
use Rattle.frame_codec.specs.declared.header.Kind.TheVariants.{Data, Pad}
use Rattle.frame_codec.specs.declared.header.TermPlace.{TermPlace}
use Rattle.frame_codec.specs.declared.header.Header.{Header}
use Rattle.frame_codec.specs.declared.nak.Nak.{Nak}
use Rattle.frame_codec.specs.declared.status_message.StatusMessage.{StatusMessage}
use Rattle.frame_codec.specs.declared.setup.Setup.{Setup}
use Rattle.frame_codec.specs.Header.{header_bytes, plain_header}
use Rattle.frame_codec.specs.Frame.{Sent, padded, data_header, data_bytes, pad_bytes}
use Rattle.frame_codec.specs.Frames.{follows, behind}

-- ---- each number fits its field; offsets are multiples of 32; what is written as 0 here is 0

pub record IsPlace (place : TermPlace) : Type 0 where
  pub session_id : FitsSigned w32 place.session_id
  pub stream_id : FitsSigned w32 place.stream_id
  pub term_id : FitsSigned w32 place.term_id
  pub offset_fits : place.term_offset < 2 ^ 31
  pub offset_aligned : place.term_offset % 32 ≡ 0

pub record IsNak (n : Nak) : Type 0 where
  pub no_flags : n.flags.bits ≡ 0
  pub session_id : FitsSigned w32 n.session_id
  pub stream_id : FitsSigned w32 n.stream_id
  pub term_id : FitsSigned w32 n.term_id
  pub offset_fits : n.term_offset < 2 ^ 31
  pub offset_aligned : n.term_offset % 32 ≡ 0
  pub size : FitsSigned w32 n.length

pub record IsStatusMessage (s : StatusMessage) : Type 0 where
  pub no_flags : s.flags.bits ≡ 0
  pub session_id : FitsSigned w32 s.session_id
  pub stream_id : FitsSigned w32 s.stream_id
  pub term_id : FitsSigned w32 s.consumption_term_id
  pub offset_fits : s.consumption_term_offset < 2 ^ 31
  pub window_fits : s.receiver_window < 2 ^ 31
  pub receiver_fits : s.receiver_id < 2 ^ 64

pub record IsSetup (s : Setup) : Type 0 where
  pub no_flags : s.flags.bits ≡ 0
  pub offset_fits : s.term_offset < 2 ^ 31
  pub offset_aligned : s.term_offset % 32 ≡ 0
  pub session_id : FitsSigned w32 s.session_id
  pub stream_id : FitsSigned w32 s.stream_id
  pub initial_term_id : FitsSigned w32 s.initial_term_id
  pub active_term_id : FitsSigned w32 s.active_term_id
  pub term_length : FitsSigned w32 s.term_length
  pub mtu : FitsSigned w32 s.mtu
  pub no_ttl : s.ttl ≡ pos 0

-- ---- frames of a term

-- a frame that is to be written: a data frame with its payload, or a pad with its length
pub data Written : Type 0 where
  part : Flags → TermPlace → List ℕ → Written
  padding : Flags → TermPlace → ℕ → Written

abbrev pub written_bytes : Written → List ℕ
written_bytes (part flags place payload) = data_bytes flags place payload
written_bytes (padding flags place size) = pad_bytes flags place size

-- the frame as it is read
abbrev pub written_frame : Written → Sent
written_frame (part flags place payload) =
    record { header = data_header flags place payload; bytes = header_bytes (data_header flags place payload) ++ payload }
written_frame (padding flags place size) =
    record { header = plain_header Pad size flags place; bytes = pad_bytes flags place size }

abbrev pub IsWritten : Written → Type 0
IsWritten (part flags place payload) = IsPlace place × (32 + length payload < 2 ^ 31)
IsWritten (padding flags place size) = IsPlace place × (0 < size) × (size < 2 ^ 31) × (size % 32 ≡ 0)

-- each of these can be written, and goes on where the one before ends
abbrev pub AreBehind : Header → List Written → Type 0
AreBehind before [] = Unit {0}
AreBehind before (w ∷ ws) = IsWritten w × (follows before (written_frame w).header ≡ true) × AreBehind (written_frame w).header ws

-- frames, one after another
abbrev pub all_bytes : List Written → List ℕ
all_bytes [] = []
all_bytes (w ∷ ws) = written_bytes w ++ all_bytes ws

abbrev pub all_frames : List Written → List Sent
all_frames [] = []
all_frames (w ∷ ws) = written_frame w ∷ all_frames ws

-- a frame that was read has the bytes of its header, and then its payload
abbrev pub IsKept : Sent → Type 0
IsKept frame = header_bytes frame.header ++ drop 32 frame.bytes ≡ frame.bytes

abbrev pub AreKept : List Sent → Type 0
AreKept [] = Unit {0}
AreKept (frame ∷ later) = IsKept frame × AreKept later

-- ---- datagrams of frames

-- the bytes of these frames stand one after another, each with its filling, to the last byte; the filling of the
-- last may be cut off
abbrev pub StandIn : List Sent → List ℕ → Type 0
StandIn [] bytes = bytes ≡ []
StandIn (frame ∷ later) bytes = (take (length frame.bytes) bytes ≡ frame.bytes) × StandIn later (behind frame bytes)

-- how many bytes fill the place of a frame up to the next multiple of 32
abbrev pub fill_length : Sent → ℕ
fill_length frame = padded (length frame.bytes) - length frame.bytes

-- the filling after a frame that stands at the front
abbrev pub filling : Sent → List ℕ → List ℕ
filling frame bytes = take (fill_length frame) (drop (length frame.bytes) bytes)

-- the frames are as they are written here: their reserved values are 0, and after each is all its filling, of zeros
abbrev pub ArePlain : List Sent → List ℕ → Type 0
ArePlain [] bytes = Unit {0}
ArePlain (frame ∷ later) bytes =
    (frame.header.reserved_value ≡ 0) × (filling frame bytes ≡ replicate (fill_length frame) 0) × ArePlain later (behind frame bytes)

-- a frame that was read, to be written again
abbrev pub written_as : Kind → Sent → Written
written_as Data frame = part frame.header.flags frame.header.place (drop 32 frame.bytes)
written_as Pad frame = padding frame.header.flags frame.header.place frame.header.length

abbrev pub all_written : List Sent → List Written
all_written [] = []
all_written (frame ∷ later) = written_as frame.header.kind frame ∷ all_written later
