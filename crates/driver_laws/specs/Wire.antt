-- Frames of a log as the wire has them, and what datagrams of a log hold (Aeron Transport Protocol Specification, data frame,
-- padding, heartbeats, setup frame, loss recovery). How frames are put together is this project's own.
use Rattle.std.specs.Prelude.{◌≡◌, ℕ, pos, ◌+◌, ◌/◌, ◌<◌, ◌≤◌, unsigned_abs, Bool, List, ◌++◌, length, map, filter, All, ◌⊎◌, if◌then◌else◌}
use Rattle.frame_codec.specs.declared.flags.Flags.{Flags}
use Rattle.frame_codec.specs.declared.nak.Nak.{Nak}
use Rattle.frame_codec.specs.declared.setup.Setup.{Setup}
use Rattle.frame_codec.specs.Frame.{beat_bytes}
use Rattle.frame_codec.specs.Position.{position_of}
use Rattle.frame_codec.specs.Setup.{setup_bytes}
use Rattle.frame_codec.specs.Written.{Written, all_bytes, padding, part}
use Rattle.log_traffic.specs.ResendLaws.{joined}
use Rattle.term_log.specs.declared.ident.Ident.{Ident}
use Rattle.term_log.specs.Frames.{Frame, fragment, pad, pad_flags, total}
use Rattle.term_log.specs.Ident.{place_at}
use Rattle.term_log.specs.Ranges.{meets}
use Rattle.term_log.specs.Reading.{Given, all_given}
use Rattle.term_log.specs.Whole.{Whole}

-- ---- frames

-- a frame of a log at its position: header, payload and filling; of a pad its header alone
abbrev pub written_at : Ident → ℕ → Frame → Written
written_at i position (fragment flags payload) = part flags (place_at i position) payload
written_at i position (pad size) = padding pad_flags (place_at i position) size

-- frames of a log, one after another, and nothing else
abbrev pub wire_bytes : Ident → List Given → List ℕ
wire_bytes i frames = all_bytes (map (λ frame. written_at i frame.position frame.frame) frames)

-- one datagram of them: there is one at least, all are of one term, and they have no more bytes than the MTU
pub record AreOneDatagram (i : Ident) (frames : List Given) : Type 0 where
  pub some : 0 < length frames
  pub term : ℕ
  pub one_term : All (λ frame. frame.position / i.term_length ≡ term) frames
  pub within : length (wire_bytes i frames) ≤ i.mtu

-- ---- what a sender cuts of a log

-- Frames of the log, one after another, the first of them where its sender stands, each whole and at its place. The sender stands
-- after them then.
pub record IsOfFrames (w : Whole) (bytes : List ℕ) (to : ℕ) : Type 0 where
  pub before : List Frame
  pub cut : List Frame
  pub later : List Frame
  pub frames_are : w.frames ≡ before ++ (cut ++ later)
  pub from : w.sender.position ≡ w.ident.start + total before
  pub bytes_are : bytes ≡ wire_bytes w.ident (all_given w.ident w.sender.position cut)
  pub one : AreOneDatagram w.ident (all_given w.ident w.sender.position cut)
  pub to_is : to ≡ w.sender.position + total cut

-- A SETUP says of which stream the log is, and where its sender stands, which stays there.
pub record IsSetup (w : Whole) (bytes : List ℕ) (to : ℕ) : Type 0 where
  pub fields : Setup
  pub bytes_are : bytes ≡ setup_bytes fields
  pub session : fields.session_id ≡ w.ident.session
  pub stream : fields.stream_id ≡ w.ident.stream
  pub initial_term : fields.initial_term_id ≡ w.ident.initial_term
  pub active_term : fields.active_term_id ≡ (place_at w.ident w.sender.position).term_id
  pub offset : fields.term_offset ≡ (place_at w.ident w.sender.position).term_offset
  pub term_length : fields.term_length ≡ pos w.ident.term_length
  pub mtu : fields.mtu ≡ pos w.ident.mtu
  pub to_is : to ≡ w.sender.position

-- So does a heartbeat. Its flags are those of a whole message, and where the publication lingers that of a stream that has ended
-- too.
pub record IsHeartbeat (w : Whole) (lingers : Bool) (bytes : List ℕ) (to : ℕ) : Type 0 where
  pub flags : Flags
  pub flags_are : flags.bits ≡ (if lingers then 224 else 192)
  pub bytes_are : bytes ≡ beat_bytes flags (place_at w.ident w.sender.position)
  pub to_is : to ≡ w.sender.position

-- a datagram of a log that leaves its sender at a position
abbrev pub IsDatagramTo : Whole → Bool → List ℕ → ℕ → Type 0
IsDatagramTo w lingers bytes to = IsOfFrames w bytes to ⊎ (IsSetup w bytes to ⊎ IsHeartbeat w lingers bytes to)

-- ---- what is sent again

-- of all frames that were ever put into the log, those whose ranges meet the range that a NAK names
abbrev pub frames_named : Whole → Nak → List Given
frames_named w fields =
    filter
    (meets (position_of w.ident.initial_term fields.term_id fields.term_offset w.ident.term_length) (unsigned_abs fields.length))
    (all_given w.ident w.ident.start w.frames)

-- the datagrams carry together exactly these frames, each once and in order, and nothing else
pub record CarryExactly (i : Ident) (frames : List Given) (datagrams : List (List ℕ)) : Type 0 where
  pub runs : List (List Given)
  pub bytes_are : datagrams ≡ map (wire_bytes i) runs
  pub together : joined runs ≡ frames
  pub each : All (AreOneDatagram i) runs
