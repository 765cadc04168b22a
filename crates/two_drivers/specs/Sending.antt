-- What is read of the datagrams that a publication's log sends. Own rules.
use Rattle.std.specs.Prelude.{◌≡◌, ℕ, pos, ◌%◌, ◌≤◌, List, Some, Ok, All, FitsSigned, Bool}
use Rattle.std.specs.Int.{w32}
use Rattle.frame_codec.specs.declared.nak.Nak.{Nak}
use Rattle.frame_codec.specs.declared.setup.Setup.{Setup}
use Rattle.frame_codec.specs.declared.status_message.StatusMessage.{StatusMessage}
use Rattle.frame_codec.specs.Datagram as contents
use Rattle.frame_codec.specs.Datagram.{packet_of}
use Rattle.frame_codec.specs.Frame.{Sent}
use Rattle.frame_codec.specs.Nak.{nak_bytes}
use Rattle.frame_codec.specs.StatusMessage.{status_bytes}
use Rattle.image_log.specs.Frame.{Frame as Kept, framed}
use Rattle.image_log.specs.Handed.{position_in, span_of}
use Rattle.image_log.specs.declared.ident.Ident.{Ident as StreamIdent}
use Rattle.log_traffic.specs.declared.cutting.Pace.{Pace}
use Rattle.log_traffic.specs.Cutting.{cut_of, datagram_of}
use Rattle.log_traffic.specs.Hearing.{heard_of}
use Rattle.log_traffic.specs.Resending.{resent_of}
use Rattle.term_log.specs.declared.ident.Ident.{Ident}
use Rattle.term_log.specs.Frames.{IsRun}
use Rattle.term_log.specs.Ident.{IsIdent, greatest_position}
use Rattle.term_log.specs.Kept.{IsStart}
use Rattle.term_log.specs.Whole.{Whole, fresh, offered, tail_of}
use Rattle.two_drivers.specs.Line.{IsIn, line_of, stream_of}

-- ---- the log

-- sizes that are sound, and numbers of 32 bits
pub record IsFit (i : Ident) : Type 0 where
  pub sizes : IsIdent i
  pub session : FitsSigned w32 i.session
  pub stream : FitsSigned w32 i.stream
  pub initial_term : FitsSigned w32 i.initial_term

-- each frame is sound where it stands, and the sender stands where one begins or after the last
pub record IsWell (w : Whole) : Type 0 where
  pub run : IsRun w.ident w.ident.start w.frames
  pub high : tail_of w ≤ greatest_position w.ident
  pub aligned : tail_of w % 32 ≡ 0
  pub sent : IsStart w.ident.start w.frames w.sender.position

-- as a log begins, and whatever is done with it
pub record WellIsKept (w : Whole) : Type 0 where
  pub offers : (message : List ℕ) → IsWell (offered w message)
  pub hears : (now : ℕ) (message : StatusMessage) → IsWell (heard_of now message w)
  pub cuts : (pace : Pace) (now : ℕ) → IsWell (cut_of pace now w)

pub record WholesStayWell : Type 0 where
  pub begins : (i : Ident) → IsFit i → IsWell (fresh i)
  pub stays : (w : Whole) → IsFit w.ident → IsWell w → WellIsKept w

-- ---- what is read

-- the frame stands in the line, at its header's position
abbrev pub IsOfLine : StreamIdent → List Kept → Sent → Type 0
IsOfLine ident line frame = IsIn line (framed (position_in ident frame.header.place) (span_of frame.bytes) frame.bytes)

-- a frame of the publication
pub record IsOfLog (i : Ident) (line : List Kept) (frame : Sent) : Type 0 where
  pub session : frame.header.place.session_id ≡ i.session
  pub stream : frame.header.place.stream_id ≡ i.stream
  pub there : IsOfLine (stream_of i) line frame

-- a SETUP of the publication
pub record IsSetupOf (i : Ident) (fields : Setup) : Type 0 where
  pub session : fields.session_id ≡ i.session
  pub stream : fields.stream_id ≡ i.stream
  pub initial_term : fields.initial_term_id ≡ i.initial_term
  pub term_length : fields.term_length ≡ pos i.term_length

-- whatever frames and whichever SETUP are read of it are the publication's
pub record IsDatagramOf (i : Ident) (line : List Kept) (bytes : List ℕ) : Type 0 where
  pub frames : (sent : List Sent) → packet_of bytes ≡ Ok (contents.frames sent) → All (IsOfLog i line) sent
  pub setup : (fields : Setup) → packet_of bytes ≡ Ok (contents.setup fields) → IsSetupOf i fields

-- all frames of a whole log
abbrev pub all_of : Whole → List Kept
all_of w = line_of w.ident w.ident.start w.frames

-- ---- the laws

abbrev pub DatagramsAreOfTheLog : Type 0
DatagramsAreOfTheLog =
    (pace : Pace) (now : ℕ) (lingers : Bool) (w : Whole) (bytes : List ℕ) → IsFit w.ident → IsWell w →
    datagram_of pace now lingers w ≡ Some bytes → IsDatagramOf w.ident (all_of w) bytes

abbrev pub ResendsAreOfTheLog : Type 0
ResendsAreOfTheLog =
    (w : Whole) (nak : Nak) → IsFit w.ident → IsWell w → All (IsDatagramOf w.ident (all_of w)) (resent_of w nak)

-- of what receivers report, neither frames nor a SETUP are read
pub record IsQuiet (bytes : List ℕ) : Type 0 where
  pub frames : (sent : List Sent) → packet_of bytes ≡ Ok (contents.frames sent) → ⊥
  pub setup : (fields : Setup) → packet_of bytes ≡ Ok (contents.setup fields) → ⊥

pub record ReportsAreQuiet : Type 0 where
  pub naks : (nak : Nak) → IsQuiet (nak_bytes nak)
  pub statuses : (message : StatusMessage) → IsQuiet (status_bytes message)
