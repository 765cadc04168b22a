-- Which datagram of a publication's log is cut next, and what becomes of the log by it (Aeron Transport Protocol
-- Specification, SETUP frames, data frames and heartbeats). The order is this project's own.
use Rattle.std.specs.Prelude.{◌≡◌, ℕ, pos, ◌+◌, ◌%◌, ◌^◌, ◌<◌, ◌≤◌, Bool, true, nat_lt, List, length, Option, Some, None, if◌then◌else◌}
use Rattle.std.specs.Option.{is_some, option_map}
use Rattle.frame_codec.specs.declared.flags.Flags.{Flags}
use Rattle.frame_codec.specs.declared.setup.Setup.{Setup}
use Rattle.frame_codec.specs.Frame.{beat_bytes}
use Rattle.frame_codec.specs.Position.{term_id_of}
use Rattle.frame_codec.specs.Setup.{setup_bytes}
use Rattle.frame_codec.specs.Writing.{no_flags}
use Rattle.log_traffic.specs.declared.cutting.Cut.{Cut}
use Rattle.log_traffic.specs.declared.cutting.DatagramKind.{DatagramKind}
use Rattle.log_traffic.specs.declared.cutting.DatagramKind.TheVariants as kinds
use Rattle.log_traffic.specs.declared.cutting.Next.{Next}
use Rattle.log_traffic.specs.declared.cutting.Pace.{Pace}
use Rattle.term_log.specs.declared.ident.Ident.{Ident}
use Rattle.term_log.specs.Frames.{total}
use Rattle.term_log.specs.Ident.{place_at}
use Rattle.term_log.specs.Log.{Log}
use Rattle.term_log.specs.Reading.{all_given, sent_bytes}
use Rattle.term_log.specs.Sender.{is_past, is_setup_due}
use Rattle.term_log.specs.SenderSteps.{IsStartIn, datagram_cut, next_frames, sent_on, setup_cut}
use Rattle.term_log.specs.Whole.{Stands, Whole, is_connected}

-- ---- what is due

-- some frame may be sent
abbrev pub has_frames : Whole → Bool
has_frames w = nat_lt 0 (length (next_frames w))

-- the first that is
abbrev pub due_among : Bool → Bool → Bool → Option DatagramKind
due_among setup frames beat =
    if setup then Some kinds.Setup else if frames then Some kinds.Frames else if beat then Some kinds.Heartbeat else None

unfoldable pub due_of : Pace → ℕ → Whole → Option DatagramKind
due_of pace now w =
    due_among (is_setup_due w.sender (is_connected w now pace.connection_timeout) now pace.setup_interval) (has_frames w)
    (is_past now w.sender.datagram pace.heartbeat_interval)

-- ---- its bytes

-- a SETUP says where the sender stands, by term and offset
abbrev pub setup_at : Ident → ℕ → Setup
setup_at i position = record {
  flags = no_flags;
  term_offset = position % i.term_length;
  session_id = i.session;
  stream_id = i.stream;
  initial_term_id = i.initial_term;
  active_term_id = term_id_of i.initial_term position i.term_length;
  term_length = pos i.term_length;
  mtu = pos i.mtu;
  ttl = pos 0;
}

-- of a publication that lingers the stream has ended
abbrev pub beat_flags : Bool → Flags
beat_flags lingers = record { bits = if lingers then 224 else 192 }

-- a heartbeat says where the sender stands
abbrev pub beat_of : Bool → Ident → ℕ → List ℕ
beat_of lingers i position = beat_bytes (beat_flags lingers) (place_at i position)

-- the frames that the sender's next datagram has, one after another
abbrev pub frames_bytes : Whole → List ℕ
frames_bytes w = sent_bytes (all_given w.ident w.sender.position (next_frames w))

abbrev pub bytes_as : Bool → Whole → DatagramKind → List ℕ
bytes_as lingers w kinds.Setup = setup_bytes (setup_at w.ident w.sender.position)
bytes_as lingers w kinds.Frames = frames_bytes w
bytes_as lingers w kinds.Heartbeat = beat_of lingers w.ident w.sender.position

-- The datagram that is cut, if one is due.
unfoldable pub datagram_of : Pace → ℕ → Bool → Whole → Option (List ℕ)
datagram_of pace now lingers w = option_map (bytes_as lingers w) (due_of pace now w)

-- ---- what becomes of the log

abbrev pub after_due : ℕ → Whole → Option DatagramKind → Whole
after_due now w None = w
after_due now w (Some kinds.Setup) = setup_cut now w
after_due now w (Some kinds.Frames) = datagram_cut now (sent_on w)
after_due now w (Some kinds.Heartbeat) = datagram_cut now w

-- The log moves on by what was cut, whoever gets it.
unfoldable pub cut_of : Pace → ℕ → Whole → Whole
cut_of pace now w = after_due now w (due_of pace now w)

-- by what is cut
abbrev pub passed : ℕ → DatagramKind → Whole → Whole
passed now kind w = after_due now w (Some kind)

-- how many positions its frames take
abbrev pub span_of : Whole → DatagramKind → ℕ
span_of w kinds.Frames = total (next_frames w)
span_of w kind = 0

-- ---- of a log that is held, whichever whole log it stands for

pub record IsDue (pace : Pace) (now : ℕ) (l : Log) (due : Option DatagramKind) : Type 0 where
  pub on : (w : Whole) → Stands l w → due ≡ due_of pace now w

-- a datagram is due
pub record SomeDue (pace : Pace) (now : ℕ) (l : Log) : Type 0 where
  pub on : (w : Whole) → Stands l w → is_some (due_of pace now w) ≡ true

abbrev pub kind_next : Option Next → Option DatagramKind
kind_next next = option_map (λ (n : Next). n.cut.kind) next

abbrev pub bytes_next : Option Next → Option (List ℕ)
bytes_next next = option_map (λ (n : Next). n.bytes.items) next

-- the datagram that is due, if one is
pub record IsNext (pace : Pace) (now : ℕ) (lingers : Bool) (l : Log) (next : Option Next) : Type 0 where
  pub on : (w : Whole) → Stands l w → (kind_next next ≡ due_of pace now w) × (bytes_next next ≡ datagram_of pace now lingers w)

-- the log can move on by it: its frames are those that may be sent, and where they end a frame begins, or the last one ends
pub record IsCut (l : Log) (cut : Cut) : Type 0 where
  pub within : l.sender.position + cut.span ≤ l.kept.tail
  pub fits : l.sender.position + cut.span < 2 ^ 64
  pub start : IsStartIn l (l.sender.position + cut.span)
  pub on : (w : Whole) → Stands l w → cut.span ≡ span_of w cut.kind

abbrev pub CanPass : Log → Option Next → Type 0
CanPass l None = Unit {0}
CanPass l (Some next) = IsCut l next.cut
