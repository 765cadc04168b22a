-- What becomes of a whole log as its sender goes on (Aeron Transport Protocol Specification, flow control by status
-- messages, SETUP frames and heartbeats).
use Rattle.std.specs.Prelude.{◌≡◌, ℕ, ◌+◌, ◌/◌, true, min, List}
use Rattle.term_log.specs.declared.status.Status.{Status}
use Rattle.term_log.specs.Frames.{Frame, total}
use Rattle.term_log.specs.Log.{Log}
use Rattle.term_log.specs.Reading.{Given, all_given, spans, of_term, within}
use Rattle.term_log.specs.Sender.{status_of, after_status, after_setup, later_of, budget_of}
use Rattle.term_log.specs.Kept.{IsStart}
use Rattle.term_log.specs.Whole.{Whole, Stands, frames_behind}

-- its sender has sent up to there
unfoldable pub sent_to : ℕ → Whole → Whole
sent_to position w = record w { sender = record w.sender { position = position } }

-- what a status message is answered, of whose window half a term counts at most
abbrev pub status_to : Whole → ℕ → ℕ → Status
status_to w position window = status_of w.sender position (min window (w.ident.term_length / 2))

-- a status message came
unfoldable pub heard : ℕ → ℕ → ℕ → Whole → Whole
heard now position window w = record w { sender = after_status (status_to w position window) now w.sender }

-- a SETUP is asked for
unfoldable pub elicited : Whole → Whole
elicited w = record w { sender = record w.sender { elicited = true } }

-- a SETUP was cut
unfoldable pub setup_cut : ℕ → Whole → Whole
setup_cut now w = record w { sender = after_setup now w.sender }

-- a datagram of frames, or a heartbeat, was cut
unfoldable pub datagram_cut : ℕ → Whole → Whole
datagram_cut now w = record w { sender = record w.sender { datagram = later_of w.sender.datagram now } }

-- in each whole log that a log stands for, a position is where a frame begins, or after the last one
pub record IsStartIn (l : Log) (at : ℕ) : Type 0 where
  pub on : (w : Whole) → Stands l w → IsStart w.ident.start w.frames at

-- the frames of one term from a position on, as far as a budget goes
unfoldable pub frames_for : Whole → ℕ → ℕ → List Frame
frames_for w position budget = within budget (of_term w.ident.term_length position (frames_behind position w.ident.start w.frames))

-- what is read from a position on where a frame begins, and how many positions it takes
pub record ReadsFrom (l : Log) (position budget : ℕ) (left : List Given) : Type 0 where
  pub on : (w : Whole) → Stands l w → IsStart w.ident.start w.frames position
      → (left ≡ all_given w.ident position (frames_for w position budget)) × (spans left ≡ total (frames_for w position budget))

-- the frames of the sender's next datagram: those from where it stands on that the MTU and its limit admit
abbrev pub next_frames : Whole → List Frame
next_frames w = frames_for w w.sender.position (budget_of w.sender w.ident.mtu)

-- its sender has sent these
unfoldable pub sent_on : Whole → Whole
sent_on w = sent_to (w.sender.position + total (next_frames w)) w
