-- A log as if all frames that were ever appended to it were kept: what becomes of it, and which log stands for it.
use Rattle.std.specs.Prelude.{◌≡◌, ℕ, ◌+◌, ◌/◌, Bool, not, List, [], ◌∷◌, ◌++◌, map, nat_le, Option, Some, None, if◌then◌else◌}
use Rattle.log_pairs.specs.Pairs.{AreAt, position_of, moved_one, rejoined_pairs}
use Rattle.log_pairs.specs.Polling.{Fetched, Polled, behind, passed, fragments_of}
use Rattle.log_pairs.specs.declared.pair.Pair.{Pair}
use Rattle.term_log.specs.declared.ident.Ident.{Ident}
use Rattle.term_log.specs.declared.offer.Offer.{Offer}
use Rattle.term_log.specs.Frames.{Frame, span, total}
use Rattle.term_log.specs.Kept.{IsStart, StandsFor}
use Rattle.term_log.specs.Log.{Log, limit_among, connected_among, answer_of, appended_at}
use Rattle.term_log.specs.Polling.{polled_run}
use Rattle.term_log.specs.Sender.{Sending, sending, is_past}

-- what it was made for, all frames that were ever appended, who reads it with their positions, and what its sender keeps
pub record Whole : Type 0 where
  pub ident : Ident
  pub frames : List Frame
  pub pairs : List Pair
  pub sender : Sending

-- the position after the last frame
abbrev pub tail_of : Whole → ℕ
tail_of w = w.ident.start + total w.frames

-- no offer is taken from this position on
abbrev pub limit_at : Whole → ℕ
limit_at w = limit_among w.ident.kind (tail_of w) (w.ident.term_length / 2) w.sender.position w.pairs

-- whether anybody takes what is sent
abbrev pub is_connected : Whole → ℕ → ℕ → Bool
is_connected w now timeout = connected_among w.ident.kind w.pairs (not (is_past now w.sender.status timeout))

-- ---- what becomes of it

-- a log that begins
abbrev pub fresh : Ident → Whole
fresh i = record { ident = i; frames = []; pairs = []; sender = sending i.start }

-- what a message is answered that is offered
abbrev pub answer_to : Whole → List ℕ → Offer
answer_to w message = answer_of w.ident (tail_of w) (limit_at w) message

-- the message is appended, or a pad over the rest of the term, or nothing
unfoldable pub offered : Whole → List ℕ → Whole
offered w message = record w { frames = w.frames ++ appended_at (answer_to w message) w.ident (tail_of w) message }

-- exactly these subscriptions read from now on: one that was there from where it is, a new one from the tail
unfoldable pub rejoined : List ℕ → Whole → Whole
rejoined subscriptions w = record w { pairs = rejoined_pairs (tail_of w) w.pairs subscriptions }

-- the same of what is held
unfoldable pub rejoined_kept : List ℕ → Log → Log
rejoined_kept subscriptions l = record l { pairs = rejoined_pairs l.kept.tail l.pairs subscriptions }

-- the frames that begin at a position or after it, the first of all at `position`
abbrev pub frames_behind : ℕ → ℕ → List Frame → List Frame
frames_behind at position [] = []
frames_behind at position (f ∷ fs) = if nat_le at position then f ∷ fs else frames_behind at (position + span f) fs

-- what a poll gives, and what it leaves
pub record Poll : Type 0 where
  pub fragments : List Fetched
  pub after : Whole

-- these frames are passed from a position on
abbrev pub passes : Whole → ℕ → ℕ → List Polled → Poll
passes w subscription at frames = record {
  fragments = fragments_of frames;
  after = record w { pairs = map (moved_one subscription (behind at frames)) w.pairs };
}

-- a subscription that does not read the log is given nothing
abbrev pub polled_from : Whole → ℕ → ℕ → Option ℕ → Poll
polled_from w subscription limit None = record { fragments = []; after = w }
polled_from w subscription limit (Some at) =
    passes w subscription at (passed limit (polled_run at (frames_behind at w.ident.start w.frames)))

-- A poll of a subscription: from its position on frame by frame, until so many fragments were given or there are no
-- more. Pads are passed uncounted; it then stands after what was passed.
unfoldable pub polled : Whole → ℕ → ℕ → Poll
polled w subscription limit = polled_from w subscription limit (position_of w.pairs subscription)

-- ---- which log stands for it

abbrev pub AreStarts : ℕ → List Frame → List Pair → Type 0
AreStarts position frames pairs = AreAt (IsStart position frames) pairs

-- the log holds of all frames what has to be held, and keeps all else; who reads or sends stands where a frame begins
pub record Stands (l : Log) (w : Whole) : Type 0 where
  pub ident : l.kept.ident ≡ w.ident
  pub frames : StandsFor l.kept w.frames
  pub pairs : l.pairs ≡ w.pairs
  pub sender : l.sender ≡ w.sender
  pub read : AreStarts w.ident.start w.frames w.pairs
  pub sent : IsStart w.ident.start w.frames w.sender.position

-- ---- what calls do, whatever the log stands for

pub record Carries (old new : Log) (f : Whole → Whole) : Type 0 where
  pub on : (w : Whole) → Stands old w → Stands new (f w)

pub record Offers (old new : Log) (message : List ℕ) (answer : Offer) : Type 0 where
  pub on : (w : Whole) → Stands old w → (answer ≡ answer_to w message) × Stands new (offered w message)

-- what a poll is to give
pub record Fetches (l : Log) (subscription limit : ℕ) (fragments : List Fetched) : Type 0 where
  pub on : (w : Whole) → Stands l w → fragments ≡ (polled w subscription limit).fragments
