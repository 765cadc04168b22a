-- Frames that are read from a log: what is given of them, and how many bytes of each are sent. The transport's padding
-- is sent as its header alone (Aeron Transport Protocol Specification, padding); the rest are own rules.
use Rattle.std.specs.Prelude.{◌≡◌, ◌≤◌, ℕ, suc, zero, ◌+◌, ◌-◌, ◌%◌, ◌==◌, nat_lt, nat_le, if◌then◌else◌, List, [], ◌∷◌, ◌++◌, length, take, drop, slice_index, Option, Some, None}
use Rattle.byteorder.specs.Endian.{little_number}
use Rattle.frame_codec.specs.Frame.{padded}
use Rattle.term_log.specs.declared.ident.Ident.{Ident}
use Rattle.term_log.specs.declared.reading.Content.{Content}
use Rattle.term_log.specs.declared.reading.Content.TheVariants.{Fragment, Pad}
use Rattle.term_log.specs.declared.reading.LogFrame.{LogFrame}
use Rattle.term_log.specs.declared.reading.Frames.{Frames}
use Rattle.term_log.specs.Frames.{Frame, fragment, pad, span, total, front_of}
use Rattle.term_log.specs.Kept.{Kept, StandsFor}

-- a frame that is read: where it begins, what it is, and the bytes of it that are sent
pub record Given : Type 0 where
  pub position : ℕ
  pub frame : Frame
  pub bytes : List ℕ

abbrev pub frame_of : Content → Frame
frame_of (Fragment flags payload) = fragment flags payload.now
frame_of (Pad size) = pad size

abbrev pub given_of : LogFrame → Given
given_of frame = record { position = frame.position; frame = frame_of frame.content; bytes = frame.bytes.now }

-- ---- of frames as they were appended

abbrev pub given : Ident → ℕ → Frame → Given
given i position f = record { position = position; frame = f; bytes = front_of i position f }

-- frames one after another, the first of them at that position
abbrev pub all_given : Ident → ℕ → List Frame → List Given
all_given i position [] = []
all_given i position (f ∷ fs) = given i position f ∷ all_given i (position + span f) fs

-- how many positions frames take
abbrev pub spans : List Given → ℕ
spans [] = 0
spans (g ∷ gs) = span g.frame + spans gs

-- the first begins at that position, and each other one where the one before it ends
abbrev pub AreFrom : ℕ → List Given → Type 0
AreFrom position [] = Unit {0}
AreFrom position (g ∷ gs) = (g.position ≡ position) × AreFrom (position + span g.frame) gs

-- a frame ends there or below
abbrev pub EndsBy : ℕ → Given → Type 0
EndsBy end g = g.position + span g.frame ≤ end

-- the bytes of frames that are sent, one after another
abbrev pub sent_bytes : List Given → List ℕ
sent_bytes [] = []
sent_bytes (g ∷ gs) = g.bytes ++ sent_bytes gs

-- how many bytes of a frame are sent: all of its range, but of a pad its header alone
abbrev pub sent_size : Frame → ℕ
sent_size (fragment flags payload) = span (fragment flags payload)
sent_size (pad size) = 32

-- the frames up to the end of the term in which the position of the first lies
abbrev pub of_term : ℕ → ℕ → List Frame → List Frame
of_term term position [] = []
of_term term position (f ∷ fs) =
    f ∷ (if nat_le term (position % term + span f) then [] else of_term term (position + span f) fs)

-- the longest run of frames from the first on whose sent sizes add up to at most `budget`
abbrev pub within : ℕ → List Frame → List Frame
within budget [] = []
within budget (f ∷ fs) = if nat_lt budget (sent_size f) then [] else f ∷ within (budget - sent_size f) fs

-- What is given from a position on that is a frame's start or the tail: of all frames from there on, whichever the log
-- stands for, those of one term that the budget admits. (A pad ends its term, so none is given after it.)
pub record GivesFrom (k : Kept) (position budget : ℕ) (left : List Given) : Type 0 where
  pub on : (before after : List Frame) → StandsFor k (before ++ after) → position ≡ k.ident.start + total before
      → left ≡ all_given k.ident position (within budget (of_term k.ident.term_length position after))

-- all frames from there on
pub record GivesAll (k : Kept) (position : ℕ) (left : List Given) : Type 0 where
  pub on : (before after : List Frame) → StandsFor k (before ++ after) → position ≡ k.ident.start + total before
      → left ≡ all_given k.ident position after

-- ---- of any bytes

-- a pad, of which the header is there
abbrev pub pad_at : ℕ → List ℕ → Given
pad_at position bytes = record { position = position; frame = pad (little_number 4 bytes); bytes = take 32 bytes }

-- a data frame of that length
abbrev pub fragment_at : ℕ → ℕ → List ℕ → Given
fragment_at size position bytes = record {
  position = position;
  frame = fragment (record { bits = slice_index bytes 5 }) (drop 32 (take size bytes));
  bytes = take (padded size) bytes;
}

-- a pad, if all of its range is there
abbrev pub pad_of : ℕ → List ℕ → Option Given
pad_of position bytes = if nat_lt (length bytes) (little_number 4 bytes) then None else Some (pad_at position bytes)

-- the frame at the front, if all of its range is there
unfoldable pub first_of : ℕ → List ℕ → Option Given
first_of position bytes =
    if nat_lt (length bytes) 32 then None
    else if slice_index bytes 6 == 0 then pad_of position bytes
    else if nat_lt (little_number 4 bytes) 32 then None
    else if nat_lt (length bytes) (padded (little_number 4 bytes)) then None
    else Some (fragment_at (little_number 4 bytes) position bytes)

-- and if the budget admits it
abbrev pub admitted : ℕ → Option Given → Option Given
admitted budget None = None
admitted budget (Some g) = if nat_lt budget (length g.bytes) then None else Some g

-- the bytes after a frame; after a pad there are none
abbrev pub behind : Given → Frame → List ℕ → List ℕ
behind g (fragment flags payload) bytes = drop (length g.bytes) bytes
behind g (pad size) bytes = []

abbrev pub and_then : Option Given → (Given → List Given) → List Given
and_then None others = []
and_then (Some g) others = g ∷ others g

-- the frames at the front of bytes that end at a position, at most n of them, as far as the budget goes
unfoldable pub frames_in : ℕ → ℕ → ℕ → List ℕ → List Given
frames_in zero end budget bytes = []
frames_in (suc n) end budget bytes =
    and_then (admitted budget (first_of (end - length bytes) bytes)) (λ g. frames_in n end (budget - length g.bytes) (behind g g.frame bytes))

-- the frames that are still to come
unfoldable pub frames_left : Frames → List Given
frames_left frames = frames_in (length frames.rest.now) frames.end frames.budget frames.rest.now

-- the next frame is a data frame of so many bytes that the budget admits, and ends at a position or below
pub record IsPassed (frames : Frames) (position size : ℕ) : Type 0 where
  pub first : admitted frames.budget (first_of (frames.end - length frames.rest.now) frames.rest.now)
      ≡ Some (fragment_at (little_number 4 frames.rest.now) (frames.end - length frames.rest.now) frames.rest.now)
  pub size_is : size ≡ padded (little_number 4 frames.rest.now)
  pub least : 32 ≤ little_number 4 frames.rest.now
  pub there : size ≤ length frames.rest.now
  pub admits : size ≤ frames.budget
  pub before : frames.end - length frames.rest.now + size ≤ position
