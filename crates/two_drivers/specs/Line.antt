-- The frames of a publication as a receiver of its stream keeps them: one after another, at their positions. Own rules.
use Rattle.std.specs.Prelude.{◌≡◌, ℕ, ◌+◌, ◌%◌, ◌≤◌, List, [], ◌∷◌, ◌++◌, map}
use Rattle.frame_codec.specs.Written.{Written, part, padding, written_frame}
use Rattle.image_log.specs.Frame.{Frame as Kept, framed, end_of}
use Rattle.image_log.specs.Polling.{polled_frame}
use Rattle.image_log.specs.declared.ident.Ident.{Ident as StreamIdent}
use Rattle.log_pairs.specs.Polling.{Fetched, behind, fragments_of}
use Rattle.term_log.specs.Frames.{Frame, fragment, pad, pad_flags, span, total}
use Rattle.term_log.specs.Ident.{place_at}
use Rattle.term_log.specs.Polling.{polled_run}
use Rattle.term_log.specs.declared.ident.Ident.{Ident}

-- the frame as it is written
abbrev pub written_as : Ident → ℕ → Frame → Written
written_as i position (fragment flags payload) = part flags (place_at i position) payload
written_as i position (pad size) = padding pad_flags (place_at i position) size

-- and as it is kept: header and payload, or the header of a pad
abbrev pub kept_as : Ident → ℕ → Frame → Kept
kept_as i position f = framed position (span f) (written_frame (written_as i position f)).bytes

-- frames one after another, the first of them at that position
abbrev pub line_of : Ident → ℕ → List Frame → List Kept
line_of i position [] = []
line_of i position (f ∷ fs) = kept_as i position f ∷ line_of i (position + span f) fs

-- the stream of a publication, as its SETUPs give it
abbrev pub stream_of : Ident → StreamIdent
stream_of i = record {
  session_id = i.session;
  stream_id = i.stream;
  initial_term_id = i.initial_term;
  term_length = i.term_length;
}

-- ---- of any line

-- the frames stand one after another from a position on, each takes 32 positions at least, and none crosses the end of a
-- term
abbrev pub IsLine : ℕ → ℕ → List Kept → Type 0
IsLine size position [] = Unit {0}
IsLine size position (f ∷ fs) = (f.position ≡ position) × (32 ≤ f.span) × (f.position % size + f.span ≤ size) × IsLine size (end_of f) fs

-- the frame is one of them
pub record IsIn (line : List Kept) (f : Kept) : Type 0 where
  pub before : List Kept
  pub after : List Kept
  pub is : line ≡ before ++ f ∷ after

-- What was given is what a run of the line's frames carries, each once and in order, pads left out; the run ends at that
-- position. (Before anything is passed it may be any position.)
pub record IsRunTo (line : List Kept) (at : ℕ) (given : List Fetched) : Type 0 where
  pub before : List Kept
  pub run : List Kept
  pub after : List Kept
  pub is : line ≡ before ++ (run ++ after)
  pub ends : behind at (map polled_frame run) ≡ at
  pub given_are : given ≡ fragments_of (map polled_frame run)

-- ---- as the publication has it

-- what was given is what a contiguous run of these frames carries: payloads, flags, and the positions after them; pads carry
-- nothing
pub record IsRunOf (i : Ident) (all : List Frame) (given : List Fetched) : Type 0 where
  pub before : List Frame
  pub run : List Frame
  pub after : List Frame
  pub is : all ≡ before ++ (run ++ after)
  pub given_are : given ≡ fragments_of (polled_run (i.start + total before) run)
