-- How an open log lies in its memory, be it a publication's or a remote stream's: its frames, what is beside them, and who reads
-- them (Aeron Transport Protocol Specification, data frame, padding and positions; who reads is an own rule).
use Rattle.std.specs.Prelude.{◌≡◌, ℕ, ℤ, ◌+◌, ◌<◌, ◌≤◌, ◌==◌, ◌⊎◌, All, Bool, true, List, [], ◌∷◌}
use Rattle.std.specs.List.{list_any}
use Rattle.frame_codec.specs.Fields.{signed_at}
use Rattle.log_pairs.specs.Pairs.{AreAt}
use Rattle.log_pairs.specs.declared.pair.Pair.{Pair}

-- a frame: its position, how many positions it takes, and the bytes that stand there for it
pub record Placed : Type 0 where
  pub position : ℕ
  pub span : ℕ
  pub bytes : List ℕ

-- the session and the stream of a log; its frames, in the order of their positions; the bytes of its memory beside them; who
-- reads it; and from where and up to where it is read
pub record Layout : Type 0 where
  pub session : ℤ
  pub stream : ℤ
  pub frames : List Placed
  pub beside : List ℕ
  pub pairs : List Pair
  pub low : ℕ
  pub high : ℕ

-- No two frames have a position in common: each begins where the one before it ends or later, and takes some positions. The first
-- begins at `from` or later.
abbrev pub Apart : ℕ → List Placed → Type 0
Apart from [] = Unit {0}
Apart from (f ∷ fs) = (from ≤ f.position) × (0 < f.span) × Apart (f.position + f.span) fs

-- each frame names the session and the stream in its header
abbrev pub AreNamed : ℤ → ℤ → List Placed → Type 0
AreNamed session stream [] = Unit {0}
AreNamed session stream (f ∷ fs) = (signed_at 12 f.bytes ≡ session) × (signed_at 16 f.bytes ≡ stream) × AreNamed session stream fs

-- the frame begins at a position
abbrev pub starts_at : ℕ → Placed → Bool
starts_at position f = f.position == position

-- a reader stands between two positions: at the greater one, or where a frame begins
pub record IsReading (low high : ℕ) (frames : List Placed) (position : ℕ) : Type 0 where
  pub above : low ≤ position
  pub below : position ≤ high
  pub start : (position ≡ high) ⊎ (list_any (starts_at position) frames ≡ true)

-- The frames do not meet, each names the log's session and stream, beside them are zeros, and each reader stands at a frame's start
-- within what is read.
pub record IsWellFormed (log : Layout) : Type 0 where
  pub apart : Apart 0 log.frames
  pub named : AreNamed log.session log.stream log.frames
  pub zeros : All (λ byte. byte ≡ 0) log.beside
  pub reading : AreAt (IsReading log.low log.high log.frames) log.pairs
