-- Frames as they are handed to a log (Aeron Transport Protocol Specification, data frame and padding).
use Rattle.std.specs.Prelude.{◌≡◌, ℕ, List, [], ◌∷◌}
use Rattle.frame_codec.specs.declared.header.TermPlace.{TermPlace}
use Rattle.frame_codec.specs.Fields.{number_at, signed_at}
use Rattle.frame_codec.specs.Frame.{padded}
use Rattle.frame_codec.specs.Position.{position_of}
use Rattle.frame_codec.specs.Sound.{IsSound}
use Rattle.image_log.specs.Frame.{Frame}
use Rattle.image_log.specs.declared.ident.Ident.{Ident}

-- how many positions a frame takes: the length that its header states, rounded up to a multiple of 32
unfoldable pub span_of : List ℕ → ℕ
span_of bytes = padded (number_at 0 bytes)

-- the term offset that its header states
unfoldable pub offset_of : List ℕ → ℕ
offset_of bytes = number_at 8 bytes

-- the position of a place in the stream
abbrev pub position_in : Ident → TermPlace → ℕ
position_in ident place = position_of ident.initial_term_id place.term_id place.term_offset ident.term_length

-- a frame of the log's session and stream, at its header's position
pub record IsFor (ident : Ident) (position : ℕ) (bytes : List ℕ) : Type 0 where
  pub sound : IsSound bytes
  pub session : signed_at 12 bytes ≡ ident.session_id
  pub stream : signed_at 16 bytes ≡ ident.stream_id
  pub at : position ≡ position_of ident.initial_term_id (signed_at 20 bytes) (number_at 8 bytes) ident.term_length

-- each frame is one of the log's session and stream, at its position, and takes as many positions as its header says
abbrev pub AreFor : Ident → List Frame → Type 0
AreFor ident [] = Unit {0}
AreFor ident (f ∷ fs) = IsFor ident f.position f.bytes × (f.span ≡ span_of f.bytes) × AreFor ident fs
