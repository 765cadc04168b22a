-- What holds of the frames of a datagram that was read (Aeron Transport Protocol Specification, data frame and padding).
use Rattle.std.specs.Prelude.{◌≡◌, ℕ, ◌%◌, ◌<◌, ◌≤◌, ◌^◌, ◌⊎◌, List, [], ◌∷◌, length}
use Rattle.frame_codec.specs.declared.header.TermPlace.{TermPlace}
use Rattle.frame_codec.specs.Fields.{byte_at, half_at, number_at}
use Rattle.frame_codec.specs.Header.{header_of, kind_number}
use Rattle.frame_codec.specs.Frame.{Sent}

-- one data frame without its filling, or one pad by its header alone
abbrev pub IsLaidOut : List ℕ → Type 0
IsLaidOut bytes =
    ((half_at 6 bytes ≡ 1) × (number_at 0 bytes ≡ length bytes))
    ⊎ ((half_at 6 bytes ≡ 0) × (length bytes ≡ 32) × (0 < number_at 0 bytes) × (number_at 0 bytes % 32 ≡ 0))

-- the bytes of a frame in the layout
pub record IsSound (bytes : List ℕ) : Type 0 where
  pub version : byte_at 4 bytes ≡ 0
  pub header : 32 ≤ length bytes
  pub layout : IsLaidOut bytes
  pub short : number_at 0 bytes < 2 ^ 31
  pub offset : number_at 8 bytes < 2 ^ 31
  pub aligned : number_at 8 bytes % 32 ≡ 0

-- a frame of sound bytes, with the header that stands in them
pub record IsTold (frame : Sent) : Type 0 where
  pub sound : IsSound frame.bytes
  pub kind : half_at 6 frame.bytes ≡ kind_number frame.header.kind
  pub header : frame.header ≡ header_of frame.header.kind (number_at 0 frame.bytes) (number_at 8 frame.bytes) frame.bytes

abbrev pub AreTold : List Sent → Type 0
AreTold [] = Unit {0}
AreTold (frame ∷ later) = IsTold frame × AreTold later

-- two places of one session, one stream and one term
pub record IsBeside (here there : TermPlace) : Type 0 where
  pub session_id : there.session_id ≡ here.session_id
  pub stream_id : there.stream_id ≡ here.stream_id
  pub term_id : there.term_id ≡ here.term_id

-- all frames are of the session, the stream and the term of a place
abbrev pub AreBeside : TermPlace → List Sent → Type 0
AreBeside place [] = Unit {0}
AreBeside place (frame ∷ later) = IsBeside place frame.header.place × AreBeside place later

-- there are frames, and all of them are of one session, one stream and one term
abbrev pub AreOfOneTerm : List Sent → Type 0
AreOfOneTerm [] = ⊥
AreOfOneTerm (frame ∷ later) = AreBeside frame.header.place later
