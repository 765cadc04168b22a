-- Several frames of one term in a datagram (Aeron Transport Protocol Specification, data frame).
use Rattle.std.specs.Prelude.{ℕ, suc, zero, ◌+◌, ◌/◌, ◌==◌, nat_lt, if◌then◌else◌, Bool, true, false, not, List, [], ◌∷◌, length, drop, Result, Ok, Err}
use Rattle.std.specs.Ordering.{int_eq}
use Rattle.frame_codec.specs.declared.fault.BadPacket.{BadPacket}
use Rattle.frame_codec.specs.declared.fault.BadPacket.TheVariants.{TooShort, Mixed}
use Rattle.frame_codec.specs.declared.header.Kind.{Kind}
use Rattle.frame_codec.specs.declared.header.Kind.TheVariants.{Data, Pad}
use Rattle.frame_codec.specs.declared.header.Header.{Header}
use Rattle.frame_codec.specs.declared.frames.Frames.{Frames}
use Rattle.frame_codec.specs.Steps.{◌>>=◌}
use Rattle.frame_codec.specs.Frame.{Sent, padded, frame_of}

abbrev pub is_pad : Kind → Bool
is_pad Data = false
is_pad Pad = true

-- the second may stand after the first: the first is no pad, and the second goes on where it ends
unfoldable pub follows : Header → Header → Bool
follows before next =
    if is_pad before.kind then false
    else if not (int_eq next.place.session_id before.place.session_id) then false
    else if not (int_eq next.place.stream_id before.place.stream_id) then false
    else if not (int_eq next.place.term_id before.place.term_id) then false
    else next.place.term_offset == before.place.term_offset + padded before.length

-- the bytes after a frame and its filling
abbrev pub behind : Sent → List ℕ → List ℕ
behind frame bytes = drop (padded (length frame.bytes)) bytes

-- a frame that stands after another one
unfoldable pub next_of : Header → List ℕ → Result Sent BadPacket
next_of before bytes =
    if nat_lt (length bytes) 32 then Err TooShort
    else frame_of bytes >>= λ frame. if follows before frame.header then Ok frame else Err Mixed

-- the frames after another one, to the last byte; there are no more of them than n
unfoldable pub later_of : ℕ → Header → List ℕ → Result (List Sent) BadPacket
later_of zero before bytes = Ok []
later_of (suc n) before [] = Ok []
later_of (suc n) before (byte ∷ rest) =
    next_of before (byte ∷ rest) >>= λ frame. later_of n frame.header (behind frame (byte ∷ rest)) >>= λ later. Ok (frame ∷ later)

-- each has a byte at least, so there are no more of them than bytes
abbrev pub all_later : Header → List ℕ → Result (List Sent) BadPacket
all_later before bytes = later_of (length bytes) before bytes

-- the frames of a datagram, to its last byte
unfoldable pub frames_of : List ℕ → Result (List Sent) BadPacket
frames_of bytes = do
  frame ← frame_of bytes
  later ← all_later frame.header (behind frame bytes)
  Ok (frame ∷ later)

-- the frames from the front on, at most n, as far as there are sound ones
abbrev pub and_then : Result Sent BadPacket → (Sent → List Sent) → List Sent
and_then (Ok frame) others = frame ∷ others frame
and_then (Err fault) others = []

unfoldable pub frames_in : ℕ → List ℕ → List Sent
frames_in zero bytes = []
frames_in (suc n) bytes = and_then (frame_of bytes) (λ frame. frames_in n (behind frame bytes))

-- the frames that are still to come
unfoldable pub frames_left : Frames → List Sent
frames_left frames = frames_in (length frames.rest.now) frames.rest.now

-- as many as there could be, each of at least 32 bytes
abbrev pub most_left : Frames → ℕ
most_left frames = length frames.rest.now / 32
