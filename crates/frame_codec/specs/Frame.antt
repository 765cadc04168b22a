-- Data frames, pads and heartbeats (Aeron Transport Protocol Specification, data frame, padding and heartbeats).
use Rattle.std.specs.Prelude.{ℕ, ◌+◌, ◌-◌, ◌*◌, ◌/◌, ◌%◌, ◌==◌, ◌^◌, ◌<◌, ◌≤◌, if◌then◌else◌, List, ◌++◌, length, take, replicate, Result, Ok, Err}
use Rattle.frame_codec.specs.declared.fault.BadPacket.{BadPacket}
use Rattle.frame_codec.specs.declared.fault.BadPacket.TheVariants.{BadLength, Mixed}
use Rattle.frame_codec.specs.declared.frame_type.FrameType.{FrameType}
use Rattle.frame_codec.specs.declared.frame_type.FrameType.TheVariants as types
use Rattle.frame_codec.specs.declared.header.Kind.TheVariants.{Data, Pad}
use Rattle.frame_codec.specs.declared.header.Header.{Header}
use Rattle.frame_codec.specs.declared.frame.Frame.{Frame}
use Rattle.frame_codec.specs.Steps.{◌>>=◌}
use Rattle.frame_codec.specs.Fields.{natural_at, stated_length, aligned}
use Rattle.frame_codec.specs.FrameType.{type_of}
use Rattle.frame_codec.specs.Header.{header_of, header_bytes, plain_header}
use Rattle.frame_codec.specs.declared.header.TermPlace.{TermPlace}
use Rattle.frame_codec.specs.declared.flags.Flags.{Flags}
use Rattle.frame_codec.specs.Nak.{nak_of}
use Rattle.frame_codec.specs.StatusMessage.{status_of}
use Rattle.frame_codec.specs.Setup.{setup_of}

-- a length rounded up to a multiple of 32: so much of a term a frame takes
abbrev pub padded : ℕ → ℕ
padded size = (size + 31) / 32 * 32

-- a frame as it stands in a datagram: its header, and all of its bytes, without the filling after them
pub record Sent : Type 0 where
  pub header : Header
  pub bytes : List ℕ

abbrev pub sent : Frame → Sent
sent frame = record { header = frame.header; bytes = frame.bytes.now }

-- the frame's bytes are at least a header, stand in the datagram, and are fewer than 2 ^ 31
abbrev pub IsWithin : Frame → List ℕ → Type 0
IsWithin frame bytes = (32 ≤ length frame.bytes.now) × (length frame.bytes.now ≤ length bytes) × (length frame.bytes.now < 2 ^ 31)

-- a data frame: header and payload, as long as it says
unfoldable pub data_of : List ℕ → Result Sent BadPacket
data_of bytes = do
  size ← stated_length 32 bytes
  offset ← natural_at 8 bytes
  start ← aligned offset
  Ok (record { header = header_of Data size start bytes; bytes = take size bytes })

-- the length of a pad: a positive multiple of 32
abbrev pub pad_length : ℕ → Result ℕ BadPacket
pad_length size =
    if size == 0 then Err BadLength
    else if size % 32 == 0 then Ok size
    else Err BadLength

-- a pad: its header alone, whatever length it has in the term
unfoldable pub pad_of : List ℕ → Result Sent BadPacket
pad_of bytes = do
  stated ← natural_at 0 bytes
  size ← pad_length stated
  offset ← natural_at 8 bytes
  start ← aligned offset
  Ok (record { header = header_of Pad size start bytes; bytes = take 32 bytes })

-- a heartbeat: a header of length 0, at the sender's position
unfoldable pub beat_of : List ℕ → Result Header BadPacket
beat_of bytes = do
  offset ← natural_at 8 bytes
  start ← aligned offset
  Ok (header_of Data 0 start bytes)

-- A frame of a term. A frame of another type is none: it has no place among them, once it is found sound.
abbrev pub frame_as : List ℕ → FrameType → Result Sent BadPacket
frame_as bytes types.Pad = pad_of bytes
frame_as bytes types.Data = data_of bytes
frame_as bytes types.Nak = nak_of bytes >>= λ nak. Err Mixed
frame_as bytes types.StatusMessage = status_of bytes >>= λ status. Err Mixed
frame_as bytes types.Setup = setup_of bytes >>= λ setup. Err Mixed

unfoldable pub frame_of : List ℕ → Result Sent BadPacket
frame_of bytes = type_of bytes >>= frame_as bytes

-- ---- as they are written here

-- the header of a data frame: its length is that of header and payload. (Of a length of 2 ^ 32 and above the lowest
-- four bytes are written.)
abbrev pub data_header : Flags → TermPlace → List ℕ → Header
data_header flags place payload = plain_header Data ((32 + length payload) % 2 ^ 32) flags place

-- a data frame: header, payload, and zeros up to the next multiple of 32
unfoldable pub data_bytes : Flags → TermPlace → List ℕ → List ℕ
data_bytes flags place payload =
    header_bytes (data_header flags place payload) ++ payload ++ replicate (padded (32 + length payload) - (32 + length payload)) 0

-- a pad: its header alone
unfoldable pub pad_bytes : Flags → TermPlace → ℕ → List ℕ
pad_bytes flags place size = header_bytes (plain_header Pad size flags place)

-- a heartbeat
unfoldable pub beat_bytes : Flags → TermPlace → List ℕ
beat_bytes flags place = header_bytes (plain_header Data 0 flags place)
