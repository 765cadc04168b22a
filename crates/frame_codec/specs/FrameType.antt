-- What kind of frame stands at the front of bytes (Aeron Transport Protocol Specification, frame headers).
use Rattle.std.specs.Prelude.{ℕ, ◌==◌, nat_lt, not, if◌then◌else◌, List, length, Result, Ok, Err}
use Rattle.frame_codec.specs.declared.fault.BadPacket.{BadPacket}
use Rattle.frame_codec.specs.declared.fault.BadPacket.TheVariants.{TooShort, BadVersion, OtherType}
use Rattle.frame_codec.specs.declared.frame_type.FrameType.{FrameType}
use Rattle.frame_codec.specs.declared.frame_type.FrameType.TheVariants.{Pad, Data, Nak, StatusMessage, Setup}
use Rattle.frame_codec.specs.Steps.{◌>>=◌}
use Rattle.frame_codec.specs.Fields.{byte_at, half_at}

-- the type numbers
abbrev pub type_numbered : ℕ → Result FrameType BadPacket
type_numbered number =
    if number == 0 then Ok Pad
    else if number == 1 then Ok Data
    else if number == 2 then Ok Nak
    else if number == 3 then Ok StatusMessage
    else if number == 5 then Ok Setup
    else Err OtherType

-- how many bytes a frame of a type has at least
abbrev pub type_size : FrameType → ℕ
type_size Pad = 32
type_size Data = 32
type_size Nak = 28
type_size StatusMessage = 36
type_size Setup = 40

abbrev pub sized : List ℕ → FrameType → Result FrameType BadPacket
sized bytes kind = if nat_lt (length bytes) (type_size kind) then Err TooShort else Ok kind

-- eight bytes at least, version 0, a type that is known, and as many bytes as it needs, in this order
unfoldable pub type_of : List ℕ → Result FrameType BadPacket
type_of bytes =
    if nat_lt (length bytes) 8 then Err TooShort
    else if not (byte_at 4 bytes == 0) then Err BadVersion
    else type_numbered (half_at 6 bytes) >>= sized bytes
