-- The fields of a frame, by the place of their first byte in it. Numbers have their lowest byte first
-- (Aeron Transport Protocol Specification, frame headers).
use Rattle.std.specs.Prelude.{ℕ, ℤ, ◌%◌, ◌^◌, ◌<◌, ◌==◌, nat_lt, if◌then◌else◌, List, length, drop, slice_index, Result, Ok, Err}
use Rattle.std.specs.Int.{w32, cast_signed}
use Rattle.byteorder.specs.Endian.{little_number}
use Rattle.frame_codec.specs.declared.fault.BadPacket.{BadPacket}
use Rattle.frame_codec.specs.declared.fault.BadPacket.TheVariants.{BadLength, Unaligned}
use Rattle.frame_codec.specs.Steps.{◌>>=◌}

-- the byte at a place
unfoldable pub byte_at : ℕ → List ℕ → ℕ
byte_at place bytes = slice_index bytes place

-- the numbers in two, four and eight bytes from a place on
unfoldable pub half_at : ℕ → List ℕ → ℕ
half_at place bytes = little_number 2 (drop place bytes)

unfoldable pub number_at : ℕ → List ℕ → ℕ
number_at place bytes = little_number 4 (drop place bytes)

unfoldable pub long_at : ℕ → List ℕ → ℕ
long_at place bytes = little_number 8 (drop place bytes)

-- four bytes as a signed number, in two's complement
unfoldable pub signed_at : ℕ → List ℕ → ℤ
signed_at place bytes = cast_signed w32 (number_at place bytes)

-- a signed number that may not be negative
unfoldable pub natural_at : ℕ → List ℕ → Result ℕ BadPacket
natural_at place bytes = if nat_lt (number_at place bytes) (2 ^ 31) then Ok (number_at place bytes) else Err BadLength

-- the length that a frame states: at least that of its kind, and no more than the bytes that are there
unfoldable pub stated_length : ℕ → List ℕ → Result ℕ BadPacket
stated_length least bytes = natural_at 0 bytes >>= λ stated.
    if nat_lt stated least then Err BadLength
    else if nat_lt (length bytes) stated then Err BadLength
    else Ok stated

-- frames begin at multiples of 32
abbrev pub aligned : ℕ → Result ℕ BadPacket
aligned offset = if offset % 32 == 0 then Ok offset else Err Unaligned

-- a list of bytes
abbrev pub IsBytes : List ℕ → Type 0
IsBytes bytes = (i : ℕ) → slice_index bytes i < 256
