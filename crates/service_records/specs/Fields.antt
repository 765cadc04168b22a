-- The fields of records: numbers with the lowest byte first.
-- (The layouts are this project's own.)
use Rattle.std.specs.Prelude.{ℕ, ℤ, ◌<◌, ◌%◌, ◌==◌, nat_lt, if◌then◌else◌, List, length, drop, slice_index, Result, Ok, Err}
use Rattle.std.specs.Int.{Width, cast_signed, cast_unsigned}
use Rattle.byteorder.specs.Endian.{little_bytes, little_number}
use Rattle.service_records.specs.declared.fault.RecordFault.{RecordFault}
use Rattle.service_records.specs.declared.fault.RecordFault.TheVariants.{Malformed}
use Rattle.service_records.specs.Gives.{◌>>=◌}

-- ---- what stands in the bytes

-- the number in the first n bytes
unfoldable pub number_in : ℕ → List ℕ → ℕ
number_in n bytes = little_number n bytes

-- a field is its value and the bytes after it
abbrev pub number_at : ℕ → List ℕ → Result (ℕ × List ℕ) RecordFault
number_at n bytes = if nat_lt (length bytes) n then Err Malformed else Ok (number_in n bytes, drop n bytes)

-- a signed number of the width w, whose n bytes are in two's complement
abbrev pub signed_at : Width → ℕ → List ℕ → Result (ℤ × List ℕ) RecordFault
signed_at w n bytes = number_at n bytes >>= λ x. Ok (cast_signed w x.0, x.1)

-- no bytes stand after the last field
abbrev pub ended : {X : Type 0} → X → List ℕ → Result X RecordFault
ended x bytes = if nat_lt 0 (length bytes) then Err Malformed else Ok x

-- the rest is pairs of two numbers of eight bytes each, 64 of them at most
abbrev pub paired : {X : Type 0} → X → List ℕ → Result X RecordFault
paired x bytes = if nat_lt 1024 (length bytes) then Err Malformed else (if length bytes % 16 == 0 then Ok x else Err Malformed)

-- ---- what is written

-- the lowest n bytes of a number
unfoldable pub number_bytes : ℕ → ℕ → List ℕ
number_bytes n x = little_bytes n x

abbrev pub signed_bytes : Width → ℕ → ℤ → List ℕ
signed_bytes w n z = number_bytes n (cast_unsigned w z)

-- ---- bytes

abbrev pub IsBytes : List ℕ → Type 0
IsBytes bytes = (i : ℕ) → slice_index bytes i < 256
