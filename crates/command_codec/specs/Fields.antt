-- The fields of commands and replies: numbers with the lowest byte first, and byte strings and texts after their length.
-- (The layouts are this project's own.)
use Rattle.std.specs.Prelude.{ℕ, ℤ, ◌<◌, ◌≤◌, ◌≡◌, true, nat_lt, if◌then◌else◌, List, ◌++◌, length, take, drop, slice_index, Result, Ok, Err}
use Rattle.std.specs.Char.{is_ascii}
use Rattle.std.specs.Int.{Width, cast_signed, cast_unsigned}
use Rattle.std.specs.List.{list_all}
use Rattle.byteorder.specs.Endian.{little_bytes, little_number}
use Rattle.command_codec.specs.declared.fault.CommandFault.{CommandFault}
use Rattle.command_codec.specs.declared.fault.CommandFault.TheVariants.{Malformed}
use Rattle.command_codec.specs.Gives.{◌>>=◌}

-- ---- what stands in the bytes

-- the number in the first n bytes
unfoldable pub number_in : ℕ → List ℕ → ℕ
number_in n bytes = little_number n bytes

-- a field is its value and the bytes after it
abbrev pub number_at : ℕ → List ℕ → Result (ℕ × List ℕ) CommandFault
number_at n bytes = if nat_lt (length bytes) n then Err Malformed else Ok (number_in n bytes, drop n bytes)

-- a signed number of the width w, whose n bytes are in two's complement
abbrev pub signed_at : Width → ℕ → List ℕ → Result (ℤ × List ℕ) CommandFault
signed_at w n bytes = number_at n bytes >>= λ x. Ok (cast_signed w x.0, x.1)

-- the greatest length that can be said: it is a signed number of 32 bits
abbrev pub longest : ℕ
longest = 0x7FFFFFFF

-- Bytes after their length, which is a signed number of 32 bits, neither negative nor above the greatest. (Read without
-- its sign, a negative one is above the longest, and so above whichever greatest.)
unfoldable pub bytes_at : ℕ → List ℕ → Result (List ℕ × List ℕ) CommandFault
bytes_at greatest bytes = do
  n ← number_at 4 bytes
  if nat_lt greatest n.0 then Err Malformed
      else if nat_lt (length n.1) n.0 then Err Malformed
      else Ok (take n.0 n.1, drop n.0 n.1)

-- a text: such bytes, all of them ASCII
unfoldable pub text_at : ℕ → List ℕ → Result (List ℕ × List ℕ) CommandFault
text_at greatest bytes = do
  text ← bytes_at greatest bytes
  if list_all is_ascii text.0 then Ok text else Err Malformed

-- no bytes stand after the last field
abbrev pub ended : {X : Type 0} → X → List ℕ → Result X CommandFault
ended x bytes = if nat_lt 0 (length bytes) then Err Malformed else Ok x

-- one number of 64 bits, and nothing else
unfoldable pub one_number : List ℕ → Result ℕ CommandFault
one_number bytes = number_at 8 bytes >>= λ x. ended x.0 x.1

-- two of them, and nothing else
unfoldable pub two_numbers : List ℕ → Result (ℕ × ℕ) CommandFault
two_numbers bytes = do
  first ← number_at 8 bytes
  second ← one_number first.1
  Ok (first.0, second)

-- ---- what is written

-- the lowest n bytes of a number
unfoldable pub number_bytes : ℕ → ℕ → List ℕ
number_bytes n x = little_bytes n x

abbrev pub signed_bytes : Width → ℕ → ℤ → List ℕ
signed_bytes w n z = number_bytes n (cast_unsigned w z)

-- bytes after their length. (Of a length of 2 ^ 32 and above the lowest four bytes are written.)
abbrev pub with_length : List ℕ → List ℕ
with_length bytes = number_bytes 4 (length bytes) ++ bytes

-- ---- what can be read again

-- ASCII, and no longer than the greatest
pub record IsText (greatest : ℕ) (text : List ℕ) : Type 0 where
  pub ascii : list_all is_ascii text ≡ true
  pub length_fits : length text ≤ greatest

-- ---- bytes

abbrev pub IsBytes : List ℕ → Type 0
IsBytes bytes = (i : ℕ) → slice_index bytes i < 256
