-- Bytes as a script writes them: two lower-case hexadecimal digits for each, `-` for none.
use Rattle.std.specs.Prelude.{ℕ, ◌+◌, ◌-◌, ◌*◌, ◌==◌, List, [], ◌∷◌, ◌++◌, Option, Some, None, option_and_then, length, slice_index, codes, if◌then◌else◌}
use Rattle.std.specs.Option.{option_map}
use Rattle.std.specs.Int.{is_in_range}
use Rattle.std.specs.Str.{bytes_eq}
use Rattle.script_lines.specs.Pieces.{pieces}

infixl 10 ◌>>=◌
-- goes on with what was read, where it is that
abbrev pub ◌>>=◌ : {A B : Type 0} → Option A → (A → Option B) → Option B
read >>= next = option_and_then next read

-- the value of a digit: `0` to `9`, `a` to `f`
abbrev pub digit_of : ℕ → Option ℕ
digit_of c =
    if is_in_range 48 57 c then Some (c - 48)
    else if is_in_range 97 102 c then Some (c - 97 + 10)
    else None

-- the byte of two digits
abbrev pub byte_of : ℕ → ℕ → Option ℕ
byte_of high low = digit_of high >>= λ h. digit_of low >>= λ l. Some (16 * h + l)

-- what was read, after this front
abbrev pub behind : List ℕ → Option (List ℕ) → Option (List ℕ)
behind front read = option_map (λ rest. front ++ rest) read

-- the bytes of digits that stand two by two
abbrev pub bytes_of : List ℕ → Option (List ℕ)
bytes_of [] = Some []
bytes_of (high ∷ []) = None
bytes_of (high ∷ low ∷ rest) = byte_of high low >>= λ byte. behind (byte ∷ []) (bytes_of rest)

-- the bytes of one group after another
abbrev pub groups_of : List (List ℕ) → Option (List ℕ)
groups_of [] = Some []
groups_of (group ∷ groups) = bytes_of group >>= λ front. behind front (groups_of groups)

-- the bytes of a word; `_` may stand between two of them, once or more, and nowhere else
unfoldable pub hex_of : List ℕ → Option (List ℕ)
hex_of word =
    if bytes_eq word (codes "-") then Some []
    else if length word == 0 then None
    else if slice_index word 0 == 95 then None
    else if slice_index word (length word - 1) == 95 then None
    else groups_of (pieces 95 word)
