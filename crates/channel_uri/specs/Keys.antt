use Rattle.std.specs.Prelude.{◌≡◌, ℕ, List, [], ◌∷◌, Option, reverse}
use Rattle.std.specs.Ordering.{nat_cmp}
use Rattle.std.specs.Cmp.Lexicographic.{slice_cmp}
use Rattle.std.specs.declared.cmp.Ordering.{Ordering}
use Rattle.std.specs.declared.cmp.Ordering.TheVariants.{Less}
use Rattle.std.specs.List.{AllByRecursion}
use Rattle.std.specs.BTreeMap.{insert_entry}
use Rattle.std.specs.Map.{lookup}
use Rattle.std.specs.Str.{bytes_eq}

-- a key and its value
abbrev pub Pair : Type 0
Pair = List ℕ × List ℕ

-- the order of bytes, in which keys stand
abbrev pub bytes_cmp : List ℕ → List ℕ → Ordering
bytes_cmp = slice_cmp nat_cmp

-- the value of a key
abbrev pub value_at : List ℕ → List Pair → Option (List ℕ)
value_at key keys = lookup (bytes_eq key) keys

-- the keys with this value for that key, in byte order
abbrev pub put : List Pair → Pair → List Pair
put keys pair = insert_entry bytes_cmp keys pair.0 pair.1

-- each later pair takes the place of an earlier one of its key
abbrev pub kept : List Pair → List Pair → List Pair
kept keys [] = keys
kept keys (pair ∷ pairs) = kept (put keys pair) pairs

-- each key stands before the later ones, byte by byte
abbrev pub InByteOrder : List Pair → Type 0
InByteOrder [] = Unit {0}
InByteOrder (pair ∷ pairs) = AllByRecursion (λ later. bytes_cmp pair.0 later.0 ≡ Less) pairs × InByteOrder pairs

-- the look-ups among the kept keys are those among the pairs from the last one on
abbrev pub LastValueStands : Type 0
LastValueStands = (key : List ℕ) (pairs : List Pair) → value_at key (kept [] pairs) ≡ value_at key (reverse pairs)
