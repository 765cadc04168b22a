-- Copies of fragments, written one after another. Own rules.
use Rattle.std.specs.Prelude.{◌≡◌, ℕ, zero, suc, ◌^◌, ◌<◌, List, [], ◌∷◌, ◌++◌, length, take, drop, slice_index, All}
use Rattle.std.specs.Prelude.{Bool}
use Rattle.std.specs.Cmp.{IsEquivalence, on_equiv}
use Rattle.std.specs.Cmp.Lexicographic.{nat_list_eq_equiv}
use Rattle.std.specs.Str.{bytes_eq}
use Rattle.byteorder.specs.Endian.{little_bytes, little_number}
use Rattle.log_pairs.specs.Polling.{Fetched}

-- the position after the frame in 8 bytes, its flags in one, how many bytes it carries in 8, and these
abbrev pub written_one : Fetched → List ℕ
written_one f = little_bytes 8 f.position ++ (f.flags.bits ∷ [] ++ (little_bytes 8 (length f.payload) ++ f.payload))

abbrev pub written : List Fetched → List ℕ
written [] = []
written (f ∷ fs) = written_one f ++ written fs

-- what can be written
abbrev pub Fits : Fetched → Type 0
Fits f = (f.position < 256 ^ 8) × (length f.payload < 256 ^ 8)

-- bytes that some fragments were written to
pub record AreWritten (bytes : List ℕ) : Type 0 where
  pub fragments : List Fetched
  pub fit : All Fits fragments
  pub is : bytes ≡ written fragments

-- the fragment at the front
abbrev pub read_one : List ℕ → Fetched
read_one bytes = record {
  position = little_number 8 bytes;
  flags = record { bits = slice_index bytes 8 };
  payload = take (little_number 8 (drop 9 bytes)) (drop 17 bytes);
}

abbrev pub behind_one : List ℕ → List ℕ
behind_one bytes = drop (little_number 8 (drop 9 bytes)) (drop 17 bytes)

-- the fragments of bytes, at most n of them
abbrev pub read_most : ℕ → List ℕ → List Fetched
read_most zero bytes = []
read_most (suc n) [] = []
read_most (suc n) (b ∷ bs) = read_one (b ∷ bs) ∷ read_most n (behind_one (b ∷ bs))

unfoldable pub read_all : List ℕ → List Fetched
read_all bytes = read_most (length bytes) bytes

-- the same fragments are written alike
abbrev pub copies_eq : List Fetched → List Fetched → Bool
copies_eq left right = bytes_eq (written left) (written right)

pub copies_eq_equiv : IsEquivalence copies_eq
copies_eq_equiv = on_equiv written nat_list_eq_equiv
