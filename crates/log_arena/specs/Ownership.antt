-- What the parts of a region own.
use Rattle.std.specs.Prelude.{◌≡◌, ℕ, ◌+◌, ◌≤◌, ◌⊎◌, List, length, refl}
use Rattle.std.specs.Coded.{Coded, code_by, coded×, coded_ℕ}
use base.Fraction.{full_share}
use base.Fml.{Fml}
use denote.Builtin.{u8}
use denote.Array.{Array}
use denote.RawPtr.{Ptr, coded_ptr, lies_at, block_of, count_of}

-- the bytes xs lie at p, and whoever has this may read and write them
abbrev pub run_owns : Ptr → List ℕ → Fml
run_owns p xs = lies_at (Array u8 (length xs)) full_share p xs

-- where the bytes of a `Vec` begin, and how many there are
pub record Extent : Type 0 where
  pub ptr : Ptr
  pub len : ℕ

-- stored as a pair
abbrev pub extent_code : Coded Extent
extent_code = code_by (Ptr × ℕ) (coded× coded_ptr coded_ℕ) (λ e. (e.ptr, e.len)) (λ p. record { ptr = p.0; len = p.1 }) (λ _. refl)

-- m bytes at p and n bytes at q share none: in one block, one of the two ends before the other begins
abbrev pub Apart : Ptr → ℕ → Ptr → ℕ → Type 0
Apart p m q n = block_of p ≡ block_of q → (count_of p + m ≤ count_of q) ⊎ (count_of q + n ≤ count_of p)
