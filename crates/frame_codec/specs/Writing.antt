-- What is written, and where.
use Rattle.std.specs.Prelude.{◌≡◌, ℕ, ℤ, List, [], ◌∷◌, ◌++◌, length, drop}
use Rattle.std.specs.Int.{w32, cast_unsigned}
use Rattle.byteorder.specs.Endian.{little_bytes}
use Rattle.frame_codec.specs.declared.flags.Flags.{Flags}

-- the lowest n bytes of a number, the lowest first
unfoldable pub number_bytes : ℕ → ℕ → List ℕ
number_bytes n x = little_bytes n x

-- a signed number of 32 bits, in two's complement
unfoldable pub signed_bytes : ℤ → List ℕ
signed_bytes z = little_bytes 4 (cast_unsigned w32 z)

-- what every frame begins with: length, version 0, flags, type
unfoldable pub front_bytes : ℕ → Flags → ℕ → List ℕ
front_bytes size flags number = number_bytes 4 size ++ 0 ∷ [] ++ flags.bits ∷ [] ++ number_bytes 2 number

-- no flag
abbrev pub no_flags : Flags
no_flags = record { bits = 0 }

-- the n bytes from a place on are these now, and the others are as they were
pub record Puts (old new : List ℕ) (place n : ℕ) (bytes : List ℕ) : Type 0 where
  pub is : (front rest : List ℕ) → length front ≡ place → old ≡ front ++ rest → new ≡ (front ++ bytes) ++ drop n rest

-- the first n bytes are these now, and the others are as they were
pub record Starts (old new : List ℕ) (n : ℕ) (bytes : List ℕ) : Type 0 where
  pub is : new ≡ bytes ++ drop n old
  pub size : length bytes ≡ n
