-- Pairs of a subscription and a log: sixteen bytes each. (The layout is this project's own.)
use Rattle.std.specs.Prelude.{◌≡◌, ◌<◌, ◌^◌, ◌/◌, ℕ, zero, suc, List, [], ◌∷◌, ◌++◌, length, drop, Option, Some, None}
use Rattle.service_records.specs.declared.pairs.FirstPair.{FirstPair}
use Rattle.service_records.specs.Fields.{number_in, number_bytes}

-- so many pairs from the front
unfoldable pub pairs_from : ℕ → List ℕ → List (ℕ × ℕ)
pairs_from zero bytes = []
pairs_from (suc n) bytes = (number_in 8 bytes, number_in 8 (drop 8 bytes)) ∷ pairs_from n (drop 8 (drop 8 bytes))

-- all that are whole
unfoldable pub pairs_of : List ℕ → List (ℕ × ℕ)
pairs_of bytes = pairs_from (length bytes / 16) bytes

-- pairs, as they are written
abbrev pub pairs_bytes : List (ℕ × ℕ) → List ℕ
pairs_bytes [] = []
pairs_bytes (pair ∷ pairs) = (number_bytes 8 pair.0 ++ number_bytes 8 pair.1) ++ pairs_bytes pairs

abbrev pub IsPair : ℕ × ℕ → Type 0
IsPair pair = (pair.0 < 2 ^ 64) × (pair.1 < 2 ^ 64)

-- the first one and what follows it, or that there is none
abbrev pub IsFirst : Option FirstPair → List (ℕ × ℕ) → Type 0
IsFirst None pairs = pairs ≡ []
IsFirst (Some first) pairs = pairs ≡ (first.pair.subscription, first.pair.source) ∷ pairs_of first.rest.now
