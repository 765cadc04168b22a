-- What an operator is told of decisions. Own rules.
use Rattle.std.specs.Prelude.{◌≡◌, ◌≤◌, ◌++◌, ◌+◌, ◌-◌, ◌^◌, ℕ, List, drop, length, min}

-- Of all that was ever decided the end is kept, after what came before. From a number on, so many are passed over, and those after
-- them are told, 256 at most: none twice, none left out between two, and none that was not decided.
abbrev pub IsPage : {D : Type 0} → List D → List D → ℕ → List D → ℕ → Type 0
IsPage {D} before kept from told count =
    (passed later : List D) × (drop from (before ++ kept) ≡ passed ++ (told ++ later)) × (length passed ≡ count) × (length told ≤ 256)

-- The number of what comes after those that are told: after so many that are passed over and so many that are told, and never past
-- all that were decided.
abbrev pub next_of : ℕ → ℕ → ℕ → ℕ → ℕ
next_of from passed told all = min (min (from + passed + told) (2 ^ 64 - 1)) (min all (2 ^ 64 - 1))
