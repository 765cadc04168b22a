-- How long a word says.
use Rattle.std.specs.Prelude.{ℕ, List, [], ◌∷◌, Option, codes}
use Rattle.channel_uri.specs.Quantity.{measured}

-- the units of a period, in nanoseconds
abbrev pub period_units : List (List ℕ × ℕ)
period_units =
    (codes "d", 86400000000000) ∷ (codes "h", 3600000000000) ∷ (codes "m", 60000000000) ∷ (codes "s", 1000000000) ∷ []

-- a number before its unit, or of nanoseconds alone, that comes to less than 2^63
unfoldable pub period_of : List ℕ → Option ℕ
period_of text = measured period_units text
