use Rattle.std.specs.Prelude.{ℕ, List, Option, Some, codes, if◌then◌else◌}
use Rattle.std.specs.Map.{lookup}
use Rattle.std.specs.Str.{bytes_eq}

-- names with their numbers, in the order in which they were given
abbrev pub Known : Type 0
Known = List (List ℕ × ℕ)

-- the number of a name: `nobody` is 0, another one has the number that it was given first
unfoldable pub number_of : List ℕ → Known → Option ℕ
number_of name names = if bytes_eq name (codes "nobody") then Some 0 else lookup (bytes_eq name) names
