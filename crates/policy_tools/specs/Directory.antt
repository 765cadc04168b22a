-- The name by which an answer speaks of a principal.
use Rattle.std.specs.Prelude.{◌≡◌, ℕ, ◌==◌, List, [], ◌∷◌, Option, Some, None, All, codes, true, if◌then◌else◌}
use Rattle.door_names.specs.Names.{is_name}
use Rattle.policy_text.specs.Names.{Known}

-- the first name with that number
abbrev pub first_of : ℕ → Known → Option (List ℕ)
first_of number [] = None
first_of number (name ∷ names) = if name.1 == number then Some name.0 else first_of number names

-- principal 0 is `nobody`, whatever else is given
abbrev pub name_of : ℕ → Known → Option (List ℕ)
name_of number names = if number == 0 then Some (codes "nobody") else first_of number names

-- each of them can be the name of a door
abbrev pub AreNames : Known → Type 0
AreNames names = All (λ known. is_name known.0 ≡ true) names
