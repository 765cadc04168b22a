-- Where the client of an id stands.
use Rattle.std.specs.Prelude.{ℕ, suc, ◌==◌, List, [], ◌∷◌, Option, Some, None, if◌then◌else◌}
use Rattle.client_registry.specs.declared.client.Client.{Client}

-- one place further on
abbrev pub next_place : Option ℕ → Option ℕ
next_place None = None
next_place (Some at) = Some (suc at)

abbrev pub place_of : ℕ → List Client → Option ℕ
place_of number [] = None
place_of number (client ∷ rows) = if client.number == number then Some 0 else next_place (place_of number rows)
