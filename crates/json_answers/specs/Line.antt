-- An answer on one line.
use Rattle.std.specs.Prelude.{◌≡◌, ◌++◌, ◌∷◌, [], ℕ, List}
use Rattle.serde_json.specs.Data.{Data}
use Rattle.serde_json.specs.Written.{IsInOrder}

-- the line is JSON, with each member and each item of the value once and in its place, and a line feed
pub record IsLine (line : List ℕ) (content : Data) : Type 0 where
  pub json : List ℕ
  pub is_json : IsInOrder json content
  pub whole : line ≡ json ++ 10 ∷ []
