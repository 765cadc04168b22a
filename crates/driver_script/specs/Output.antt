-- What reaches a writer.
use Rattle.std.specs.Prelude.{◌≡◌, ℕ, List, ◌++◌, Option}
use Rattle.std.specs.Io.KnownBytes.{Appends}

-- the known bytes grow by some front of the text
abbrev pub AppendsFront : Option (List ℕ) → Option (List ℕ) → List ℕ → Type 0
AppendsFront old new text = (front : List ℕ) × (rest : List ℕ) × (text ≡ front ++ rest) × Appends old new front
