-- Words that others chose, as they stand on a line. Own rules. Printable ASCII goes from the space, 32, to `~`, 126; `<` is 60
-- and `>` is 62.
use Rattle.std.specs.Prelude.{ℕ, Bool, not, ◌&&◌, ◌==◌, nat_le, List, [], ◌∷◌, ◌++◌, if◌then◌else◌}
use Rattle.std.specs.Fmt.{decimal}
use Rattle.std.specs.List.{flat_map, list_all}
use Rattle.std.specs.Str.{chars}

abbrev pub is_plain : ℕ → Bool
is_plain letter = nat_le 32 letter && nat_le letter 126

-- nothing but printable ASCII
abbrev pub all_plain : List ℕ → Bool
all_plain letters = list_all is_plain letters

-- what stands for a character: itself where it is printable ASCII, and else its code point, as `<27>`
abbrev pub shown : ℕ → List ℕ
shown letter = if is_plain letter then letter ∷ [] else 60 ∷ (decimal letter ++ (62 ∷ []))

-- a text in UTF-8, with what stands for each of its characters
abbrev pub plain : List ℕ → List ℕ
plain text = flat_map shown (chars text)

-- no character is a `<`
abbrev pub lacks_mark : List ℕ → Bool
lacks_mark letters = list_all (λ letter. not (letter == 60)) letters
