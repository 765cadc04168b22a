-- The words of a line of a file of cases, and the columns at which they stand.
use Rattle.std.specs.Prelude.{ℕ, ◌+◌, ◌-◌, ◌^◌, ◌==◌, Bool, not, List, [], ◌∷◌, ◌++◌, length, filter, min, if◌then◌else◌}
use Rattle.std.specs.List.{slice_split}
use Rattle.std.specs.Str.{chars}

-- each part, cut at each tab
abbrev pub cut_at_tabs : List (List ℕ) → List (List ℕ)
cut_at_tabs [] = []
cut_at_tabs (part ∷ parts) = slice_split (λ b. b == 9) part ++ cut_at_tabs parts

-- the line, cut at each space and at each tab
abbrev pub pieces_of : List ℕ → List (List ℕ)
pieces_of line = cut_at_tabs (slice_split (λ b. b == 32) line)

abbrev pub is_word : List ℕ → Bool
is_word piece = not (length piece == 0)

-- the words are the pieces that are not empty
abbrev pub words_in : List (List ℕ) → List (List ℕ)
words_in pieces = filter is_word pieces

-- so many characters further, up to the greatest number of 64 bits
abbrev pub further : ℕ → ℕ → ℕ
further column count = min (column + count) (2 ^ 64 - 1)

-- the column of the word that so many words precede, where the pieces begin at this column and one blank stands between them; past
-- the last word, that of the line's end
abbrev pub column_from : ℕ → ℕ → List (List ℕ) → ℕ
column_from column place [] = column - 1
column_from column place (piece ∷ pieces) =
    if not (is_word piece) then column_from (further column 1) place pieces
    else if place == 0 then column
    else column_from (further (further column (length (chars piece))) 1) (place - 1) pieces

-- columns count characters from 1
abbrev pub column_of : List (List ℕ) → ℕ → ℕ
column_of pieces place = column_from 1 place pieces
