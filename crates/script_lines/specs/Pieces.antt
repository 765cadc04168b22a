-- A text cut at each byte of one value: a script into lines, a line into words, hex into groups.
use Rattle.std.specs.Prelude.{ℕ, ◌==◌, List, [], Option, Some, None}
use Rattle.std.specs.List.{slice_split}

-- what stands before, between and after the marks: one piece more than there are marks
abbrev pub pieces : ℕ → List ℕ → List (List ℕ)
pieces mark text = slice_split (λ b. b == mark) text

-- the pieces of the text after a mark; none where there was no mark
abbrev pub pieces_behind : ℕ → Option (List ℕ) → List (List ℕ)
pieces_behind mark None = []
pieces_behind mark (Some text) = pieces mark text
