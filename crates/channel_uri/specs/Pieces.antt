-- The pieces of a text, one after the other, and what each adds to a table.
use Rattle.std.specs.Prelude.{◌≡◌, ℕ, ◌+◌, ◌≤◌, ◌==◌, List, [], Option, Some, None, Result, Ok, Err, length}
use Rattle.std.specs.List.{slice_split}
use Rattle.channel_uri.specs.declared.error.UriError.{UriError}
use Rattle.channel_uri.specs.Keys.{Pair, put}
use Rattle.channel_uri.specs.Syntax.{cut, halves_from, pair_of, pair_read}
use Rattle.channel_uri.specs.Table.{Stored}

-- the first piece, and the text after the `|` that follows it, where there is one
abbrev pub first_piece : List ℕ → List ℕ × Option (List ℕ)
first_piece text = halves_from text (cut 124 text)

-- the pieces that are left
abbrev pub pieces_in : Option (List ℕ) → List (List ℕ)
pieces_in None = []
pieces_in (Some text) = slice_split (λ b. b == 124) text

-- the piece is a pair, which is put among the others
pub record IsPairPut (old : Stored) (piece : List ℕ) (new : Stored) : Type 0 where
  pub pair : Pair
  pub read : pair_of piece ≡ Ok pair
  pub pairs : new.pairs ≡ put old.pairs (pair_read pair)
  pub used : new.used ≤ old.used + length piece
  pub few : length new.pairs ≤ length old.pairs + 1
  pub long : 2 ≤ length piece

-- the pair that the piece is was put among the others, or the piece is none
abbrev pub PutsPiece : Stored → List ℕ → Stored → Result Unit UriError → Type 0
PutsPiece old piece new (Ok done) = IsPairPut old piece new
PutsPiece old piece new (Err error) = pair_of piece ≡ Err error
