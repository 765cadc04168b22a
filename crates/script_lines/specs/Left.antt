-- What a reader of statements has before it.
use Rattle.std.specs.Prelude.{◌≡◌, ℕ, ◌+◌, Bool, true, false, List, [], ◌∷◌, Option, Some, None, option_copied}
use Rattle.script_lines.specs.declared.statements.Statement.{Statement}
use Rattle.script_lines.specs.declared.statements.Statements.{Statements}
use Rattle.script_lines.specs.Pieces.{pieces_behind}
use Rattle.script_lines.specs.Statements.{Place, Before, Behind, statements_from}

-- the lines that are left
abbrev pub lines_left : Statements → List (List ℕ)
lines_left reader = pieces_behind 10 (option_copied reader.rest)

abbrev pub place_of : Bool → Place
place_of false = Before
place_of true = Behind

-- the statements that are left, from a place on
abbrev pub left_from : Place → Statements → List Statement
left_from place reader = statements_from place reader.number (lines_left reader)

abbrev pub left : Statements → List Statement
left reader = left_from (place_of reader.opened) reader

-- a line was taken
pub record TakesLine (old new : Statements) (number : ℕ) (line : List ℕ) : Type 0 where
  pub lines : lines_left old ≡ line ∷ lines_left new
  pub number_is : number ≡ old.number
  pub next_is : new.number ≡ old.number + 1
  pub opened_is : new.opened ≡ old.opened

-- a statement was taken, or there is none any more
abbrev pub Takes : List Statement → List Statement → Option Statement → Type 0
Takes old new None = (old ≡ []) × (new ≡ [])
Takes old new (Some statement) = old ≡ statement ∷ new

-- a line gave a statement, or it is the statements after it that stand here
abbrev pub GoesOn : List Statement → List Statement → Option Statement → Type 0
GoesOn old new None = old ≡ new
GoesOn old new (Some statement) = old ≡ statement ∷ new
