-- Which denials of a principal were said lately: each is said when it first comes, and every ten seconds how often it came again. Own rules.
use Rattle.std.specs.Prelude.{ℕ, ◌+◌, ◌-◌, ◌^◌, ◌==◌, Bool, not, ◌&&◌, min, nat_le, nat_lt, length, map, List, [], ◌∷◌, ◌++◌, Option, Some, None, if◌then◌else◌}
use Rattle.std.specs.List.{list_any}
use Rattle.denial_notes.specs.Denials.{is_like}
use Rattle.denial_notes.specs.declared.denial.Denial.{Denial}
use Rattle.denial_notes.specs.declared.notes.Note.{Note}
use Rattle.denial_notes.specs.declared.notes.Repeated.{Repeated}

-- those that were said, in the order in which they were, and how many others came once 16 were there
pub record Table : Type 0 where
  pub rows : List Note
  pub others : ℕ

abbrev pub blank : Table
blank = record { rows = []; others = 0 }

abbrev pub is_of : Denial → Note → Bool
is_of denial row = is_like denial row.denial

abbrev pub has : Denial → List Note → Bool
has denial rows = list_any (is_of denial) rows

-- a number stays at the greatest one
abbrev pub counted_in : Denial → Note → Note
counted_in denial row = if is_of denial row then record row { since = min (row.since + 1) (2 ^ 64 - 1) } else row

-- it was not said lately, and there is room to remember it
abbrev pub is_first : Denial → Table → Bool
is_first denial table = not (has denial table.rows) && nat_lt (length table.rows) 16

unfoldable pub noted : ℕ → Denial → Table → Table
noted now denial table =
    if has denial table.rows then record table { rows = map (counted_in denial) table.rows }
    else if nat_lt (length table.rows) 16
    then record table { rows = table.rows ++ record { denial = denial; said = now; since = 0 } ∷ [] }
    else record table { others = min (table.others + 1) (2 ^ 64 - 1) }

-- ten seconds are over since it was said
abbrev pub is_over : ℕ → Note → Bool
is_over now row = nat_le 10000000000 (now - row.said)

abbrev pub due_of : ℕ → List Note → Option Repeated
due_of now [] = None
due_of now (row ∷ rows) = if is_over now row then Some (record { denial = row.denial; times = row.since }) else None

-- what came again is counted for ten seconds more; what did not is forgotten
abbrev pub counted_on : ℕ → Note → List Note
counted_on now row = if row.since == 0 then [] else record { denial = row.denial; said = now; since = 0 } ∷ []

abbrev pub after_due : ℕ → List Note → List Note
after_due now [] = []
after_due now (row ∷ rows) = if is_over now row then rows ++ counted_on now row else row ∷ rows
