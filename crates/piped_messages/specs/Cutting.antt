-- How input is cut into messages. Own rules.
use Rattle.std.specs.Prelude.{ℕ, ◌+◌, ◌==◌, nat_le, Bool, true, false, List, [], ◌∷◌, Option, Some, None, drop, length, max, position, take, if◌then◌else◌}
use Rattle.piped_messages.specs.declared.cutting.Cut.{Cut}
use Rattle.piped_messages.specs.declared.cutting.Cut.TheVariants.{Lines, Pieces}

-- what is left at the end is the last message
abbrev pub all_of : List ℕ → Option (List ℕ × List ℕ)
all_of [] = None
all_of (byte ∷ bytes) = Some (byte ∷ bytes, [])

-- cut at the first line feed: it belongs to neither side
abbrev pub at_feed : Bool → List ℕ → Option ℕ → Option (List ℕ × List ℕ)
at_feed ended bytes (Some place) = Some (take place bytes, drop (place + 1) bytes)
at_feed true bytes None = all_of bytes
at_feed false bytes None = None

abbrev pub first_line : Bool → List ℕ → Option (List ℕ × List ℕ)
first_line ended bytes = at_feed ended bytes (position (λ b. b == 10) bytes)

abbrev pub first_piece : Bool → ℕ → List ℕ → Option (List ℕ × List ℕ)
first_piece ended count bytes =
    if nat_le count (length bytes) then Some (take count bytes, drop count bytes)
    else if ended then all_of bytes
    else None

-- the first message of the input, and what stands after it; none where more has to come first
abbrev pub first_message : Cut → Bool → List ℕ → Option (List ℕ × List ℕ)
first_message Lines ended bytes = first_line ended bytes
first_message (Pieces count) ended bytes = first_piece ended (max count 1) bytes
