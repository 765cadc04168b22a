-- Decimals in the values of a channel.
use Rattle.std.specs.Prelude.{ℕ, ◌==◌, List, Option, Some, None, nat_lt, length, if◌then◌else◌}
use Rattle.std.specs.Char.{is_ascii_digit}
use Rattle.std.specs.List.{list_all}
use Rattle.std.specs.Str.Parse.{digits_value}

infixl 10 ◌>>?◌
-- goes on with what was read, where it was
abbrev pub ◌>>?◌ : {A B : Type 0} → Option A → (A → Option B) → Option B
None >>? next = None
Some value >>? next = next value

-- the value of one or more digits, however many; leading zeros may stand
unfoldable pub decimal_of : List ℕ → Option ℕ
decimal_of text =
    if length text == 0 then None
    else if list_all is_ascii_digit text then Some (digits_value 10 text)
    else None

-- a number that is below the limit
abbrev pub below : ℕ → Option ℕ → Option ℕ
below limit None = None
below limit (Some number) = if nat_lt number limit then Some number else None
