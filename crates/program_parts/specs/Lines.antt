-- Lines that wait to be written, and how many of a door's are said in a second. Own rules.
use Rattle.std.specs.Prelude.{ℕ, ◌+◌, ◌-◌, ◌^◌, ◌==◌, Bool, min, nat_lt, if◌then◌else◌}
use Rattle.program_parts.specs.declared.lines.Pace.{Pace}

-- one more, as far as 64 bits count
abbrev pub one_more : ℕ → ℕ
one_more count = min (count + 1) (2 ^ 64 - 1)

-- how many of a door's lines were said in that second
abbrev pub said_in : ℕ → Pace → ℕ
said_in second pace = if pace.second == second then pace.said else 0

-- one more may be said while fewer than ten were
abbrev pub may_say : ℕ → Pace → Bool
may_say second pace = nat_lt (said_in second pace) 10

-- the line is said, or is one more that was not
abbrev pub after_line : ℕ → Pace → Pace
after_line second pace =
    if may_say second pace then record { second = second; said = said_in second pace + 1; unsaid = pace.unsaid }
    else record { second = second; said = said_in second pace; unsaid = one_more pace.unsaid }

-- those that were not said are told once their second is over
abbrev pub untold : ℕ → Pace → ℕ
untold second pace = if pace.second == second then 0 else pace.unsaid

abbrev pub after_telling : ℕ → Pace → Pace
after_telling second pace = if pace.second == second then pace else record pace { unsaid = 0 }
