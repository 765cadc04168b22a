-- What was dropped, lost or kept back, and how often: a plain list, in the order in which each happened first. Own rules.
use Rattle.std.specs.Prelude.{ℕ, ◌+◌, ◌-◌, ◌^◌, ◌==◌, ◌&&◌, Bool, true, false, min, nat_lt, length, map, List, [], ◌∷◌, ◌++◌, Option, Some, None, if◌then◌else◌}
use Rattle.std.specs.List.{list_any}
use Rattle.channel_uri.specs.Address.{is_same}
use Rattle.drop_tallies.specs.declared.miss.Miss.{Miss}
use Rattle.drop_tallies.specs.declared.miss.Miss.TheVariants.{Unread, NoStream, Stranger, OutOfWindow, Full, Empty, Lingering, Busy, NoMemory, Denied, Withheld, QueueFull, BadSetup, NoSubscription, Unimaged, TooMany, NoRoom, Unsent, Unheard}
use Rattle.drop_tallies.specs.declared.repairs.Repairs.{Repairs}
use Rattle.drop_tallies.specs.declared.tally.Tally.{Tally}
use Rattle.policy_core.specs.declared.verdict.Verdict.{Verdict}

-- each cause has a number of its own
abbrev pub rank_of : Miss → ℕ
rank_of Unread = 0
rank_of NoStream = 1
rank_of Stranger = 2
rank_of OutOfWindow = 3
rank_of Full = 4
rank_of Empty = 5
rank_of Lingering = 6
rank_of Busy = 7
rank_of NoMemory = 8
rank_of Denied = 9
rank_of Withheld = 10
rank_of QueueFull = 11
rank_of BadSetup = 12
rank_of NoSubscription = 13
rank_of Unimaged = 14
rank_of TooMany = 15
rank_of NoRoom = 16
rank_of Unsent = 17
rank_of Unheard = 18

abbrev pub is_same_rule : Option ℕ → Option ℕ → Bool
is_same_rule (Some one) (Some other) = one == other
is_same_rule (Some one) None = false
is_same_rule None (Some other) = false
is_same_rule None None = true

abbrev pub is_same_verdict : Option Verdict → Option Verdict → Bool
is_same_verdict (Some one) (Some other) = one.epoch == other.epoch && is_same_rule one.rule other.rule
is_same_verdict (Some one) None = false
is_same_verdict None (Some other) = false
is_same_verdict None None = true

-- of the same cause, by the same rule of the same policy, from or to the same address
abbrev pub is_like : Tally → Tally → Bool
is_like other row =
    (rank_of row.miss == rank_of other.miss && is_same_verdict row.verdict other.verdict)
    && is_same row.address other.address

-- the rows; how often it was something else, once 64 were there; and how often lost data was asked for and sent again
pub record Table : Type 0 where
  pub rows : List Tally
  pub others : ℕ
  pub repairs : Repairs

abbrev pub none : Table
none = record { rows = []; others = 0; repairs = record { heard = 0; asked = 0; resent = 0 } }

abbrev pub has : List Tally → Tally → Bool
has rows other = list_any (is_like other) rows

-- a number stays at the greatest one
abbrev pub one_more : Tally → Tally → Tally
one_more other row = if is_like other row then record row { count = min (row.count + 1) (2 ^ 64 - 1) } else row

unfoldable pub noted : Tally → Table → Table
noted tally table =
    if has table.rows tally then record table { rows = map (one_more tally) table.rows }
    else if nat_lt (length table.rows) 64 then record table { rows = table.rows ++ tally ∷ [] }
    else record table { others = min (table.others + 1) (2 ^ 64 - 1) }
