-- Turns of several that share one wire: how many each has ended since the wire's own turn last ended.
use Rattle.std.specs.Prelude.{ℕ, ◌+◌, ◌-◌, ◌^◌, Bool, List, get_or, min, nat_lt, slice_set}
use Rattle.std.specs.List.{list_all}

-- one more at this place, as far as a number of 8 bits counts
abbrev pub one_ended : List ℕ → ℕ → List ℕ
one_ended turns place = slice_set turns place (min (get_or turns place 0 + 1) (2 ^ 8 - 1))

-- of two turns' ends the second ends a turn that began after the wire's own last turn
abbrev pub are_whole : List ℕ → Bool
are_whole turns = list_all (λ count. nat_lt 1 count) turns
