use Rattle.std.proofs.Common.{◌≡◌, ◌++◌, drop, map}
use Rattle.std.specs.Prelude.{filter}
use Rattle.log_readers.specs.Turnover.{pair_at}
use Rattle.log_readers.proofs.telling.push_row.Given as goal

-- the pairs so far, and then those of the numbers that are left
abbrev pub invariant-loop-number : goal.invariant-loop-number
invariant-loop-number g l =
    l.pairs ++ filter (g.S.Test.keeps l.test) (map (pair_at l.source) (drop l.number-index l.numbers))
    ≡ l.initial.pairs ++ filter (g.S.Test.keeps l.test) (map (pair_at l.source) l.numbers)
