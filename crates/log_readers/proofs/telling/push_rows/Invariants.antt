use Rattle.std.proofs.Common.{◌≡◌, ◌++◌, drop}
use Rattle.std.specs.Prelude.{filter}
use Rattle.log_readers.specs.Turnover.{told}
use Rattle.log_readers.proofs.telling.push_rows.Given as goal

-- the pairs so far, and then those of the logs that are left
abbrev pub invariant-loop-at : goal.invariant-loop-at
invariant-loop-at g l =
    l.pairs ++ filter (g.S.Test.keeps l.test) (told (drop l.at l.logs) (drop l.at l.slots))
    ≡ l.initial.pairs ++ filter (g.S.Test.keeps l.test) (told l.logs l.slots)
