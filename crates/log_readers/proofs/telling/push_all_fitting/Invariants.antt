use Rattle.std.proofs.Common.{◌≡◌, ◌++◌, drop}
use Rattle.std.specs.Prelude.{filter}
use Rattle.log_readers.specs.Turnover.{is_of_number, told_to}
use Rattle.stream_registry.specs.Wish.{row_of}
use Rattle.log_readers.proofs.telling.push_all_fitting.Given as goal

-- the pairs so far, and then those of the logs that are left
abbrev pub invariant-loop-at : goal.invariant-loop-at
invariant-loop-at l =
    l.pairs ++ filter (is_of_number l.wish.number) (told_to (row_of l.wish) (drop l.at l.logs) (drop l.at l.slots))
    ≡ l.initial.pairs ++ filter (is_of_number l.wish.number) (told_to (row_of l.wish) l.logs l.slots)
