use Rattle.std.proofs.Common.{◌≡◌, ◌++◌, drop, map}
use Rattle.std.specs.Prelude.{filter}
use Rattle.log_readers.specs.Turnover.{pair_with}
use Rattle.stream_registry.specs.Pairs.{fits}
use Rattle.stream_registry.specs.Wish.{row_of}
use Rattle.log_readers.proofs.coming.push_fitting.Given as goal

-- the pairs so far, and then those of the logs that are left
abbrev pub invariant-loop-log : goal.invariant-loop-log
invariant-loop-log l =
    l.pairs ++ map (pair_with (row_of l.wish)) (filter (λ log. fits log (row_of l.wish)) (drop l.log-index l.logs))
    ≡ l.initial.pairs ++ map (pair_with (row_of l.wish)) (filter (λ log. fits log (row_of l.wish)) l.logs)
