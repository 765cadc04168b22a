use Rattle.std.proofs.Common.{◌≡◌, ◌+◌, ◌≤◌, drop, length}
use Rattle.std.specs.Prelude.{filter}
use Rattle.stream_registry.specs.Pairs.{fits}
use Rattle.stream_registry.specs.Wish.{row_of}
use Rattle.log_readers.proofs.coming.fitting.Given as goal

-- the logs so far, and those among the ones that are left
abbrev pub invariant-loop-log : goal.invariant-loop-log
invariant-loop-log l =
    (l.found + length (filter (λ log. fits log (row_of l.wish)) (drop l.log-index l.logs))
    ≡ length (filter (λ log. fits log (row_of l.wish)) l.logs))
    × (l.found ≤ l.log-index)
