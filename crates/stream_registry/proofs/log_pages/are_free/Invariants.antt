use Rattle.std.proofs.Common.{◌≡◌, drop}
use Rattle.std.specs.List.{list_any}
use Rattle.stream_registry.specs.LogPages.{holds_some}
use Rattle.stream_registry.proofs.log_pages.are_free.Given as goal

-- the logs that are left decide
abbrev pub invariant-loop-log : goal.invariant-loop-log
invariant-loop-log l =
    list_any (holds_some l.pages l.place) (drop l.log-index l.logs) ≡ list_any (holds_some l.pages l.place) l.logs
