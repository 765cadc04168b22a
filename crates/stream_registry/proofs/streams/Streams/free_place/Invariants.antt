use Rattle.std.proofs.Common.{◌≡◌, None, drop}
use Rattle.stream_registry.specs.LogPages.{fits}
use Rattle.stream_registry.proofs.PageLemmas.{least_end}
use Rattle.stream_registry.proofs.streams.Streams.free_place.Given as goal

-- the logs that are left decide
abbrev pub invariant-loop-log : goal.invariant-loop-log
invariant-loop-log l =
    least_end (fits l.logs l.arena_pages l.pages) (drop l.log-index l.logs) l.least
    ≡ least_end (fits l.logs l.arena_pages l.pages) l.logs None
