use Rattle.std.proofs.Common.{◌≡◌, ◌++◌, drop, map, filter}
use Rattle.stream_registry.specs.Lingering.{is_closing, place_of}
use Rattle.stream_registry.proofs.streams.Streams.closing.Given as goal

-- the logs so far, and then those of the publications that are left
abbrev pub invariant-loop-log : goal.invariant-loop-log
invariant-loop-log l =
    l.logs ++ map place_of (filter (is_closing l.now l.silent) (drop l.log-index l.self.sources))
    ≡ map place_of (filter (is_closing l.now l.silent) l.self.sources)
