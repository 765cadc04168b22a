use Rattle.std.proofs.Common.{◌≡◌, ◌++◌, drop, map}
use Rattle.stream_registry.specs.Lingering.{place_of}
use Rattle.driver_core.proofs.rules.terminating.places_of.Given as goal

-- the places so far, and then those of the publications that are left
abbrev pub invariant-loop-log : goal.invariant-loop-log
invariant-loop-log l =
    l.places ++ map place_of (drop l.log-index l.logs) ≡ map place_of l.logs
