use Rattle.std.proofs.Common.{◌≡◌, ◌++◌, drop, filter}
use Rattle.counters.specs.Counters.{is_visible}
use Rattle.counters.proofs.counters.Counters.visible.Given as goal

-- the counters shown so far, and then those to be shown of the ones that are left
abbrev pub invariant-loop-counter : goal.invariant-loop-counter
invariant-loop-counter l =
    l.shown ++ filter (is_visible l.policy l.principal) (drop l.counter-index l.self) ≡ filter (is_visible l.policy l.principal) l.self
