use Rattle.std.proofs.Common.{◌≡◌, length}
use Rattle.compiled_policy.specs.Line.{is_on}
use Rattle.compiled_policy.specs.RuleSet.{AreSetsOf}
use Rattle.compiled_policy.proofs.index.fill_intervals.Given as goal

-- the intervals have the rules so far
abbrev pub invariant-loop-place : goal.invariant-loop-place
invariant-loop-place l =
    (length l.intervals ≡ length l.starts)
    × AreSetsOf l.rules (is_on l.starts) l.place l.intervals
