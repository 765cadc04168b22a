use Rattle.std.proofs.Common.{◌≤◌, vec_capacity}
use Rattle.compiled_policy.specs.Line.{AreStarts}
use Rattle.compiled_policy.proofs.line.cut_by.Given as goal

-- the ends of the ranges so far
abbrev pub invariant-loop-place : goal.invariant-loop-place
invariant-loop-place l = AreStarts l.rules l.place l.starts.items × (2049 ≤ vec_capacity l.starts)
