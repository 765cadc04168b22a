use Rattle.std.proofs.Common.{◌≡◌, drop}
use Rattle.policy_table.specs.Stretch.{looked, span_at, span_of}
use Rattle.policy_table.proofs.stretch.stretch_of.Given as goal

-- with the rules that are left, the span so far becomes that of all rules
abbrev pub invariant-loop-place : goal.invariant-loop-place
invariant-loop-place l = looked (drop l.place l.rules) l.place l.scope (span_of l.stretch) ≡ span_at l.rules l.scope
