use Rattle.std.proofs.Common.{◌≤ℤ◌, ◌<ℤ◌, ℤ}
use Rattle.policy_lint.specs.Hiding.{IsHeld}
use Rattle.policy_lint.proofs.hiding.first_left.Given as goal

abbrev pub invariant-loop-place : goal.invariant-loop-place
invariant-loop-place l = (stream : ℤ) → l.low ≤ℤ stream → stream <ℤ l.from → IsHeld l.rules l.places l.act stream
