use Rattle.std.proofs.Common.{◌≡◌, ℕ, ◌<◌, false, get_or}
use Rattle.policy_lint.specs.Hiding.{hides}
use Rattle.policy_lint.proofs.hiding.first_hider.Given as goal

-- no rule so far hides it by itself
abbrev pub invariant-loop-place : goal.invariant-loop-place
invariant-loop-place l = (k : ℕ) → k < l.place → hides (get_or l.source.policy.rules k l.narrow) l.narrow ≡ false
