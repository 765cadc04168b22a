use Rattle.std.proofs.Common.{ℕ, ◌<◌, get_or}
use Rattle.policy_lint.proofs.OverLemmas.{Found}
use Rattle.policy_lint.proofs.hiding.are_over.Given as goal

abbrev pub invariant-loop-place : goal.invariant-loop-place
invariant-loop-place l = (k : ℕ) → k < l.place-index → Found l.source.policy.rules l.at (get_or l.places k 0)
