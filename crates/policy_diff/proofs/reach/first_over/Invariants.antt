use Rattle.std.proofs.Common.{◌≡◌, ℕ, ◌<◌, false, get_or}
use Rattle.policy_tools.specs.Sharing.{is_over}
use Rattle.policy_diff.proofs.reach.first_over.Given as goal

-- no rule so far is over it
abbrev pub invariant-loop-at : goal.invariant-loop-at
invariant-loop-at l = (k : ℕ) → k < l.at → is_over (get_or l.source.policy.rules k l.rule) l.rule ≡ false
