use Rattle.std.specs.List.{All}
use Rattle.policy_lint.specs.Nobody.{IsUnmet}
use Rattle.policy_lint.proofs.unmet.unmet_in.Given as goal

abbrev pub invariant-loop-at : goal.invariant-loop-at
invariant-loop-at l = All (IsUnmet l.source.policy) l.found.items
