use Rattle.std.specs.List.{All}
use Rattle.policy_lint.specs.Hiding.{AreFound, IsHiddenBy}
use Rattle.policy_lint.proofs.hiding.hidden_in.Given as goal

abbrev pub invariant-loop-at : goal.invariant-loop-at
invariant-loop-at l = record {
  sound : All (λ hidden. IsHiddenBy l.source.policy.rules hidden.at hidden.by.items) l.found.items;
  found : AreFound l.source.policy.rules l.found.items l.at;
}
