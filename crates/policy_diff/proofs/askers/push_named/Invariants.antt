use Rattle.std.proofs.Common.{take}
use Rattle.policy_diff.specs.Askers.{AddsNamed}
use Rattle.policy_diff.specs.Scope.{is_named}
use Rattle.policy_diff.proofs.askers.push_named.Given as goal

-- the principals that the rules so far name are put in
abbrev pub invariant-loop-at : goal.invariant-loop-at
invariant-loop-at l = AddsNamed l.initial.named.items l.named.items (is_named (take l.at l.rules))
