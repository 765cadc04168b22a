use Rattle.std.proofs.Common.{◌≡◌, map, take}
use Rattle.policy_table.specs.Rows.{all_groups}
use Rattle.policy_table.specs.declared.scope.Asker.TheVariants.{One}
use Rattle.policy_table.proofs.table.groups_of_all.Given as goal

-- the groups of the principals so far
abbrev pub invariant-loop-at : goal.invariant-loop-at
invariant-loop-at l = l.groups.items ≡ all_groups l.rules (map One (take l.at l.named.items))
