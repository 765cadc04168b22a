use Rattle.std.proofs.Common.{◌≡◌, ◌++◌, take}
use Rattle.std.specs.List.{flat_map}
use Rattle.policy_core.specs.Act.{every_act}
use Rattle.policy_table.specs.Rows.{group_of}
use Rattle.policy_table.proofs.groups.push_groups.Given as goal

abbrev pub invariant-loop-number : goal.invariant-loop-number
invariant-loop-number l = l.groups.items ≡ l.initial.groups.items ++ flat_map (group_of l.rules l.asker) (take l.number every_act)
