use Rattle.std.proofs.Common.{◌≡◌, take}
use Rattle.std.specs.List.{list_any}
use Rattle.policy_core.specs.Act.{every_act}
use Rattle.policy_table.specs.Rows.{alike}
use Rattle.policy_table.proofs.groups.is_repeated.Given as goal

abbrev pub invariant-loop-before : goal.invariant-loop-before
invariant-loop-before l = l.found ≡ list_any (λ before. alike l.rules l.asker before l.act) (take l.before every_act)
