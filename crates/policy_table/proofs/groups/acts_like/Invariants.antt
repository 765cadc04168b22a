use Rattle.std.proofs.Common.{◌≡◌, cond, take}
use Rattle.std.specs.List.{fold}
use Rattle.policy_core.specs.Act.{every_act}
use Rattle.policy_core.specs.Acts.{no_act_held, with_act}
use Rattle.policy_table.specs.Rows.{alike}
use Rattle.policy_table.proofs.groups.acts_like.Given as goal

abbrev pub invariant-loop-number : goal.invariant-loop-number
invariant-loop-number l = l.acts ≡ fold (λ acts other. cond (alike l.rules l.asker l.act other) (with_act acts other) acts) no_act_held (take l.number every_act)
