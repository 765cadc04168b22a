use Rattle.std.proofs.Common.{◌≡◌, ◌++◌, drop}
use Rattle.policy_core.specs.Act.{every_act}
use Rattle.policy_tools.proofs.case_lists.every_act.Given as goal

-- the acts so far, with those that are left, are all
abbrev pub invariant-loop-act : goal.invariant-loop-act
invariant-loop-act l = l.acts.items ++ drop l.act-index every_act ≡ every_act
