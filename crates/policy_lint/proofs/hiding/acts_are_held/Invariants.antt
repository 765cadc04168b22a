use Rattle.std.proofs.Common.{◌<◌}
use Rattle.policy_core.specs.declared.act.Act.{Act}
use Rattle.policy_core.specs.Act.{act_number}
use Rattle.policy_lint.specs.Hiding.{ActIsHeld}
use Rattle.policy_lint.proofs.hiding.acts_are_held.Given as goal

abbrev pub invariant-loop-number : goal.invariant-loop-number
invariant-loop-number l = (act : Act) → act_number act < l.number → ActIsHeld l.rules l.places l.at act
