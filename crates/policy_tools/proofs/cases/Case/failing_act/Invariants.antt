use Rattle.std.proofs.Common.{◌≡◌, drop}
use Rattle.policy_tools.specs.Cases.{failing_act}
use Rattle.policy_tools.proofs.cases.Case.failing_act.Given as goal

-- the acts that are left decide
abbrev pub invariant-loop-act : goal.invariant-loop-act
invariant-loop-act l =
    failing_act l.policy l.self l.principal (drop l.act-index l.act-items) ≡ failing_act l.policy l.self l.principal l.self.acts
