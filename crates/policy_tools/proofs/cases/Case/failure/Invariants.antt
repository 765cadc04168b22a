use Rattle.std.proofs.Common.{◌≡◌, drop}
use Rattle.policy_tools.specs.Cases.{failure_from}
use Rattle.policy_tools.proofs.cases.Case.failure.Given as goal

-- the principals that are left decide
abbrev pub invariant-loop-name : goal.invariant-loop-name
invariant-loop-name l =
    failure_from l.policy l.self (drop l.name-index l.name-items) ≡ failure_from l.policy l.self l.self.principals
