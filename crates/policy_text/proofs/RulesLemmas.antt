-- Rules that were read, and those that follow.
use Rattle.std.proofs.Common.{List, ◌++◌, Result, Ok}
use Rattle.policy_core.specs.declared.rule.Rule.{Rule}
use Rattle.policy_text.specs.declared.fault.PolicyFault.{PolicyFault}
use Rattle.policy_text.specs.Fault.{◌>>=◌}

-- these rules and then those, or the fault
abbrev pub after_rules : List Rule → Result (List Rule) PolicyFault → Result (List Rule) PolicyFault
after_rules rules rest = rest >>= λ more. Ok (rules ++ more)
