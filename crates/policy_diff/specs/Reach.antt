-- Where in each policy the requests of a rule are all decided.
use Rattle.std.specs.Prelude.{ℕ, Bool, true, false, List, Option, Some, None, nat_le, position}
use Rattle.policy_core.specs.RuleList.{Rules}
use Rattle.policy_core.specs.declared.rule.Rule.{Rule}
use Rattle.policy_tools.specs.Sharing.{is_over}
use Rattle.policy_diff.specs.declared.reach.Reach.{Reach}

-- the place of the first rule that is over this one
abbrev pub first_over : List Rule → Rule → Option ℕ
first_over rules rule = position (λ wide. is_over wide rule) rules

-- the same of both policies
abbrev pub reach_of : Rules → Rules → Rule → Reach
reach_of old new rule = record { old = first_over old.rules rule; new = first_over new.rules rule }

-- what decides stands at this place or before it, where there is one; the default stands after all rules
abbrev pub is_upto : Option ℕ → Option ℕ → Bool
is_upto decider None = true
is_upto None (Some last) = false
is_upto (Some at) (Some last) = nat_le at last
