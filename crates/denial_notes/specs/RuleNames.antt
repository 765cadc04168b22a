-- What the rules of a policy are called. Own rules.
use Rattle.std.specs.Prelude.{ℕ, ◌==◌, ◌-◌, List, Option, Some, None, map, slice_get, if◌then◌else◌}
use Rattle.policy_core.specs.RuleList.{Rules}
use Rattle.policy_core.specs.declared.rule.Rule.{Rule}
use Rattle.policy_core.specs.declared.verdict.Verdict.{Verdict}

-- the number of a policy, and the names of its rules in their order
pub record Called : Type 0 where
  pub epoch : ℕ
  pub names : List (List ℕ)

abbrev pub name_in : Rule → List ℕ
name_in rule = rule.name

abbrev pub called_of : ℕ → Rules → Called
called_of epoch policy = record { epoch = epoch; names = map name_in policy.rules }

-- the rule of that number, counted from 1
abbrev pub numbered : Option ℕ → List (List ℕ) → Option (List ℕ)
numbered None names = None
numbered (Some number) names = if number == 0 then None else slice_get names (number - 1)

-- the name of the rule that decided, where it is one of that policy
abbrev pub name_of : Verdict → Called → Option (List ℕ)
name_of verdict called = if verdict.epoch == called.epoch then numbered verdict.rule called.names else None
