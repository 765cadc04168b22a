use Rattle.std.specs.Prelude.{Bool, List}
use Rattle.policy_core.specs.declared.rule.Rule.{Rule}

-- a policy: its rules in their order, and the word that stands where none of them matches
pub record Rules : Type 0 where
  pub rules : List Rule
  pub default_allows : Bool
