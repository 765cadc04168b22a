-- A rule at a place that holds an act and a stream.
use Rattle.std.specs.Prelude.{◌≡◌, ℕ, ℤ, List, Some, slice_get}
use Rattle.policy_core.specs.declared.act.Act.{Act}
use Rattle.policy_core.specs.declared.rule.Rule.{Rule}
use Rattle.policy_lint.specs.Hiding.{Holds}

-- there is a rule at this place, and it holds the act and the stream
pub record HeldAt (rules : List Rule) (place : ℕ) (act : Act) (stream : ℤ) : Type 0 where
  pub rule : Rule
  pub stands : slice_get rules place ≡ Some rule
  pub held : Holds rule act stream
