-- The rule that decides what is asked.
use Rattle.std.specs.Prelude.{ℕ, Option, Some, None, List}
use Rattle.policy_core.specs.declared.rule.Rule.{Rule}
use Rattle.policy_core.specs.Question.{Question}
use Rattle.policy_core.specs.Rules.{NoRuleMatches, IsFirstMatch}

-- the place of the first rule that matches, if any does
abbrev pub IsDecider : List Rule → Question → Option ℕ → Type 0
IsDecider rules question None = NoRuleMatches rules question
IsDecider rules question (Some index) = (rule : Rule) × IsFirstMatch rules question index rule
