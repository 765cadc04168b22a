-- Verdicts and what they are by: words that the laws share.
use Rattle.std.specs.Prelude.{◌≡◌, ℕ, ◌+◌, Some, None, ◌⊎◌}
use Rattle.driver_core.specs.State.{State}
use Rattle.policy_core.specs.declared.rule.Rule.{Rule}
use Rattle.policy_core.specs.declared.verdict.Verdict.{Verdict}
use Rattle.policy_core.specs.Question.{Question}
use Rattle.policy_core.specs.RuleList.{Rules}
use Rattle.policy_core.specs.Rules.{verdict_of, IsFirstMatch, NoRuleMatches}

-- the verdict of the policy in force
abbrev pub verdict_on : State → Question → Verdict
verdict_on s question = verdict_of s.policy s.epoch question

-- by the first rule that matches, whose word and number it has
pub record IsByRule (policy : Rules) (epoch : ℕ) (question : Question) (verdict : Verdict) : Type 0 where
  pub index : ℕ
  pub rule : Rule
  pub first : IsFirstMatch policy.rules question index rule
  pub verdict_is : verdict ≡ record { allow = rule.allow; rule = Some (index + 1); epoch = epoch }

-- by the default, where no rule matches
pub record IsByDefault (policy : Rules) (epoch : ℕ) (question : Question) (verdict : Verdict) : Type 0 where
  pub none_matches : NoRuleMatches policy.rules question
  pub verdict_is : verdict ≡ record { allow = policy.default_allows; rule = None; epoch = epoch }

abbrev pub IsByPolicy : State → Question → Verdict → Type 0
IsByPolicy s question verdict =
    IsByRule s.policy s.epoch question verdict ⊎ IsByDefault s.policy s.epoch question verdict
