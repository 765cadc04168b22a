-- What a policy decides: the first rule that matches gives its word, else the default stands.
use Rattle.std.specs.Prelude.{◌≡◌, ℕ, ◌+◌, ◌<◌, Bool, true, false, List, map, position, Option, Some, None, slice_get, slice_index_or}
use Rattle.policy_core.specs.declared.rule.Rule.{Rule}
use Rattle.policy_core.specs.declared.verdict.Verdict.{Verdict}
use Rattle.policy_core.specs.Question.{Question}
use Rattle.policy_core.specs.Rule.{matches}
use Rattle.policy_core.specs.RuleList.{Rules}

-- by the rule at this index, whose word this is; rules count from 1
abbrev pub ruled : Bool → ℕ → ℕ → Verdict
ruled allow index epoch = record { allow = allow; rule = Some (index + 1); epoch = epoch }

-- by the default
abbrev pub defaulted : Bool → ℕ → Verdict
defaulted allow epoch = record { allow = allow; rule = None; epoch = epoch }

-- the word of the rule at this index
abbrev pub word_at : List Rule → ℕ → Bool
word_at rules index = slice_index_or (map (λ rule. rule.allow) rules) index false

abbrev pub verdict_at : Rules → ℕ → Option ℕ → Verdict
verdict_at policy epoch (Some index) = ruled (word_at policy.rules index) index epoch
verdict_at policy epoch None = defaulted policy.default_allows epoch

-- the verdict of the policy, whose number is `epoch`
unfoldable pub verdict_of : Rules → ℕ → Question → Verdict
verdict_of policy epoch question =
    verdict_at policy epoch (position (λ rule. matches rule question) policy.rules)

-- some rule matches
abbrev pub SomeRuleMatches : List Rule → Question → Type 0
SomeRuleMatches rules question =
    (index : ℕ) × (rule : Rule) × (slice_get rules index ≡ Some rule) × (matches rule question ≡ true)

-- no rule matches
abbrev pub NoRuleMatches : List Rule → Question → Type 0
NoRuleMatches rules question =
    (index : ℕ) (rule : Rule) → slice_get rules index ≡ Some rule → matches rule question ≡ false

-- this rule stands at this index and matches, and none before it does
pub record IsFirstMatch (rules : List Rule) (question : Question) (index : ℕ) (rule : Rule) : Type 0 where
  pub stands : slice_get rules index ≡ Some rule
  pub is_match : matches rule question ≡ true
  pub none_before : (j : ℕ) (earlier : Rule) → j < index → slice_get rules j ≡ Some earlier → matches earlier question ≡ false
