-- Rules that are over, and rules that end soon.
use Rattle.std.specs.Prelude.{◌≡◌, ◌+◌, ◌≤◌, ◌&&◌, ℕ, Bool, true, false, List, [], ◌∷◌, ◌++◌, Option, Some, None, nat_le, nat_lt, slice_get, if◌then◌else◌}
use Rattle.policy_core.specs.declared.rule.Rule.{Rule}
use Rattle.policy_core.specs.Moments.{stands_at}
use Rattle.policy_lint.specs.declared.ending.Ended.{Ended}
use Rattle.policy_lint.specs.declared.ending.Ends.{Ends}
use Rattle.policy_lint.specs.declared.ending.Ends.TheVariants.{Past, Soon}

-- the rule at this place stands at no moment from this one on
abbrev pub IsGone : List Rule → ℕ → ℕ → Type 0
IsGone rules moment at = (later : ℕ) (rule : Rule) → moment ≤ later → slice_get rules at ≡ Some rule → stands_at rule later ≡ false

-- ---- which are found

-- an end that has come at the moment, or that comes after it and within the period
abbrev pub is_among : Ends → ℕ → Bool
is_among (Past moment) until = nat_le until moment
is_among (Soon moment period) until = nat_lt moment until && nat_le until (moment + period)

-- a rule at this place, where it has an end that passes
abbrev pub ended_by : ℕ → (ℕ → Bool) → Option ℕ → List Ended
ended_by at test None = []
ended_by at test (Some until) = if test until then record { at = at; until = until } ∷ [] else []

-- of the rules, whose places count from this one, each with an end that passes
abbrev pub ended_from : ℕ → (ℕ → Bool) → List Rule → List Ended
ended_from at test [] = []
ended_from at test (rule ∷ rules) = ended_by at test rule.until ++ ended_from (at + 1) test rules

-- the end is that of the rule at this place, and passes
pub record IsEnd (rules : List Rule) (test : ℕ → Bool) (ended : Ended) : Type 0 where
  pub end : (rule : Rule) → slice_get rules ended.at ≡ Some rule → rule.until ≡ Some ended.until
  pub passes : test ended.until ≡ true

-- the rules that end within the period, where one is given
abbrev pub ending_of : ℕ → Option ℕ → List Rule → List Ended
ending_of moment None rules = []
ending_of moment (Some period) rules = ended_from 0 (is_among (Soon moment period)) rules
