-- What bounds of rules come to.
use Rattle.std.specs.Prelude.{◌≡◌, ◌≤◌, ◌<◌, ◌⊎◌, ℕ, Bool, true, Option, Some, None, nat_lt, slice_get}
use Rattle.policy_core.specs.declared.rule.Rule.{Rule}
use Rattle.policy_core.specs.Moments.{at}
use Rattle.policy_core.specs.Question.{Question}
use Rattle.policy_core.specs.RuleList.{Rules}
use Rattle.policy_core.specs.Rules.{verdict_of}

-- the moment is before that one, if there is one
abbrev pub is_before : ℕ → Option ℕ → Bool
is_before moment None = true
is_before moment (Some bound) = nat_lt moment bound

-- it is allowed at this moment or at a later one
abbrev pub IsEverAllowed : Rules → ℕ → Question → Type 0
IsEverAllowed policy moment question =
    (later : ℕ) × (moment ≤ later) × ((verdict_of (at policy later) 0 question).allow ≡ true)

-- a rule begins or ends at this moment
abbrev pub IsBoundOf : Rules → ℕ → Type 0
IsBoundOf policy bound =
    (place : ℕ) × (rule : Rule) × (slice_get policy.rules place ≡ Some rule) × ((rule.from ≡ Some bound) ⊎ (rule.until ≡ Some bound))

-- it is a bound after the moment, and no such bound comes before it
pub record IsLeastAfter (policy : Rules) (moment bound : ℕ) : Type 0 where
  pub is_bound : IsBoundOf policy bound
  pub after : moment < bound
  pub least : (other : ℕ) → IsBoundOf policy other → moment < other → bound ≤ other
