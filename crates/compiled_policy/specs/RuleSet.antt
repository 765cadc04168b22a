-- Sets of rules, as a bit for each place.
use Rattle.std.specs.Prelude.{◌≡◌, ◌≢◌, ℕ, ◌/◌, ◌%◌, ◌<◌, ◌≤◌, Bool, true, false, Some, List, length, slice_get, slice_index}
use Rattle.std.specs.Int.{bit_at}
use Rattle.compiled_policy.specs.declared.rule_set.RuleSet.{RuleSet}
use Rattle.policy_core.specs.declared.rule.Rule.{Rule}

-- 1 where the set has the rule at this place, and else 0
abbrev pub has : RuleSet → ℕ → ℕ
has set place = bit_at (slice_index set.words (place / 64)) (place % 64)

-- a truth value as a bit
abbrev pub bit_of : Bool → ℕ
bit_of true = 1
bit_of false = 0

-- the sets have no rule
abbrev pub AreEmpty : List RuleSet → Type 0
AreEmpty sets = (row : ℕ) (set : RuleSet) → slice_get sets row ≡ Some set → (place : ℕ) → has set place ≡ 0

-- of the first `end` rules the set has exactly those that pass the test, and it has no other
pub record IsSetOf (rules : List Rule) (test : Rule → Bool) (end : ℕ) (set : RuleSet) : Type 0 where
  pub rule : (place : ℕ) (rule : Rule) → place < end → slice_get rules place ≡ Some rule → has set place ≡ bit_of (test rule)
  pub none : (place : ℕ) → end ≤ place → place < 1024 → has set place ≡ 0

-- each row has the set of the rules that pass its test
pub record AreSetsOf (rules : List Rule) (test : ℕ → Rule → Bool) (end : ℕ) (sets : List RuleSet) : Type 0 where
  pub each : (row : ℕ) (set : RuleSet) → slice_get sets row ≡ Some set → IsSetOf rules (test row) end set

-- the rule at this place is put into the set
pub record Adds (old new : RuleSet) (place : ℕ) : Type 0 where
  pub here : has new place ≡ 1
  pub others : (other : ℕ) → other ≢ place → has new other ≡ has old other

-- the rule at this place is put into the set of each row that is chosen
pub record AddsWhere (old new : List RuleSet) (chosen : ℕ → Bool) (place : ℕ) : Type 0 where
  pub rows : length new ≡ length old
  pub inside : (row : ℕ) (set changed : RuleSet) → chosen row ≡ true → slice_get old row ≡ Some set → slice_get new row ≡ Some changed
      → Adds set changed place
  pub outside : (row : ℕ) → row < length old → chosen row ≡ false → slice_get new row ≡ slice_get old row
