-- Streams that the rules of a policy hold alike.
use Rattle.std.specs.Prelude.{◌≡◌, ℕ, ℤ, ◌≤ℤ◌, Bool, true, ◌&&◌, List, drop, int_le}
use Rattle.std.specs.List.{AllByRecursion}
use Rattle.policy_core.specs.declared.rule.Rule.{Rule}

-- the stream lies from one to another
abbrev pub is_within : ℤ → ℤ → ℤ → Bool
is_within low high stream = int_le low stream && int_le stream high

-- the rule's range holds the one stream as the other
abbrev pub HoldsAlike : ℤ → ℤ → Rule → Type 0
HoldsAlike one other rule = is_within rule.low rule.high one ≡ is_within rule.low rule.high other

-- the greatest that is not above either
pub record IsLeast (one other least : ℤ) : Type 0 where
  pub first : least ≤ℤ one
  pub second : least ≤ℤ other
  pub greatest : (stream : ℤ) → stream ≤ℤ one → stream ≤ℤ other → stream ≤ℤ least

-- from `low` to `end`, which is not beyond `high`, the rule's range holds every stream or none
pub record EndsAt (rule : Rule) (low high end : ℤ) : Type 0 where
  pub ahead : low ≤ℤ end
  pub within : end ≤ℤ high
  pub alike : (stream : ℤ) → is_within low end stream ≡ true → HoldsAlike stream low rule

-- so it is of each of these rules
pub record AllEndAt (rules : List Rule) (low high end : ℤ) : Type 0 where
  pub ahead : low ≤ℤ end
  pub within : end ≤ℤ high
  pub alike : (stream : ℤ) → is_within low end stream ≡ true → AllByRecursion (HoldsAlike stream low) rules

-- so it is of those before this place, where it is of those from it on
pub record EndSoFar (rules : List Rule) (at : ℕ) (low high end : ℤ) : Type 0 where
  pub ahead : low ≤ℤ end
  pub within : end ≤ℤ high
  pub alike : (stream : ℤ) → is_within low end stream ≡ true → AllByRecursion (HoldsAlike stream low) (drop at rules)
      → AllByRecursion (HoldsAlike stream low) rules
