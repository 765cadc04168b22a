-- Rules that are over another one, place by place.
use Rattle.std.proofs.Common.{◌≡◌, ℕ, ◌<◌, List, Some, get_or, length, slice_get, subst}
use Rattle.std.proofs.lemmas.Option.{get_or_from_slice_get, slice_get_within}
use Rattle.policy_core.specs.declared.rule.Rule.{Rule}
use Rattle.policy_lint.specs.Hiding.{AreOver, IsOverAt}

-- what is found of a place
abbrev pub Found : List Rule → ℕ → ℕ → Type 0
Found rules at place = (place < at) × IsOverAt rules place at

listed_is_found : (rules : List Rule) (places : List ℕ) (at index place : ℕ) → ((k : ℕ) → k < length places → Found rules at (get_or places k 0)) →
    slice_get places index ≡ Some place → Found rules at place
listed_is_found rules places at index place found listed =
    subst (λ (p : ℕ). Found rules at p) (get_or_from_slice_get places index place 0 listed) (found index (slice_get_within places index place listed))

pub are_over_from : (rules : List Rule) (places : List ℕ) (at : ℕ) → ((k : ℕ) → k < length places → Found rules at (get_or places k 0)) → AreOver rules places at
are_over_from rules places at found = record {
  before = λ index place listed. (listed_is_found rules places at index place found listed).0;
  over = λ index place listed. (listed_is_found rules places at index place found listed).1;
}
