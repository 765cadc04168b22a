-- What is looked at for a request.
use Rattle.std.specs.Prelude.{◌≡◌, ℕ, ◌+◌, ◌*◌, ◌/◌, ◌%◌, ◌<◌, ◌≤◌, true, false, Option, Some, None, List, bit_and, length, slice_get, slice_index}
use Rattle.std.specs.Int.{bit_at}
use Rattle.compiled_policy.specs.declared.candidates.Candidates.{Candidates}
use Rattle.policy_core.specs.Question.{Question}
use Rattle.policy_core.specs.Rule.{matches}
use Rattle.policy_core.specs.declared.rule.Rule.{Rule}

-- the word of what the sets have in common
abbrev pub common_word : Candidates → ℕ → ℕ
common_word sets word =
    bit_and (bit_and (slice_index sets.group.now.words word) (slice_index sets.class.now.words word)) (slice_index sets.interval.now.words word)

-- the sets have nothing in common from the word `from` to before the word `to`
abbrev pub IsApart : Candidates → ℕ → ℕ → Type 0
IsApart sets from to = (word bit : ℕ) → from ≤ word → word < to → bit_at (common_word sets word) bit ≡ 0

-- the sets have rules alone, and have each rule that matches in common
pub record AreCandidates (rules : List Rule) (question : Question) (sets : Candidates) : Type 0 where
  pub inside : (word bit : ℕ) → word < 16 → bit < 64 → bit_at (common_word sets word) bit ≡ 1 → 64 * word + bit < length rules
  pub all : (place : ℕ) (rule : Rule) → slice_get rules place ≡ Some rule → matches rule question ≡ true
      → bit_at (common_word sets (place / 64)) (place % 64) ≡ 1

-- of the rules from `from` on whose bit the word has, this one is the first that matches
pub record IsFirstOf (rules : List Rule) (question : Question) (word from index : ℕ) (rule : Rule) : Type 0 where
  pub low : from ≤ index
  pub high : index < from + 64
  pub stands : slice_get rules index ≡ Some rule
  pub is_match : matches rule question ≡ true
  pub before : (bit : ℕ) (other : Rule) → from + bit < index → bit_at word bit ≡ 1 → slice_get rules (from + bit) ≡ Some other
      → matches other question ≡ false

-- the place of the first rule that matches, of those from `from` on whose bit the word has, if any does
abbrev pub IsFirst : List Rule → Question → ℕ → ℕ → Option ℕ → Type 0
IsFirst rules question word from None =
    (bit : ℕ) (rule : Rule) → bit < 64 → bit_at word bit ≡ 1 → slice_get rules (from + bit) ≡ Some rule → matches rule question ≡ false
IsFirst rules question word from (Some index) = (rule : Rule) × IsFirstOf rules question word from index rule

-- no rule from `from` to before `to` matches
abbrev pub NoneWithin : List Rule → Question → ℕ → ℕ → Type 0
NoneWithin rules question from to =
    (place : ℕ) (rule : Rule) → from ≤ place → place < to → slice_get rules place ≡ Some rule → matches rule question ≡ false

-- this rule matches, and none before it from `from` on
pub record IsFirstFrom (rules : List Rule) (question : Question) (from index : ℕ) (rule : Rule) : Type 0 where
  pub stands : slice_get rules index ≡ Some rule
  pub is_match : matches rule question ≡ true
  pub none : NoneWithin rules question from index

-- the place of the first rule that matches, from `from` to before `to`, if any does
abbrev pub IsFirstWithin : List Rule → Question → ℕ → ℕ → Option ℕ → Type 0
IsFirstWithin rules question from to None = NoneWithin rules question from to
IsFirstWithin rules question from to (Some index) = (rule : Rule) × IsFirstFrom rules question from index rule
