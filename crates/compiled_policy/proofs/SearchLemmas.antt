-- What is left to look at.
use Rattle.std.proofs.Common.{◌≡◌, ◌≢◌, ℕ, ◌+◌, ◌*◌, ◌/◌, ◌%◌, ◌<◌, ◌≤◌, true, false, List, Some, None, slice_get, sym, ap, ◌∙◌, subst, ⊎_elim, arith}
use Rattle.std.proofs.lemmas.Bool.{cases_Bool, cases_eq, cases_lt}
use Rattle.std.proofs.lemmas.Nat.Bits.{bit_at-zero, bit_at_or}
use Rattle.std.specs.Int.{bit_at}
use Rattle.std.specs.Prelude.{bit_or}
use Rattle.compiled_policy.specs.Search.{AreCandidates, IsApart, IsFirst, IsFirstFrom, IsFirstOf, NoneWithin, common_word}
use Rattle.compiled_policy.specs.declared.candidates.Candidates.{Candidates}
use Rattle.policy_core.specs.Question.{Question}
use Rattle.policy_core.specs.Rule.{matches}
use Rattle.policy_core.specs.Rules.{IsFirstMatch}
use Rattle.policy_core.specs.declared.rule.Rule.{Rule}

-- of the rules from `from` on whose bit the word has, those whose bit is no more left do not match
pub record IsSought (rules : List Rule) (question : Question) (word from left : ℕ) : Type 0 where
  pub part : (bit : ℕ) → bit < 64 → bit_at left bit ≡ 1 → bit_at word bit ≡ 1
  pub none : (bit : ℕ) (rule : Rule) → bit < 64 → bit_at word bit ≡ 1 → bit_at left bit ≡ 0 → slice_get rules (from + bit) ≡ Some rule
      → matches rule question ≡ false

pub sought_first : (rules : List Rule) (question : Question) (word from : ℕ) → IsSought rules question word from word
sought_first rules question word from = record {
  part = λ bit small set. set;
  none = λ bit rule small set gone there. absurd (omega (arith, set, gone));
}

-- on from a rule that does not match
pub sought_on : (rules : List Rule) (question : Question) (word from left rest bit : ℕ) (rule : Rule) → IsSought rules question word from left
    → bit_at rest bit ≡ 0 → ((other : ℕ) → other < 64 → other ≢ bit → bit_at rest other ≡ bit_at left other)
    → slice_get rules (from + bit) ≡ Some rule → matches rule question ≡ false → IsSought rules question word from rest
sought_on rules question word from left rest bit rule sought gone others stands failed = record {
  part = λ other small set.
      ⊎_elim
      (λ e. let none : bit_at rest other ≡ 0 = subst (λ (n : ℕ). bit_at rest n ≡ 0) (sym e) gone in absurd (omega (arith, none, set)))
      (λ ne. sought.part other small (sym (others other small ne) ∙ set))
      (cases_eq other bit);
  none = λ other found small set out there.
      ⊎_elim
      (λ e. let there' = rw e at there in let same : rule ≡ found = cc in ap (λ (r : Rule). matches r question) (sym same) ∙ failed)
      (λ ne. sought.none other found small set (sym (others other small ne) ∙ out) there)
      (cases_eq other bit);
}

-- a rule of a word that matches has its bit there
bit_in_word : (rules : List Rule) (question : Question) (sets : Candidates) (word place : ℕ) (rule : Rule) → AreCandidates rules question sets
    → slice_get rules place ≡ Some rule → place / 64 ≡ word → matches rule question ≡ true → bit_at (common_word sets word) (place % 64) ≡ 1
bit_in_word rules question sets word place rule are there same h =
    subst (λ (n : ℕ). bit_at (common_word sets n) (place % 64) ≡ 1) same (are.all place rule there h)

at_place : (rules : List Rule) (word place : ℕ) (rule : Rule) → slice_get rules place ≡ Some rule → place / 64 ≡ word
    → slice_get rules (64 * word + place % 64) ≡ Some rule
at_place rules word place rule there same =
    let whole : 64 * word + place % 64 ≡ place = omega arith in
    subst (λ (n : ℕ). slice_get rules n ≡ Some rule) (sym whole) there

-- the first that matches in a word is the first from where none matches before the word
pub found_within : (rules : List Rule) (question : Question) (sets : Candidates) (from word index : ℕ) (rule : Rule) → AreCandidates rules question sets
    → NoneWithin rules question from (64 * word) → IsFirstOf rules question (common_word sets word) (64 * word) index rule
    → IsFirstFrom rules question from index rule
found_within rules question sets from word index rule are gone found = record {
  stands = found.stands;
  is_match = found.is_match;
  none = λ j earlier low before there.
      let top = found.high in
      ⊎_elim
      (λ under. gone j earlier low under there)
      (λ over. let same : j / 64 ≡ word = omega arith in
      ⊎_elim
      (λ h. found.before (j % 64) earlier (omega arith) (bit_in_word rules question sets word j earlier are there same h) (at_place rules word j earlier there same))
      (λ h. h)
      (cases_Bool (matches earlier question)))
      (cases_lt j (64 * word));
}

-- on from a word in which none matches
pub word_on : (rules : List Rule) (question : Question) (sets : Candidates) (from word : ℕ) → AreCandidates rules question sets
    → NoneWithin rules question from (64 * word) → IsFirst rules question (common_word sets word) (64 * word) None
    → NoneWithin rules question from (64 * (word + 1))
word_on rules question sets from word are gone none = λ place rule low before there.
    ⊎_elim
    (λ under. gone place rule low under there)
    (λ over. let same : place / 64 ≡ word = omega arith in
    ⊎_elim
    (λ h. none (place % 64) rule (omega arith) (bit_in_word rules question sets word place rule are there same h) (at_place rules word place rule there same))
    (λ h. h)
    (cases_Bool (matches rule question)))
    (cases_lt place (64 * word))

-- where the sets have nothing in common, none matches
pub none_common : (rules : List Rule) (question : Question) (sets : Candidates) (from to : ℕ) → AreCandidates rules question sets
    → NoneWithin rules question 0 (256 * from) → IsApart sets (4 * from) (4 * to) → NoneWithin rules question 0 (256 * to)
none_common rules question sets from to are gone apart = λ place rule low before there.
    ⊎_elim
    (λ under. gone place rule low under there)
    (λ over. ⊎_elim
    (λ h. let one = are.all place rule there h in
    let zero = apart (place / 64) (place % 64) (omega arith) (omega arith) in
    absurd (omega (arith, one, zero)))
    (λ h. h)
    (cases_Bool (matches rule question)))
    (cases_lt place (256 * from))

-- none matches in one range and in the next
pub none_joined : (rules : List Rule) (question : Question) (from to : ℕ) → NoneWithin rules question 0 from → NoneWithin rules question from to
    → NoneWithin rules question 0 to
none_joined rules question from to first second = λ place rule low before there.
    ⊎_elim (λ under. first place rule low under there) (λ over. second place rule over before there) (cases_lt place from)

-- the sets are apart in a block more
pub apart_more : (sets : Candidates) (from to : ℕ) → IsApart sets (4 * from) (4 * to) → IsApart sets (4 * to) (4 * to + 4) → IsApart sets (4 * from) (4 * (to + 1))
apart_more sets from to first second = λ word bit low high.
    ⊎_elim (λ under. first word bit low under) (λ over. second word bit over (omega arith)) (cases_lt word (4 * to))

-- a word that is 0 is made of words without a bit
pub none_of_four : (a b c d bit : ℕ) → bit_or (bit_or (bit_or a b) c) d ≡ 0
    → (bit_at a bit ≡ 0) × (bit_at b bit ≡ 0) × (bit_at c bit ≡ 0) × (bit_at d bit ≡ 0)
none_of_four a b c d bit none =
    let all : bit_at (bit_or (bit_or (bit_or a b) c) d) bit ≡ 0 = ap (λ x. bit_at x bit) none ∙ bit_at-zero bit in
    let third = bit_at_or (bit_or (bit_or a b) c) d bit in
    let second = bit_at_or (bit_or a b) c bit in
    let first = bit_at_or a b bit in
    (omega arith, omega arith, omega arith, omega arith)

-- one of four words is one of these
pub by_four : (sets : Candidates) (word other bit : ℕ) → word ≤ other → other < word + 4
    → (bit_at (common_word sets word) bit ≡ 0) × (bit_at (common_word sets (word + 1)) bit ≡ 0) × (bit_at (common_word sets (word + 2)) bit ≡ 0)
    × (bit_at (common_word sets (word + 3)) bit ≡ 0)
    → bit_at (common_word sets other) bit ≡ 0
by_four sets word other bit low high each =
    let moved : (n : ℕ) → bit_at (common_word sets n) bit ≡ 0 → other ≡ n → bit_at (common_word sets other) bit ≡ 0 =
    λ n zero e. subst (λ (k : ℕ). bit_at (common_word sets k) bit ≡ 0) (sym e) zero in
    ⊎_elim (λ e. moved word each.0 e)
    (λ a. ⊎_elim (λ e. moved (word + 1) each.1 e)
    (λ b. ⊎_elim (λ e. moved (word + 2) each.2 e)
    (λ d. moved (word + 3) each.3 (omega arith))
    (cases_eq other (word + 2)))
    (cases_eq other (word + 1)))
    (cases_eq other word)

-- the first from where none matches before is the first of all
pub first_from_all : (rules : List Rule) (question : Question) (from index : ℕ) (rule : Rule) → NoneWithin rules question 0 from
    → IsFirstFrom rules question from index rule → IsFirstMatch rules question index rule
first_from_all rules question from index rule none found = record {
  stands = found.stands;
  is_match = found.is_match;
  none_before = λ j earlier before there.
      ⊎_elim (λ under. none j earlier (omega arith) under there) (λ over. found.none j earlier over before there) (cases_lt j from);
}
