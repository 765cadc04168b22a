-- What the sets of a request have in common.
use Rattle.std.proofs.Common.{◌≡◌, ℕ, ◌+◌, ◌*◌, ◌/◌, ◌%◌, ◌<◌, ◌≤◌, min, Bool, true, List, Some, length, slice_get, slice_index, slice_index_or, refl, ap, ◌∙◌, subst, ⊎_elim, arith}
use Rattle.std.proofs.lemmas.Bool.{cases_lt}
use Rattle.std.proofs.lemmas.Nat.Bits.{bit_at-lt, bit_at_and}
use Rattle.std.proofs.lemmas.Option.{slice_get_read, slice_get_within}
use Rattle.std.specs.Int.{bit_at}
use Rattle.std.specs.Prelude.{bit_and}
use Rattle.policy_core.specs.Question.{Question}
use Rattle.policy_core.specs.Rule.{matches}
use Rattle.policy_core.specs.declared.rule.Rule.{Rule}
use Rattle.compiled_policy.specs.Class.{class_of, is_in}
use Rattle.compiled_policy.specs.Group.{group_of, is_of}
use Rattle.compiled_policy.specs.RuleSet.{AreSetsOf, IsSetOf, bit_of, has}
use Rattle.compiled_policy.specs.Search.{AreCandidates}
use Rattle.compiled_policy.specs.declared.candidates.Candidates.{Candidates}
use Rattle.compiled_policy.specs.declared.rule_set.RuleSet.{RuleSet}
use Rattle.compiled_policy.proofs.ClassLemmas.{match_is_in, match_is_of}

common_bit : (a b c bit : ℕ) → bit_at (bit_and (bit_and a b) c) bit ≡ min (min (bit_at a bit) (bit_at b bit)) (bit_at c bit)
common_bit a b c bit = rw (bit_at_and (bit_and a b) c bit, bit_at_and a b bit) refl

common_all : (a b c bit : ℕ) → bit_at a bit ≡ 1 → bit_at b bit ≡ 1 → bit_at c bit ≡ 1 → bit_at (bit_and (bit_and a b) c) bit ≡ 1
common_all a b c bit x y z = omega (arith, common_bit a b c bit, x, y, z)

common_part : (a b c bit : ℕ) → bit_at (bit_and (bit_and a b) c) bit ≡ 1 → bit_at b bit ≡ 1
common_part a b c bit h = let small = bit_at-lt b bit in omega (arith, common_bit a b c bit, small, h)

-- a rule that passes is in the set
member : (rules : List Rule) (test : Rule → Bool) (set : RuleSet) (place : ℕ) (rule : Rule) → IsSetOf rules test (length rules) set
    → slice_get rules place ≡ Some rule → test rule ≡ true → has set place ≡ 1
member rules test set place rule is there passed = is.rule place rule (slice_get_within rules place rule there) there ∙ ap bit_of passed

-- the sets of a request's class, of the asker's group and of the stream's interval
pub candidates_of : (rules : List Rule) (question : Question) (sets : Candidates) (interval : Rule → Bool) → length rules ≤ 1024
    → IsSetOf rules (is_of (group_of question.principal)) (length rules) sets.group.now
    → IsSetOf rules (is_in (class_of question)) (length rules) sets.class.now
    → IsSetOf rules interval (length rules) sets.interval.now
    → ((place : ℕ) (rule : Rule) → slice_get rules place ≡ Some rule → matches rule question ≡ true → interval rule ≡ true)
    → AreCandidates rules question sets
candidates_of rules question sets interval few group class on holds = record {
  inside = λ word bit low small set.
      let g = sets.group.now in let k = sets.class.now in let i = sets.interval.now in
      let place : ℕ = 64 * word + bit in
      let part : bit_at (slice_index k.words word) bit ≡ 1 = common_part (slice_index g.words word) (slice_index k.words word) (slice_index i.words word) bit set in
      let word_is : word ≡ place / 64 = omega arith in
      let bit_is : bit ≡ place % 64 = omega arith in
      let part' : has k place ≡ 1 = subst (λ (n : ℕ). bit_at (slice_index k.words n) (place % 64) ≡ 1) word_is (subst (λ (n : ℕ). bit_at (slice_index k.words word) n ≡ 1) bit_is part) in
      ⊎_elim (λ l. l) (λ past. let none = class.none place past (omega arith) in absurd (omega (arith, none, part'))) (cases_lt place (length rules));
  all = λ place rule there h.
      let g = sets.group.now in let k = sets.class.now in let i = sets.interval.now in
      let w : ℕ = place / 64 in
      common_all (slice_index g.words w) (slice_index k.words w) (slice_index i.words w) (place % 64)
      (member rules (is_of (group_of question.principal)) g place rule group there (match_is_of rule question h))
      (member rules (is_in (class_of question)) k place rule class there (match_is_in rule question h))
      (member rules interval i place rule on there (holds place rule there h));
}

-- the set that stands at a row
pub set_at : (rules : List Rule) (test : ℕ → Rule → Bool) (end : ℕ) (sets : List RuleSet) (row : ℕ) (set : RuleSet) → AreSetsOf rules test end sets
    → row < length sets → set ≡ slice_index_or sets row set → IsSetOf rules (test row) end set
set_at rules test end sets row set are within is = are.each row set (slice_get_read sets (length sets) row set refl within is)
