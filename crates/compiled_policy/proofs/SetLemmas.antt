-- How sets of rules grow, a rule at a time.
use Rattle.std.proofs.Common.{◌≡◌, ◌≢◌, ℕ, zero, suc, ◌+◌, ◌*◌, ◌/◌, ◌%◌, ◌^◌, ◌<◌, ◌≤◌, Bool, true, false, List, [], ◌∷◌, Some, None, length, replicate, get_or, set, slice_get, refl, sym, ap, ◌∙◌, subst, ⊎_elim, arith, length-set, w64}
use Rattle.std.proofs.lemmas.Bool.{and_left, and_right, cases_Bool, cases_eq, cases_lt, eq-eqb, le-leb, le-ltb, lt-leb, lt-ltb, ne_eqb}
use Rattle.std.proofs.lemmas.List.{get_or-set_other, get_or-set_same}
use Rattle.std.proofs.lemmas.Nat.Bits.{bit_at_set_other, bit_at_set_same}
use Rattle.std.proofs.lemmas.Option.{slice_get-get_or, slice_get_within}
use Rattle.std.specs.Int.{bit_at}
use Rattle.std.specs.Prelude.{◌&&◌, bit_or, eqb, nat_le, nat_lt}
use Rattle.policy_core.specs.declared.rule.Rule.{Rule}
use Rattle.compiled_policy.specs.RuleSet.{Adds, AddsWhere, AreEmpty, AreSetsOf, IsSetOf, bit_of, has}
use Rattle.compiled_policy.specs.declared.rule_set.RuleSet.{RuleSet}

-- a bit is set in the word of the place
pub added : (old : RuleSet) (place : ℕ) → place < 1024 → length old.words ≡ 16 →
    Adds old (record { words = set old.words (place / 64) (bit_or (get_or old.words (place / 64) 0) (1 * 2 ^ (place % 64) % 2 ^ 64)) }) place
added old place small size =
    let word : ℕ = place / 64 in
    let put : ℕ = bit_or (get_or old.words word 0) (1 * 2 ^ (place % 64) % 2 ^ 64) in
    let here : get_or (set old.words word put) word 0 ≡ put = get_or-set_same old.words word put 0 (omega arith) in
    record {
      here = ap (λ x. bit_at x (place % 64)) here ∙ bit_at_set_same w64 (get_or old.words word 0) (place % 64) (omega arith);
      others = λ other apart.
          ⊎_elim
          (λ e. let differ : other % 64 ≢ place % 64 = λ z. apart (omega arith) in
          subst (λ (n : ℕ). bit_at (get_or (set old.words word put) n 0) (other % 64) ≡ bit_at (get_or old.words n 0) (other % 64)) (sym e)
          (ap (λ x. bit_at x (other % 64)) here ∙ bit_at_set_other w64 (get_or old.words word 0) (place % 64) (omega arith) (other % 64) differ))
          (λ ne. ap (λ x. bit_at x (other % 64)) (get_or-set_other old.words word (other / 64) put 0 ne))
          (cases_eq (other / 64) word);
    }

-- the next rule passes, and is put in
set_in : (rules : List Rule) (test : Rule → Bool) (place : ℕ) (rule : Rule) (old new : RuleSet) → slice_get rules place ≡ Some rule
    → test rule ≡ true → IsSetOf rules test place old → Adds old new place → IsSetOf rules test (place + 1) new
set_in rules test place rule old new stands passed set adds = record {
  rule = λ at other before there.
      ⊎_elim
      (λ e. let there' = rw e at there in let same : rule ≡ other = cc in
      subst (λ (n : ℕ). has new n ≡ bit_of (test other)) (sym e) (adds.here ∙ sym (ap bit_of (ap test (sym same) ∙ passed))))
      (λ ne. adds.others at ne ∙ set.rule at other (omega arith) there)
      (cases_eq at place);
  none = λ at behind small. adds.others at (λ e. absurd (omega arith)) ∙ set.none at (omega arith) small;
}

-- the next rule fails
set_out : (rules : List Rule) (test : Rule → Bool) (place : ℕ) (rule : Rule) (old : RuleSet) → place < 1024 → slice_get rules place ≡ Some rule
    → test rule ≡ false → IsSetOf rules test place old → IsSetOf rules test (place + 1) old
set_out rules test place rule old small stands failed set = record {
  rule = λ at other before there.
      ⊎_elim
      (λ e. let there' = rw e at there in let same : rule ≡ other = cc in
      subst (λ (n : ℕ). has old n ≡ bit_of (test other)) (sym e) (set.none place (omega arith) small ∙ sym (ap bit_of (ap test (sym same) ∙ failed))))
      (λ ne. set.rule at other (omega arith) there)
      (cases_eq at place);
  none = λ at behind below. set.none at (omega arith) below;
}

-- the next rule is put in at each row whose test it passes
pub sets_more : (rules : List Rule) (test : ℕ → Rule → Bool) (place : ℕ) (rule : Rule) (old new : List RuleSet) → place < 1024
    → slice_get rules place ≡ Some rule → AreSetsOf rules test place old → AddsWhere old new (λ row. test row rule) place
    → AreSetsOf rules test (place + 1) new
sets_more rules test place rule old new small stands sets adds = record {
  each = λ row changed there.
      let same_rows = adds.rows in
      let inside = slice_get_within new row changed there in
      let within : row < length old = omega arith in
      let was = slice_get-get_or old row changed within in
      ⊎_elim
      (λ passed. set_in rules (test row) place rule _ changed stands passed (sets.each row _ was) (adds.inside row _ changed passed was there))
      (λ failed. set_out rules (test row) place rule changed small stands failed
      (sets.each row changed (sym (adds.outside row within failed) ∙ there)))
      (cases_Bool (test row rule));
}

-- other choices that are the same
pub adds_where_same : (old new : List RuleSet) (chosen other : ℕ → Bool) (place : ℕ) → ((row : ℕ) → row < length old → chosen row ≡ other row)
    → AddsWhere old new chosen place → AddsWhere old new other place
adds_where_same old new chosen other place same adds = record {
  rows = adds.rows;
  inside = λ row set changed passed was there.
      let within = slice_get_within old row set was in
      adds.inside row set changed (same row within ∙ passed) was there;
  outside = λ row within failed. adds.outside row within (same row within ∙ failed);
}

-- no rule is in empty sets
pub sets_none : (rules : List Rule) (test : ℕ → Rule → Bool) (sets : List RuleSet)
    → AreEmpty sets → AreSetsOf rules test 0 sets
sets_none rules test sets empty = record {
  each = λ row set there. record {
    rule = λ place rule before stands. absurd (omega arith);
    none = λ place behind small. empty row set there place;
  };
}

get_set_same : (sets : List RuleSet) (i : ℕ) (set' : RuleSet) → i < length sets → slice_get (set sets i set') i ≡ Some set'
get_set_same [] i set' within = absurd (omega arith)
get_set_same (s ∷ sets) zero set' within = refl
get_set_same (s ∷ sets) (suc i) set' within = get_set_same sets i set' (omega arith)

get_set_other : (sets : List RuleSet) (i j : ℕ) (set' : RuleSet) → j ≢ i → slice_get (set sets i set') j ≡ slice_get sets j
get_set_other [] i j set' apart = refl
get_set_other (s ∷ sets) zero zero set' apart = absurd (apart refl)
get_set_other (s ∷ sets) zero (suc j) set' apart = refl
get_set_other (s ∷ sets) (suc i) zero set' apart = refl
get_set_other (s ∷ sets) (suc i) (suc j) set' apart = get_set_other sets i j set' (λ e. apart (ap suc e))

-- the rule at this place is put into the sets of the rows below `end` that are chosen, and nothing else is done
pub record AddsBelow (old new : List RuleSet) (chosen : ℕ → Bool) (place end : ℕ) : Type 0 where
  pub rows : length new ≡ length old
  pub inside : (row : ℕ) (set changed : RuleSet) → row < end → chosen row ≡ true → slice_get old row ≡ Some set
      → slice_get new row ≡ Some changed → Adds set changed place
  pub outside : (row : ℕ) → row < end → chosen row ≡ false → slice_get new row ≡ slice_get old row
  pub left : (row : ℕ) → end ≤ row → slice_get new row ≡ slice_get old row

pub below_none : (old : List RuleSet) (chosen : ℕ → Bool) (place end : ℕ) → ((row : ℕ) → row < end → chosen row ≡ false)
    → AddsBelow old old chosen place end
below_none old chosen place end none = record {
  rows = refl;
  inside = λ row set changed before passed was there. let failed = none row before in absurd (let e : true ≡ false = sym passed ∙ failed in cc);
  outside = λ row before failed. refl;
  left = λ row behind. refl;
}

pub below_in : (old new : List RuleSet) (chosen : ℕ → Bool) (place end : ℕ) (set' changed : RuleSet) → AddsBelow old new chosen place end
    → slice_get new end ≡ Some set' → chosen end ≡ true → Adds set' changed place → AddsBelow old (set new end changed) chosen place (end + 1)
below_in old new chosen place end set' changed below stands passed adds =
    let within = slice_get_within new end set' stands in
    record {
      rows = simp length-set below.rows;
      inside = λ row before after low chosen' was there.
          ⊎_elim
          (λ e. let was' : slice_get old end ≡ Some before = subst (λ (n : ℕ). slice_get old n ≡ Some before) e was in
          let there' : slice_get (set new end changed) end ≡ Some after = subst (λ (n : ℕ). slice_get (set new end changed) n ≡ Some after) e there in
          let kept : slice_get new end ≡ slice_get old end = below.left end (omega arith) in
          let put : slice_get (set new end changed) end ≡ Some changed = get_set_same new end changed within in
          let same_old : set' ≡ before = cc in
          let same_new : changed ≡ after = cc in
          subst (λ (s : RuleSet). Adds s after place) same_old (subst (λ (s : RuleSet). Adds set' s place) same_new adds))
          (λ ne. below.inside row before after (omega arith) chosen' was (sym (get_set_other new end row changed ne) ∙ there))
          (cases_eq row end);
      outside = λ row low failed.
          ⊎_elim
          (λ e. absurd (let failed' : chosen end ≡ false = subst (λ (n : ℕ). chosen n ≡ false) e failed in let z : true ≡ false = sym passed ∙ failed' in cc))
          (λ ne. get_set_other new end row changed ne ∙ below.outside row (omega arith) failed)
          (cases_eq row end);
      left = λ row behind. get_set_other new end row changed (λ e. absurd (omega arith)) ∙ below.left row (omega arith);
    }

pub below_out : (old new : List RuleSet) (chosen : ℕ → Bool) (place end : ℕ) → AddsBelow old new chosen place end → chosen end ≡ false
    → AddsBelow old new chosen place (end + 1)
below_out old new chosen place end below failed = record {
  rows = below.rows;
  inside = λ row before after low chosen' was there.
      ⊎_elim
      (λ e. absurd (let failed' : chosen row ≡ false = subst (λ (n : ℕ). chosen n ≡ false) (sym e) failed in let z : true ≡ false = sym chosen' ∙ failed' in cc))
      (λ ne. below.inside row before after (omega arith) chosen' was there)
      (cases_eq row end);
  outside = λ row low failed'.
      ⊎_elim
      (λ e. below.left row (omega arith))
      (λ ne. below.outside row (omega arith) failed')
      (cases_eq row end);
  left = λ row behind. below.left row (omega arith);
}

pub below_all : (old new : List RuleSet) (chosen : ℕ → Bool) (place end : ℕ) → AddsBelow old new chosen place end
    → ((row : ℕ) → end ≤ row → row < length old → chosen row ≡ false) → AddsWhere old new chosen place
below_all old new chosen place end below rest = record {
  rows = below.rows;
  inside = λ row before after passed was there.
      let within = slice_get_within old row before was in
      ⊎_elim
      (λ low. below.inside row before after low passed was there)
      (λ behind. absurd (let failed = rest row behind within in let z : true ≡ false = sym passed ∙ failed in cc))
      (cases_lt row end);
  outside = λ row within failed.
      ⊎_elim
      (λ low. below.outside row low failed)
      (λ behind. below.left row behind)
      (cases_lt row end);
}

pub empty_replicated : (count : ℕ) (one : RuleSet) → ((place : ℕ) → has one place ≡ 0) → AreEmpty (replicate count one)
empty_replicated zero one empty row set there place = absurd (let e : None ≡ Some set = there in cc)
empty_replicated (suc count) one empty zero set there place = let same : one ≡ set = cc in ap (λ (s : RuleSet). has s place) (sym same) ∙ empty place
empty_replicated (suc count) one empty (suc row) set there place = empty_replicated count one empty row set there place

-- rows outside of a range
pub below_range : (from to row : ℕ) → row < from → (nat_le from row && nat_lt row to) ≡ false
below_range from to row before = and_left (nat_le from row) (nat_lt row to) (lt-leb from row before)

pub above_range : (from to end : ℕ) → to ≤ end → (sets : ℕ) (row : ℕ) → end ≤ row → row < sets → (nat_le from row && nat_lt row to) ≡ false
above_range from to end over sets row behind within = and_right (nat_le from row) (nat_lt row to) (le-ltb row to (omega arith))

-- a range of one row
pub one_row : (only row : ℕ) → (nat_le only row && nat_lt row (only + 1)) ≡ eqb row only
one_row only row =
    ⊎_elim
    (λ e. rw (le-leb only row (omega arith), lt-ltb row (only + 1) (omega arith), eq-eqb row only e) refl)
    (λ ne. ⊎_elim
    (λ low. and_left (nat_le only row) (nat_lt row (only + 1)) (lt-leb only row low) ∙ sym (ne_eqb row only ne))
    (λ high. and_right (nat_le only row) (nat_lt row (only + 1)) (le-ltb row (only + 1) (omega arith)) ∙ sym (ne_eqb row only ne))
    (cases_lt row only))
    (cases_eq row only)
