-- Which rule is the first over another one, and what it decides.
use Rattle.std.proofs.Common.{◌≡◌, ℕ, ◌<◌, ◌≤◌, Bool, true, false, List, Option, Some, None, refl, sym, ap, ◌∙◌, subst, get_or, length, position, arith, ⊎_elim}
use Rattle.std.specs.List.{position_or_len}
use Rattle.std.proofs.lemmas.Bool.{cases_lt, cond-false, cond-true, le-leb, le-ltb, lt-ltb, true≢false}
use Rattle.std.proofs.lemmas.List.Quantifiers.{position-Some}
use Rattle.std.proofs.lemmas.List.Sums.{fails_before_first, position_or_len_is}
use Rattle.policy_core.specs.Question.{Question}
use Rattle.policy_core.specs.Rule.{matches}
use Rattle.policy_core.specs.declared.rule.Rule.{Rule}
use Rattle.policy_diff.specs.Reach.{first_over, is_upto}
use Rattle.policy_tools.specs.Sharing.{is_over}
use Rattle.policy_tools.proofs.SharingLemmas.{taken}

-- the first place that passes
pub position_is : {X : Type 0} (p : X → Bool) (xs : List X) (at : ℕ) (d : X) → at < length xs → ((k : ℕ) → k < at → p (get_or xs k d) ≡ false) → p (get_or xs at d) ≡ true →
    position p xs ≡ Some at
position_is p xs at d within before here =
    let place : position_or_len p xs ≡ at = position_or_len_is p xs at d (omega arith) before (λ _. here) in
    let inside : position_or_len p xs < length xs = omega arith in
    cond-true _ _ _ (lt-ltb _ _ inside) ∙ ap Some place

-- no place passes
pub position_none : {X : Type 0} (p : X → Bool) (xs : List X) (d : X) → ((k : ℕ) → k < length xs → p (get_or xs k d) ≡ false) → position p xs ≡ None
position_none p xs d before =
    let place : position_or_len p xs ≡ length xs = position_or_len_is p xs (length xs) d (omega arith) before (λ (h : length xs < length xs). absurd (omega arith)) in
    let past : length xs ≤ position_or_len p xs = omega arith in
    cond-false _ _ _ (le-ltb _ _ past)

-- where a place passes, the first one that does is not after it
upto_place : {X : Type 0} (p : X → Bool) (xs : List X) (at : ℕ) (d : X) → at < length xs → p (get_or xs at d) ≡ true → is_upto (position p xs) (Some at) ≡ true
upto_place p xs at d within passes =
    ⊎_elim
    (λ (later : at < position_or_len p xs). absurd (true≢false (sym passes ∙ fails_before_first p xs at d later)))
    (λ (upto : position_or_len p xs ≤ at).
    let inside : position_or_len p xs < length xs = omega arith in
    subst (λ (o : Option ℕ). is_upto o (Some at) ≡ true) (sym (cond-true _ _ _ (lt-ltb _ _ inside))) (le-leb _ _ upto))
    (cases_lt at (position_or_len p xs))

upto_from : (rules : List Rule) (rule : Rule) (question : Question) (first : Option ℕ) → first_over rules rule ≡ first → matches rule question ≡ true →
    is_upto (position (λ r. matches r question) rules) first ≡ true
upto_from rules rule question None is is_match = refl
upto_from rules rule question (Some at) is is_match =
    let found = position-Some (λ wide. is_over wide rule) rules at rule is in
    upto_place (λ r. matches r question) rules at rule found.0 (taken (get_or rules at rule) rule question found.1 is_match)

-- a request of a rule is decided no later than at the first rule that is over it
pub upto : (rules : List Rule) (rule : Rule) (question : Question) → matches rule question ≡ true →
    is_upto (position (λ r. matches r question) rules) (first_over rules rule) ≡ true
upto rules rule question is_match = upto_from rules rule question (first_over rules rule) refl is_match
