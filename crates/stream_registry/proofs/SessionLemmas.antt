-- Among one more session than there are logs, one is free.
use Rattle.std.proofs.Common.{◌≡◌, ℕ, zero, suc, ◌+◌, ◌%◌, ◌^◌, ◌<◌, ◌≤◌, ℤ, Bool, true, false, not, ◌&&◌, ◌||◌, cond, List, [], ◌∷◌, length, filter, refl, sym, ap, subst, ◌∙◌, arith}
use Rattle.std.specs.Prelude.{FitsSigned, nat_lt}
use Rattle.std.specs.Ordering.{int_eq}
use Rattle.std.specs.Int.{w32, cast_signed, cast_unsigned}
use Rattle.std.proofs.lemmas.Bool.Decides.{Decides-int_eq, nat_tests}
use Rattle.std.proofs.lemmas.Int.{of_z-to_z, to_z-of_z}
use Rattle.std.proofs.lemmas.List.Filters.{length-filter_both}
use Rattle.std.proofs.Math.Facts.{Fits-of_z}
use Rattle.stream_registry.specs.declared.row.LogRow.{LogRow}
use Rattle.stream_registry.specs.Origins.{is_published}
use Rattle.stream_registry.specs.Sessions.{after, has_session, is_taken, free_from, free_session}
use Rattle.stream_registry.specs.SessionLaws.{nth_after, SessionsAreFree}

-- ---- sessions by their bits

abbrev session_at : ℕ → ℕ → ℤ
session_at c k = cast_signed w32 ((c + k) % 2 ^ 32)

after_is : (c : ℕ) → c < 2 ^ 32 → after (cast_signed w32 c) ≡ cast_signed w32 ((c + 1) % 2 ^ 32)
after_is c small = rw (of_z-to_z w32 c small) refl

nth_is : (k c : ℕ) → c < 2 ^ 32 → nth_after k (cast_signed w32 c) ≡ session_at c k
nth_is zero c small =
    let same : (c + 0) % 2 ^ 32 ≡ c = omega (arith, small) in
    rw same refl
nth_is (suc k) c small =
    let same : ((c + 1) % 2 ^ 32 + k) % 2 ^ 32 ≡ (c + suc k) % 2 ^ 32 = omega arith in
    let rest : nth_after k (cast_signed w32 ((c + 1) % 2 ^ 32)) ≡ session_at ((c + 1) % 2 ^ 32) k = nth_is k ((c + 1) % 2 ^ 32) (omega arith) in
    ap (nth_after k) (after_is c small) ∙ (rest ∙ ap (cast_signed w32) same)

differ : (c j k : ℕ) → j < k → k < 2 ^ 32 → session_at c j ≡ session_at c k → ⊥
differ c j k before small same =
    let one : cast_unsigned w32 (session_at c j) ≡ (c + j) % 2 ^ 32 = of_z-to_z w32 ((c + j) % 2 ^ 32) (omega arith) in
    let other : cast_unsigned w32 (session_at c k) ≡ (c + k) % 2 ^ 32 = of_z-to_z w32 ((c + k) % 2 ^ 32) (omega arith) in
    let bits : (c + j) % 2 ^ 32 ≡ (c + k) % 2 ^ 32 = sym one ∙ (ap (cast_unsigned w32) same ∙ other) in
    omega (arith, bits, before, small)

-- ---- the logs that have another session

abbrev lacks : ℤ → LogRow → Bool
lacks session log = not (has_session session log)

rest_has : (here rest : Bool) → (here ≡ true → ⊥) → (here || rest) ≡ true → rest ≡ true
rest_has true rest never is = absurd (never refl)
rest_has false rest never is = is

either_has : (here rest kept : Bool) → (rest ≡ true → kept ≡ true) → (here || rest) ≡ true → (here || kept) ≡ true
either_has true rest kept more is = refl
either_has false rest kept more is = more is

taken_step : (b : Bool) (session : ℤ) (log : LogRow) (logs kept : List LogRow) →
    (b ≡ true → has_session session log ≡ true → ⊥) →
    (is_taken logs session ≡ true → is_taken kept session ≡ true) →
    is_taken (log ∷ logs) session ≡ true → is_taken (cond (not b) (log ∷ kept) kept) session ≡ true
taken_step true session log logs kept never more is = more (rest_has (has_session session log) (is_taken logs session) (never refl) is)
taken_step false session log logs kept never more is = either_has (has_session session log) (is_taken logs session) (is_taken kept session) more is

behind_kind : (published same : Bool) → (published && same) ≡ true → same ≡ true
behind_kind true same is = is
behind_kind false same is = absurd (cc)

session_is : (session : ℤ) (log : LogRow) → has_session session log ≡ true → log.session ≡ session
session_is session log has = (Decides-int_eq log.session session).0 (behind_kind (is_published log) (int_eq log.session session) has)

still_taken : (session other : ℤ) (logs : List LogRow) → (session ≡ other → ⊥) → is_taken logs session ≡ true →
    is_taken (filter (lacks other) logs) session ≡ true
still_taken session other [] never is = is
still_taken session other (log ∷ logs) never is =
    taken_step (has_session other log) session log logs (filter (lacks other) logs)
    (λ has one. never (sym (session_is session log one) ∙ session_is other log has))
    (still_taken session other logs never) is

shorter_step : (b : Bool) (log : LogRow) (logs kept : List LogRow) (rest : Bool) → length kept ≤ length logs →
    (rest ≡ true → length kept < length logs) → (b || rest) ≡ true → length (cond (not b) (log ∷ kept) kept) < suc (length logs)
shorter_step true log logs kept rest few more is = omega (arith, few)
shorter_step false log logs kept rest few more is = omega (arith, more is)

shorter : (session : ℤ) (logs : List LogRow) → is_taken logs session ≡ true →
    length (filter (lacks session) logs) < length logs
shorter session [] is = absurd (cc)
shorter session (log ∷ logs) is =
    let both : length (filter (has_session session) logs) + length (filter (lacks session) logs) ≡ length logs =
    length-filter_both (has_session session) (lacks session) (λ x. refl) logs in
    shorter_step (has_session session log) log logs (filter (lacks session) logs) (is_taken logs session)
    (omega (arith, both)) (shorter session logs) is

-- as many sessions as these logs have are at most as many as the logs
crowded : (n c : ℕ) (logs : List LogRow) → n ≤ 2 ^ 32 → ((k : ℕ) → k < n → is_taken logs (session_at c k) ≡ true) →
    n ≤ length logs
crowded zero c logs small taken = omega arith
crowded (suc n) c logs small taken =
    let fewer = shorter (session_at c n) logs (taken n (omega arith)) in
    let rest = crowded n c (filter (lacks (session_at c n)) logs) (omega (arith, small))
    (λ k before. still_taken (session_at c k) (session_at c n) logs (differ c k n before (omega (arith, small)))
    (taken k (omega (arith, before)))) in
    omega (arith, fewer, rest)

-- ---- the search

record IsSearched (logs : List LogRow) (first session : ℤ) (tries : ℕ) : Type 0 where
  pub many : ℕ
  pub found : session ≡ nth_after many first
  pub within : many ≤ tries
  pub taken_before : (k : ℕ) → k < many → is_taken logs (nth_after k first) ≡ true
  pub goes_on : is_taken logs session ≡ true → many ≡ tries

taken_from : (logs : List LogRow) (first : ℤ) (many k : ℕ) → is_taken logs first ≡ true →
    ((j : ℕ) → j < many → is_taken logs (nth_after j (after first)) ≡ true) → k < suc many →
    is_taken logs (nth_after k first) ≡ true
taken_from logs first many zero here more before = here
taken_from logs first many (suc k) here more before = more k (omega (arith, before))

searched_step : (b : Bool) (logs : List LogRow) (first session : ℤ) (tries : ℕ) → is_taken logs first ≡ b →
    IsSearched logs (after first) session tries → IsSearched logs first (cond b session first) (suc tries)
searched_step true logs first session tries is more = record {
  many = suc more.many;
  found = more.found;
  within = omega (arith, more.within);
  taken_before = λ k before. taken_from logs first more.many k is more.taken_before before;
  goes_on = λ taken. ap suc (more.goes_on taken);
}
searched_step false logs first session tries is more = record {
  many = 0;
  found = refl;
  within = omega arith;
  taken_before = λ k before. absurd (omega (arith, before));
  goes_on = λ taken. absurd (cc);
}

searched : (others logs : List LogRow) (first : ℤ) → IsSearched logs first (free_from others logs first) (length others)
searched [] logs first = record {
  many = 0;
  found = refl;
  within = omega arith;
  taken_before = λ k before. absurd (omega (arith, before));
  goes_on = λ taken. refl;
}
searched (other ∷ others) logs first =
    searched_step (is_taken logs first) logs first (free_from others logs (after first)) (length others) refl
    (searched others logs (after first))

up_to : (b : Bool) (logs : List LogRow) (first : ℤ) (many k : ℕ) → nat_lt k many ≡ b →
    ((j : ℕ) → j < many → is_taken logs (nth_after j first) ≡ true) → is_taken logs (nth_after many first) ≡ true →
    k < suc many → is_taken logs (nth_after k first) ≡ true
up_to true logs first many k is before last within = before k (grind (arith, nat_tests))
up_to false logs first many k is before last within =
    let same : many ≡ k = grind (arith, nat_tests) in
    subst (λ j. is_taken logs (nth_after j first) ≡ true) same last

not_true : (b : Bool) → (b ≡ true → ⊥) → b ≡ false
not_true true never = absurd (never refl)
not_true false never = refl

nth_at : (k : ℕ) (first : ℤ) → FitsSigned w32 first → nth_after k first ≡ session_at (cast_unsigned w32 first) k
nth_at k first fits =
    let small : cast_unsigned w32 first < 2 ^ 32 = (Fits-of_z fits).fits in
    subst (λ s. nth_after k s ≡ session_at (cast_unsigned w32 first) k) (to_z-of_z w32 first fits)
    (nth_is k (cast_unsigned w32 first) small)

never_all : (logs : List LogRow) (first session : ℤ) → length logs < 2 ^ 32 → FitsSigned w32 first →
    IsSearched logs first session (length logs) → is_taken logs session ≡ true → ⊥
never_all logs first session few fits search_ taken =
    let last : is_taken logs (nth_after search_.many first) ≡ true = subst (λ s. is_taken logs s ≡ true) search_.found taken in
    let over = crowded (suc search_.many) (cast_unsigned w32 first) logs (omega (arith, few, search_.within))
    (λ k before. subst (λ s. is_taken logs s ≡ true) (nth_at k first fits)
    (up_to (nat_lt k search_.many) logs first search_.many k refl search_.taken_before last before)) in
    omega (arith, over, search_.goes_on taken)

pub all_free : SessionsAreFree
unfolding free_session
all_free logs first few fits =
    let result = searched logs logs first in
    record {
      many = result.many;
      found = result.found;
      is_free = not_true (is_taken logs (free_from logs logs first)) (never_all logs first (free_from logs logs first) few fits result);
      taken_before = result.taken_before;
    }
