-- A row is found by its number where numbers rise.
use Rattle.std.proofs.Common.{arith, ◌≡◌, ℕ, zero, suc, ◌<◌, ◌≤◌, ◌==◌, Bool, true, false, cond, List, [], ◌∷◌, length, get_or, find, Option, Some, None, Result, Ok, Err, refl, sym, ◌∙◌}
use Rattle.std.specs.Prelude.{◌&&◌, slice_get}
use Rattle.std.proofs.lemmas.Bool.Decides.{nat_tests}
use Rattle.std.proofs.lemmas.Cmp.{ranked}
use Rattle.std.proofs.lemmas.List.Sorted.{IsNonDecreasingBy-from_default}
use Rattle.std.proofs.lemmas.Option.{slice_get-get_or}
use Rattle.std.specs.List.Sorted.{IsSearchInRange, IsBinarySearchResult, IsNonDecreasingBy}
use Rattle.std.specs.Ordering.{nat_cmp, ordering_index}
use Rattle.log_readers.specs.Numbering.{Rises}
use Rattle.log_readers.proofs.RisingLemmas.{all_above}

-- what stands at the place that a search gives
abbrev pub read_at : {A : Type 0} → List A → Result ℕ ℕ → Option A
read_at rows (Ok at) = slice_get rows at
read_at rows (Err at) = None

abbrev has_number : {A : Type 0} → (A → ℕ) → ℕ → A → Bool
has_number number_of number row = number_of row == number

found_here : {A : Type 0} (number_of : A → ℕ) (number low last : ℕ) (rows : List A) (at : ℕ) (d : A) →
    Rises number_of low last rows → at < length rows → number_of (get_or rows at d) ≡ number →
    Some (get_or rows at d) ≡ find (has_number number_of number) rows
found_here number_of number low last [] at d up within is = absurd (omega (arith, within))
found_here number_of number low last (row ∷ rows) zero d up within is =
    let hit : (number_of row == number) ≡ true = grind (arith, nat_tests) in
    rw hit refl
found_here number_of number low last (row ∷ rows) (suc at) d up within is =
    let inside : at < length rows = omega (arith, within) in
    let higher : number_of row < number_of (get_or rows at d) = all_above number_of (number_of row) last rows up.1 at d inside in
    let miss : (number_of row == number) ≡ false = grind (arith, nat_tests) in
    rw miss (found_here number_of number (number_of row) last rows at d up.1 inside is)

missed : {A : Type 0} (number_of : A → ℕ) (number : ℕ) (rows : List A) →
    ((j : ℕ) (d : A) → j < length rows → (number_of (get_or rows j d) == number) ≡ false) →
    None ≡ find (has_number number_of number) rows
missed number_of number [] none = refl
missed number_of number (row ∷ rows) none =
    let miss : (number_of row == number) ≡ false = none 0 row (omega arith) in
    rw miss (missed number_of number rows (λ j d within. none (suc j) d (omega (arith, within))))

rises_along : {A : Type 0} (number_of : A → ℕ) (low last : ℕ) (rows : List A) (i j : ℕ) (d : A) →
    Rises number_of low last rows → i ≤ j → j < length rows →
    number_of (get_or rows i d) ≤ number_of (get_or rows j d)
rises_along number_of low last [] i j d up order within = absurd (omega (arith, within))
rises_along number_of low last (row ∷ rows) zero zero d up order within = omega arith
rises_along number_of low last (row ∷ rows) zero (suc j) d up order within =
    omega (arith, all_above number_of (number_of row) last rows up.1 j d (omega (arith, within)))
rises_along number_of low last (row ∷ rows) (suc i) zero d up order within = absurd (omega (arith, order))
rises_along number_of low last (row ∷ rows) (suc i) (suc j) d up order within =
    rises_along number_of (number_of row) last rows i j d up.1 (omega (arith, order)) (omega (arith, within))

comparisons_rise : {A : Type 0} (number_of : A → ℕ) (number low last : ℕ) (rows : List A) (none : A) →
    Rises number_of low last rows →
    IsNonDecreasingBy (λ (row : A). ordering_index (nat_cmp (number_of row) number)) rows
comparisons_rise {A = A} number_of number low last rows none up =
    IsNonDecreasingBy-from_default (λ (row : A). ordering_index (nat_cmp (number_of row) number)) rows none (λ i j order within.
    let along = rises_along number_of low last rows i j none up order within in
    grind (arith, nat_tests))

pub searched : {A : Type 0} (number_of : A → ℕ) (number low last : ℕ) (rows : List A) → Rises number_of low last rows →
    (result : Result ℕ ℕ) → IsSearchInRange result (length rows) →
    IsBinarySearchResult (λ (row : A). nat_cmp (number_of row) number) rows result →
    read_at rows result ≡ find (has_number number_of number) rows
searched number_of number low last [] up (Ok at) within equal = absurd (omega (arith, within))
searched number_of number low last (row ∷ rows) up (Ok at) within equal =
    slice_get-get_or (row ∷ rows) at row within
    ∙ found_here number_of number low last (row ∷ rows) at row up within (ranked _ number _ (sym (equal row)))
searched number_of number low last [] up (Err at) within parted = refl
searched number_of number low last (row ∷ rows) up (Err at) within parted =
    missed number_of number (row ∷ rows) (λ j d inside.
    let ends = parted (comparisons_rise number_of number low last (row ∷ rows) row up) in
    let below : j < at → number_of (get_or (row ∷ rows) j d) < number = λ less. ranked _ number _ (sym (ends.0 j d (omega arith) less)) in
    let beyond : at ≤ j → number < number_of (get_or (row ∷ rows) j d) = λ from. ranked _ number _ (sym (ends.1 j d from inside)) in
    grind (arith, nat_tests, below, beyond))

-- ---- one that also passes a test

abbrev pub where_it : {A : Type 0} → (A → Bool) → Option A → Option A
where_it test None = None
where_it test (Some row) = cond (test row) (Some row) None

own_one : {A : Type 0} (test : A → Bool) (row : A) (b : Bool) (found : Option A) → None ≡ found →
    cond b (Some row) None ≡ cond b (Some row) found
own_one test row true found none = refl
own_one test row false found none = none

own_case : {A : Type 0} (number_of : A → ℕ) (test : A → Bool) (number : ℕ) (row : A) (rows : List A) (b : Bool) →
    (b ≡ true → None ≡ find (λ (one : A). number_of one == number && test one) rows) →
    where_it test (find (has_number number_of number) rows) ≡ find (λ (one : A). number_of one == number && test one) rows →
    where_it test (cond b (Some row) (find (has_number number_of number) rows))
    ≡ cond (b && test row) (Some row) (find (λ (one : A). number_of one == number && test one) rows)
own_case {A = A} number_of test number row rows true none rest =
    own_one test row (test row) (find (λ (one : A). number_of one == number && test one) rows) (none refl)
own_case number_of test number row rows false none rest = rest

none_above : {A : Type 0} (number_of : A → ℕ) (test : A → Bool) (number low last : ℕ) (rows : List A) → number ≤ low →
    Rises number_of low last rows → None ≡ find (λ (one : A). number_of one == number && test one) rows
none_above number_of test number low last [] below up = refl
none_above number_of test number low last (row ∷ rows) below up =
    let higher : low < number_of row = up.0 in
    let miss : (number_of row == number) ≡ false = grind (arith, nat_tests) in
    rw miss (none_above number_of test number (number_of row) last rows (omega (arith, higher, below)) up.1)

pub own_found : {A : Type 0} (number_of : A → ℕ) (test : A → Bool) (number low last : ℕ) (rows : List A) →
    Rises number_of low last rows →
    where_it test (find (has_number number_of number) rows) ≡ find (λ (one : A). number_of one == number && test one) rows
own_found number_of test number low last [] up = refl
own_found number_of test number low last (row ∷ rows) up =
    own_case number_of test number row rows (number_of row == number)
    (λ is. none_above number_of test number (number_of row) last rows (grind (arith, nat_tests, is)) up.1)
    (own_found number_of test number (number_of row) last rows up.1)
