-- Rows whose numbers rise: each has its own.
use Rattle.std.proofs.Common.{◌≡◌, ℕ, ◌<◌, ◌≤◌, ◌==◌, Bool, true, false, cond, List, [], ◌∷◌, ◌++◌, map, filter, get_or, refl, ap, ◌∙◌, arith, eq-eqb, ne_eqb}
use Rattle.std.specs.Prelude.{◌&&◌, ◌||◌, All}
use Rattle.std.specs.List.{list_any}
use Rattle.std.proofs.lemmas.List.Elements.{All-nil, All-cons, All-weaker}
use Rattle.std.proofs.lemmas.List.Folds.{list_any_none}
use Rattle.log_readers.specs.Numbering.{Rises}

-- ---- what keeps them rising

rises_from : {A : Type 0} (number_of : A → ℕ) (lower low last : ℕ) (rows : List A) → lower ≤ low →
    Rises number_of low last rows → Rises number_of lower last rows
rises_from number_of lower low last [] below up = omega (arith, below, up)
rises_from number_of lower low last (row ∷ rows) below up =
    (let above = up.0 in omega (arith, below, above), up.1)

pub rises_up_to : {A : Type 0} (number_of : A → ℕ) (low last next : ℕ) (rows : List A) → last ≤ next →
    Rises number_of low last rows → Rises number_of low next rows
rises_up_to number_of low last next [] more up = omega (arith, more, up)
rises_up_to number_of low last next (row ∷ rows) more up =
    (up.0, rises_up_to number_of (number_of row) last next rows more up.1)

-- a row with a number above all others
pub rises_push : {A : Type 0} (number_of : A → ℕ) (low last next : ℕ) (rows : List A) (row : A) →
    Rises number_of low last rows → last < number_of row → number_of row ≤ next →
    Rises number_of low next (rows ++ row ∷ [])
rises_push number_of low last next [] row up above below = (omega (arith, up, above), below)
rises_push number_of low last next (first ∷ rows) row up above below =
    (up.0, rises_push number_of (number_of first) last next rows row up.1 above below)

one_kept : {A : Type 0} (number_of : A → ℕ) (b : Bool) (low last : ℕ) (first : A) (rows : List A) →
    low < number_of first → Rises number_of (number_of first) last rows →
    Rises number_of low last (cond b (first ∷ rows) rows)
one_kept number_of true low last first rows above up = (above, up)
one_kept number_of false low last first rows above up =
    rises_from number_of low (number_of first) last rows (omega (arith, above)) up

pub rises_kept : {A : Type 0} (number_of : A → ℕ) (stays : A → Bool) (low last : ℕ) (rows : List A) →
    Rises number_of low last rows → Rises number_of low last (filter stays rows)
rises_kept number_of stays low last [] up = up
rises_kept number_of stays low last (first ∷ rows) up =
    one_kept number_of (stays first) low last first (filter stays rows) up.0
    (rises_kept number_of stays (number_of first) last rows up.1)

-- a change that keeps each number
pub rises_mapped : {A : Type 0} (number_of : A → ℕ) (change : A → A) (low last : ℕ) (rows : List A) →
    ((row : A) → number_of (change row) ≡ number_of row) → Rises number_of low last rows →
    Rises number_of low last (map change rows)
rises_mapped number_of change low last [] same up = up
rises_mapped number_of change low last (row ∷ rows) same up =
    rw (same row) (up.0, rises_mapped number_of change (number_of row) last rows same up.1)

-- ---- where they lie

above_low : {A : Type 0} (number_of : A → ℕ) (low last : ℕ) (rows : List A) → Rises number_of low last rows → low ≤ last
above_low number_of low last [] up = up
above_low number_of low last (row ∷ rows) up =
    let first = up.0 in
    let rest = above_low number_of (number_of row) last rows up.1 in
    omega (arith, first, rest)

pub all_above : {A : Type 0} (number_of : A → ℕ) (low last : ℕ) (rows : List A) → Rises number_of low last rows →
    All (λ row. low < number_of row) rows
all_above number_of low last [] up = All-nil (λ row. low < number_of row)
all_above number_of low last (row ∷ rows) up =
    All-cons (λ one. low < number_of one) row rows up.0
    (All-weaker (λ one. number_of row < number_of one) (λ one. low < number_of one)
    (λ one above. let first = up.0 in omega (arith, first, above)) rows (all_above number_of (number_of row) last rows up.1))

pub all_below : {A : Type 0} (number_of : A → ℕ) (low last : ℕ) (rows : List A) → Rises number_of low last rows →
    All (λ row. number_of row ≤ last) rows
all_below number_of low last [] up = All-nil (λ row. number_of row ≤ last)
all_below number_of low last (row ∷ rows) up =
    All-cons (λ one. number_of one ≤ last) row rows (above_low number_of (number_of row) last rows up.1)
    (all_below number_of (number_of row) last rows up.1)

-- ---- a number finds its own row

head_found : (b : Bool) → ((b && true) || false) ≡ b
head_found true = refl
head_found false = refl

head_passed : (a b : Bool) → ((a && false) || b) ≡ b
head_passed true b = refl
head_passed false b = refl

-- a row of this row's number passes the test
abbrev pub finds : {A : Type 0} → (A → ℕ) → (A → Bool) → List A → ℕ → Bool
finds number_of passes rows number = list_any (λ row. passes row && (number_of row == number)) rows

miss : (a : Bool) (m n : ℕ) → n < m → (a && (m == n)) ≡ false
miss a m n below = ap (λ (b : Bool). a && b) (ne_eqb m n (λ same. omega (arith, same, below))) ∙ never a
  where
    never : (b : Bool) → (b && false) ≡ false
    never true = refl
    never false = refl

-- exactly where this one does
pub finds_itself : {A : Type 0} (number_of : A → ℕ) (passes : A → Bool) (low last : ℕ) (rows : List A) →
    Rises number_of low last rows → All (λ row. finds number_of passes rows (number_of row) ≡ passes row) rows
finds_itself number_of passes low last [] up = All-nil (λ row. finds number_of passes [] (number_of row) ≡ passes row)
finds_itself number_of passes low last (one ∷ rows) up =
    let above = all_above number_of (number_of one) last rows up.1 in
    let rest = finds_itself number_of passes (number_of one) last rows up.1 in
    All-cons (λ row. finds number_of passes (one ∷ rows) (number_of row) ≡ passes row) one rows
    (ap (λ (b : Bool). (passes one && b) || finds number_of passes rows (number_of one)) (eq-eqb (number_of one) (number_of one) refl)
    ∙ ap (λ (b : Bool). (passes one && true) || b)
    (list_any_none (λ row. passes row && (number_of row == number_of one)) rows
    (All-weaker (λ row. number_of one < number_of row) (λ row. (passes row && (number_of row == number_of one)) ≡ false)
    (λ row later. miss (passes row) (number_of row) (number_of one) later) rows above))
    ∙ head_found (passes one))
    (λ k d within.
    ap (λ (b : Bool). (passes one && b) || finds number_of passes rows (number_of (get_or rows k d)))
    (ne_eqb (number_of one) (number_of (get_or rows k d)) (λ same. let later = above k d within in omega (arith, same, later)))
    ∙ head_passed (passes one) (finds number_of passes rows (number_of (get_or rows k d)))
    ∙ rest k d within)
