-- Rows whose numbers rise.
use Rattle.std.proofs.Common.{◌≡◌, ℕ, ◌<◌, ◌≤◌, Bool, true, false, cond, List, [], ◌∷◌, ◌++◌, map, filter, ap, sym, ◌∙◌, ⊎_elim, arith}
use Rattle.std.specs.List.{Contains}
use Rattle.std.proofs.lemmas.List.Elements.{Contains-append_cases}
use Rattle.driver_laws.specs.NumberLaws.{IsDrawn, Rises}
use Rattle.driver_core.proofs.ListLemmas.{contains_none, only_one}

pub rises_up_to : {A : Type 0} (number_of : A → ℕ) (low last next : ℕ) (rows : List A) → last ≤ next →
    Rises number_of low last rows → Rises number_of low next rows
rises_up_to number_of low last next [] more up = omega (arith, more, up)
rises_up_to number_of low last next (row ∷ rows) more up =
    (up.0, rises_up_to number_of (number_of row) last next rows more up.1)

rises_from : {A : Type 0} (number_of : A → ℕ) (lower low last : ℕ) (rows : List A) → lower ≤ low →
    Rises number_of low last rows → Rises number_of lower last rows
rises_from number_of lower low last [] below up = omega (arith, below, up)
rises_from number_of lower low last (row ∷ rows) below up =
    (let above = up.0 in omega (arith, below, above), up.1)

pub rises_push : {A : Type 0} (number_of : A → ℕ) (low last next : ℕ) (rows : List A) (row : A) →
    Rises number_of low last rows → last < number_of row → number_of row ≤ next →
    Rises number_of low next (rows ++ row ∷ [])
rises_push number_of low last next [] row up above below = (omega (arith, up, above), below)
rises_push number_of low last next (first ∷ rows) row up above below =
    (up.0, rises_push number_of (number_of first) last next rows row up.1 above below)

one_kept : {A : Type 0} (number_of : A → ℕ) (b : Bool) (low last : ℕ) (first : A) (rows : List A) →
    low < number_of first → Rises number_of (number_of first) last rows →
    Rises number_of low last (cond b (first ∷ rows) rows)
one_kept number_of true low last first rows above up = (above, up)
one_kept number_of false low last first rows above up =
    rises_from number_of low (number_of first) last rows (omega (arith, above)) up

pub rises_kept : {A : Type 0} (number_of : A → ℕ) (stays : A → Bool) (low last : ℕ) (rows : List A) →
    Rises number_of low last rows → Rises number_of low last (filter stays rows)
rises_kept number_of stays low last [] up = up
rises_kept number_of stays low last (first ∷ rows) up =
    one_kept number_of (stays first) low last first (filter stays rows) up.0
    (rises_kept number_of stays (number_of first) last rows up.1)

-- a change that keeps each number
pub rises_mapped : {A : Type 0} (number_of : A → ℕ) (change : A → A) (low last : ℕ) (rows : List A) →
    ((row : A) → number_of (change row) ≡ number_of row) → Rises number_of low last rows →
    Rises number_of low last (map change rows)
rises_mapped number_of change low last [] same up = up
rises_mapped number_of change low last (row ∷ rows) same up =
    rw (same row) (up.0, rises_mapped number_of change (number_of row) last rows same up.1)

above_low : {A : Type 0} (number_of : A → ℕ) (low last : ℕ) (rows : List A) → Rises number_of low last rows → low ≤ last
above_low number_of low last [] up = up
above_low number_of low last (row ∷ rows) up =
    let first = up.0 in
    let rest = above_low number_of (number_of row) last rows up.1 in
    omega (arith, first, rest)

-- each number lies between
pub between : {A : Type 0} (number_of : A → ℕ) (low last : ℕ) (rows : List A) (row : A) → Rises number_of low last rows →
    Contains rows row → (low < number_of row) × (number_of row ≤ last)
between number_of low last [] row up has = absurd (contains_none row has)
between number_of low last (first ∷ rows) row up has =
    let above = up.0 in
    ⊎_elim
    (λ is.
    let same : number_of first ≡ number_of row = ap number_of (only_one first row is) in
    let rest = above_low number_of (number_of first) last rows up.1 in
    (omega (arith, above, same), omega (arith, same, rest)))
    (λ later.
    let rest = between number_of (number_of first) last rows row up.1 later in
    let low' = rest.0 in
    (omega (arith, above, low'), rest.1))
    (Contains-append_cases (first ∷ []) rows row has)

pub rises_drawn : {A : Type 0} (number_of : A → ℕ) (last : ℕ) (rows : List A) (row : A) → Rises number_of 0 last rows →
    Contains rows row → IsDrawn last (number_of row)
rises_drawn number_of last rows row up has =
    let both = between number_of 0 last rows row up has in
    record { above = both.0; below = both.1 }

-- no two rows have one number
pub rises_unique : {A : Type 0} (number_of : A → ℕ) (low last : ℕ) (rows : List A) (row other : A) →
    Rises number_of low last rows → Contains rows row → Contains rows other → number_of row ≡ number_of other →
    row ≡ other
rises_unique number_of low last [] row other up has stands same = absurd (contains_none row has)
rises_unique number_of low last (first ∷ rows) row other up has stands same =
    ⊎_elim
    (λ here.
    let is : first ≡ row = only_one first row here in
    let number = ap number_of is in
    ⊎_elim
    (λ there. sym is ∙ only_one first other there)
    (λ later.
    let above = (between number_of (number_of first) last rows other up.1 later).0 in
    absurd (omega (arith, number, above, same)))
    (Contains-append_cases (first ∷ []) rows other stands))
    (λ later.
    ⊎_elim
    (λ there.
    let number = ap number_of (only_one first other there) in
    let above = (between number_of (number_of first) last rows row up.1 later).0 in
    absurd (omega (arith, number, above, same)))
    (λ rest. rises_unique number_of (number_of first) last rows row other up.1 later rest same)
    (Contains-append_cases (first ∷ []) rows other stands))
    (Contains-append_cases (first ∷ []) rows row has)
