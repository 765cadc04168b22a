-- The least place for some pages, and the maximal runs of pages without a lease.
use Rattle.std.proofs.Common.{◌≡◌, ℕ, zero, suc, ◌+◌, ◌-◌, ◌*◌, ◌<◌, ◌≤◌, ◌⊎◌, inl, inr, Bool, true, false, cond, not, eqb, List, [], ◌∷◌, ◌++◌, length, map, get_or, take, drop, replicate, append_assoc, refl, sym, ap, ap₂, ◌∙◌, subst, arith, eqb-true, length-append}
use Rattle.std.proofs.lemmas.List.{length-replicate, take_all}
use Rattle.std.proofs.lemmas.List.Sums.{sum_by-append}
use Rattle.std.proofs.lemmas.List.Folds.{sum_by-replicate}
use Rattle.std.specs.List.{count_by}
use Rattle.log_arena.specs.Pages.{IsFree, IsLeastPlace, HasNoPlace, has_lease, prepended, runs_from}
use Rattle.log_arena.specs.Spans.{Span, Spaced, table, total}
use Rattle.log_arena.proofs.Marks.{free_behind, first_pages, all_leased, free_at}
use Rattle.log_arena.proofs.Tables.{by_test, le_or, Before, split, length-table, table_here, at_place, spaced_before, before_end}

-- ---- the least place
-- each of the holes has fewer than n pages
abbrev pub AllShort : ℕ → List Span → Type 0
AllShort n [] = Unit {0}
AllShort n (h ∷ hs) = (h.1 < n) × AllShort n hs

-- there is a first hole, and it begins at p or before
abbrev pub Begins : List Span → ℕ → Type 0
Begins [] p = ⊥
Begins (h ∷ hs) p = h.0 ≤ p

pub truth : {X : Type 0} (b : Bool) → b ≡ true → b ≡ false → X
truth b y n = absurd (let e : true ≡ false = sym y ∙ n in cc)

-- behind a hole is a page with a lease, or the end
pub after_hole : (low end : ℕ) (hs : List Span) → Spaced (low + 1) end hs → has_lease (table low end hs) 0 ≡ true
after_hole low end [] s = all_leased (end - low) 0
after_hole low end (h ∷ hs) s = first_pages true (h.0 - low) 0 (replicate h.1 false ++ table (h.0 + h.1) end hs) (omega (arith, s.0))

-- n pages without a lease stand behind the holes that are too short
pub behind_short : (n low from end q : ℕ) (pre post : List Span) → 0 < n → low ≤ from → Spaced from end (pre ++ post) → AllShort n pre
    → IsFree (table low end (pre ++ post)) q n → Begins post (low + q)
behind_short n low from end q [] [] some le s short free =
    truth (has_lease (table low end []) (q + 0)) (all_leased (end - low) (q + 0)) (free 0 some)
behind_short n low from end q [] (h ∷ hs) some le s short free =
    elim (le_or h.0 (low + q)) [
      | inl here ↦ here
      | inr before ↦ truth (has_lease (table low end (h ∷ hs)) (q + 0))
          (first_pages true (h.0 - low) (q + 0) (replicate h.1 false ++ table (h.0 + h.1) end hs) (omega arith)) (free 0 some)
    ]
behind_short n low from end q (g ∷ pre) post some le s short free =
    let A = replicate (g.0 - low) true in let B = replicate g.1 false in let T = table (g.0 + g.1) end (pre ++ post) in
    let a : length A ≡ g.0 - low = length-replicate (g.0 - low) true in
    let b : length B ≡ g.1 = length-replicate g.1 false in
    elim (le_or (g.0 - low) q) [
      | inr before ↦ truth (has_lease (A ++ (B ++ T)) (q + 0)) (first_pages true (g.0 - low) (q + 0) (B ++ T) (omega arith)) (free 0 some)
      | inl behind ↦
          let k = q - (g.0 - low) in
          let in_hole : IsFree (B ++ T) k n = free_behind A (B ++ T) q k n (omega arith) free in
          elim (le_or g.1 k) [
            | inl past ↦
                let rest : IsFree T (k - g.1) n = free_behind B T k (k - g.1) n (omega arith) in_hole in
                let found = behind_short n (g.0 + g.1) (g.0 + g.1 + 1) end (k - g.1) pre post some (omega arith) s.3 short.1 rest in
                let same : g.0 + g.1 + (k - g.1) ≡ low + q = omega (arith, s.0) in
                subst (λ p. Begins post p) same found
            | inr inside ↦
                -- the hole ends within the n pages
                let j = g.1 - k in
                let met : IsFree T 0 (n - j) = λ i h.
                let far : j + i < n = omega arith in
                let same : k + (j + i) ≡ length B + i = omega arith in
                let none : 0 + i ≡ i = omega arith in
                ap (λ p. get_or T p true) none ∙ sym (Rattle.std.proofs.lemmas.List.get_or-append-add B T i true) ∙ ap (λ p. get_or (B ++ T) p true) (sym same) ∙ in_hole (j + i) far in
                truth (has_lease T 0) (after_hole (g.0 + g.1) end (pre ++ post) s.3) (ap (λ p. has_lease T p) (let e : 0 ≡ 0 + 0 = omega arith in e) ∙ met 0 (omega (arith, short.0)))
          ]
    ]

-- the first hole that is long enough has the least place
pub least_place : (n end : ℕ) (pre post : List Span) (h : Span) → 0 < n → n ≤ h.1 → Spaced 0 end (pre ++ h ∷ post) → AllShort n pre → Before 0 h.0 pre
    → IsLeastPlace (table 0 end (pre ++ h ∷ post)) n h.0
unfolding IsLeastPlace
least_place n end pre post h some fits s short before =
    let P = table 0 h.0 pre in
    let long : length P ≡ h.0 = length-table 0 h.0 pre before ∙ (let e : h.0 - 0 ≡ h.0 = omega arith in e) in
    let parts : table 0 end (pre ++ h ∷ post) ≡ P ++ (replicate h.1 false ++ table (h.0 + h.1) end post) =
    split 0 h.0 end pre (h ∷ post) before (omega arith) ∙ ap (λ l. P ++ l) (table_here end h.1 h.0 post) in (
      subst (λ t. IsFree t h.0 n) (sym parts) (free_at P (table (h.0 + h.1) end post) h.1 n h.0 long fits),
      λ q below free. let found = behind_short n 0 0 end q pre (h ∷ post) some (omega arith) s short free in absurd (omega arith),
    )

-- where every hole is too short there is no place
pub no_place : (n end : ℕ) (hs : List Span) → 0 < n → Spaced 0 end hs → AllShort n hs → HasNoPlace (table 0 end hs) n
unfolding HasNoPlace
no_place n end hs some s short q free =
    let all : hs ++ [] ≡ hs = Rattle.std.proofs.Common.append-nil hs in
    behind_short n 0 0 end q hs [] some (omega arith) (subst (λ l. Spaced 0 end l) (sym all) s) short (subst (λ l. IsFree (table 0 end l) q n) (sym all) free)

pub all_short : (n i : ℕ) (hs : List Span) → ((k : ℕ) → k < i → k < length hs → (get_or hs k (0, 0)).1 < n) → AllShort n (take i hs)
all_short n zero hs f = tt
all_short n (suc i) [] f = tt
all_short n (suc i) (h ∷ hs) f = (f 0 (omega arith) (omega arith), all_short n i hs (λ k a b. f (suc k) (omega arith) (omega arith)))

-- ---- the maximal runs
abbrev Beyond : ℕ → List Span → Type 0
Beyond p [] = Unit {0}
Beyond p (h ∷ hs) = p < h.0

passed : (m low : ℕ) (t : List Bool) → runs_from low (replicate m true ++ t) ≡ runs_from (low + m) t
passed zero low t = ap (λ p. runs_from p t) (let e : low ≡ low + 0 = omega arith in e)
passed (suc m) low t = passed m (low + 1) t ∙ ap (λ p. runs_from p t) (let e : low + 1 + m ≡ low + suc m = omega arith in e)

alone : (low : ℕ) (hs : List Span) → Beyond (low + 1) hs → prepended low hs ≡ (low, 1) ∷ hs
alone low [] b = refl
alone low (h ∷ hs) b =
    by_test (eqb h.0 (low + 1))
    (λ e. absurd (let same : h.0 ≡ low + 1 = eqb-true h.0 (low + 1) e in omega arith))
    (λ e. ap (λ (u : Bool). cond u ((low, h.1 + 1) ∷ hs) ((low, 1) ∷ h ∷ hs)) e)

run_found : (m low : ℕ) (t : List Bool) → Beyond (low + suc m) (runs_from (low + suc m) t) → runs_from low (replicate (suc m) false ++ t) ≡ (low, suc m) ∷ runs_from (low + suc m) t
run_found zero low t b =
    let e : low + suc 0 ≡ low + 1 = omega arith in
    alone low (runs_from (low + 1) t) (subst (λ p. Beyond p (runs_from p t)) e b) ∙ ap (λ p. (low, 1) ∷ runs_from p t) (sym e)
run_found (suc m) low t b =
    let e : low + suc (suc m) ≡ low + 1 + suc m = omega arith in
    let R = runs_from (low + 1 + suc m) t in
    ap (λ l. prepended low l) (run_found m (low + 1) t (subst (λ p. Beyond p (runs_from p t)) e b))
    ∙ ap (λ (u : Bool). cond u ((low, suc m + 1) ∷ R) ((low, 1) ∷ (low + 1, suc m) ∷ R)) (Rattle.std.proofs.Common.eq-eqb (low + 1) (low + 1) refl)
    ∙ ap₂ (λ k p. (low, k) ∷ runs_from p t) (let f : suc m + 1 ≡ suc (suc m) = omega arith in f) (sym e)

beyond : (from end : ℕ) (hs : List Span) (p : ℕ) → p < from → Spaced from end hs → Beyond p hs
beyond from end [] p h s = tt
beyond from end (g ∷ hs) p h s = omega (arith, s.0)

-- the maximal runs are the holes
pub runs-table : (low from end : ℕ) (hs : List Span) → low ≤ from → Spaced from end hs → runs_from low (table low end hs) ≡ hs
runs-table low from end [] le s =
    ap (λ l. runs_from low l) (sym (Rattle.std.proofs.Common.append-nil (replicate (end - low) true))) ∙ passed (end - low) low []
runs-table low from end ((at, zero) ∷ hs) le s = absurd (omega (arith, s.1))
runs-table low from end ((at, suc m) ∷ hs) le s =
    let here : low + (at - low) ≡ at = omega (arith, s.0) in
    let T = table (at + suc m) end hs in
    let rest : runs_from (at + suc m) T ≡ hs = runs-table (at + suc m) (at + suc m + 1) end hs (omega arith) s.3 in
    passed (at - low) low (replicate (suc m) false ++ T)
    ∙ ap (λ p. runs_from p (replicate (suc m) false ++ T)) here
    ∙ run_found m at T (subst (λ l. Beyond (at + suc m) l) (sym rest) (beyond (at + suc m + 1) end hs (at + suc m) (omega arith) s.3))
    ∙ ap (λ l. (at, suc m) ∷ l) rest

-- ---- how many pages
counts_all : (p : Bool → Bool) (b : Bool) (m : ℕ) (t : List Bool) → p b ≡ true → count_by p (replicate m b ++ t) ≡ m + count_by p t
counts_all p b m t e =
    let f : Bool → ℕ = λ x. cond (p x) 1 0 in
    sum_by-append f (replicate m b) t ∙ ap (λ n. n + count_by p t) (sum_by-replicate f m b ∙ ap (λ (u : Bool). m * cond u 1 0) e ∙ (let g : m * 1 ≡ m = omega arith in g))

counts_none : (p : Bool → Bool) (b : Bool) (m : ℕ) (t : List Bool) → p b ≡ false → count_by p (replicate m b ++ t) ≡ count_by p t
counts_none p b m t e =
    let f : Bool → ℕ = λ x. cond (p x) 1 0 in
    sum_by-append f (replicate m b) t ∙ ap (λ n. n + count_by p t) (sum_by-replicate f m b ∙ ap (λ (u : Bool). m * cond u 1 0) e)
    ∙ (let g : m * 0 + count_by p t ≡ count_by p t = omega arith in g)

pub free_pages : (low end : ℕ) (hs : List Span) → count_by not (table low end hs) ≡ total hs
free_pages low end [] =
    let f : Bool → ℕ = λ x. cond (not x) 1 0 in
    sum_by-replicate f (end - low) true ∙ (let g : (end - low) * 0 ≡ 0 = omega arith in g)
free_pages low end (h ∷ hs) =
    counts_none not true (h.0 - low) (replicate h.1 false ++ table (h.0 + h.1) end hs) refl
    ∙ counts_all not false h.1 (table (h.0 + h.1) end hs) refl ∙ ap (λ n. h.1 + n) (free_pages (h.0 + h.1) end hs)

-- each page has a lease or none
pub pages_of_both : (t : List Bool) → count_by (λ b. b) t + count_by not t ≡ length t
pages_of_both [] = refl
pages_of_both (true ∷ t) =
    let rest = pages_of_both t in
    let a : count_by (λ b. b) (true ∷ t) ≡ 0 + 1 + count_by (λ b. b) t = sum_by-append (λ x. cond x 1 0) (true ∷ []) t in
    let b : count_by not (true ∷ t) ≡ 0 + 0 + count_by not t = sum_by-append (λ x. cond (not x) 1 0) (true ∷ []) t in
    ap₂ (λ m n. m + n) a b ∙ (let g : 0 + 1 + count_by (λ c. c) t + (0 + 0 + count_by not t) ≡ suc (length t) = omega arith in g)
pages_of_both (false ∷ t) =
    let rest = pages_of_both t in
    let a : count_by (λ b. b) (false ∷ t) ≡ 0 + 0 + count_by (λ b. b) t = sum_by-append (λ x. cond x 1 0) (false ∷ []) t in
    let b : count_by not (false ∷ t) ≡ 0 + 1 + count_by not t = sum_by-append (λ x. cond (not x) 1 0) (false ∷ []) t in
    ap₂ (λ m n. m + n) a b ∙ (let g : 0 + 0 + count_by (λ c. c) t + (0 + 1 + count_by not t) ≡ suc (length t) = omega arith in g)

pub pages_counted : (end : ℕ) (hs : List Span) → Spaced 0 end hs → count_by (λ b. b) (table 0 end hs) + count_by not (table 0 end hs) ≡ end
pages_counted end hs s =
    pages_of_both (table 0 end hs) ∙ length-table 0 end hs (before_end 0 0 end hs (omega arith) (omega arith) s) ∙ (let e : end - 0 ≡ end = omega arith in e)

pub total_within : (end : ℕ) (hs : List Span) → Spaced 0 end hs → total hs ≤ end
total_within end hs s = let all = pages_counted end hs s in let free = free_pages 0 end hs in omega arith

pub total-take-le : (i : ℕ) (hs : List Span) → total (take i hs) ≤ total hs
total-take-le zero [] = omega arith
total-take-le zero (g ∷ hs) = let e : total (take 0 (g ∷ hs)) ≡ 0 = refl in omega arith
total-take-le (suc i) [] = omega arith
total-take-le (suc i) (g ∷ hs) = let rest = total-take-le i hs in omega arith

pub total-take : (i : ℕ) (hs : List Span) → i < length hs → total (take (i + 1) hs) ≡ total (take i hs) + (get_or hs i (0, 0)).1
total-take i [] h = absurd (omega arith)
total-take zero (g ∷ hs) h = let e : total (take (0 + 1) (g ∷ hs)) ≡ 0 + g.1 = omega arith in e
total-take (suc i) (g ∷ hs) h =
    let rest = total-take i hs (omega arith) in
    ap (λ n. total (take n (g ∷ hs))) (let e : suc i + 1 ≡ suc (i + 1) = omega arith in e)
    ∙ (let e : g.1 + total (take (i + 1) hs) ≡ g.1 + total (take i hs) + (get_or hs i (0, 0)).1 = omega arith in e)

-- the same by the index
pub least_at : (n end at : ℕ) (hs : List Span) → 0 < n → Spaced 0 end hs → at < length hs → ((k : ℕ) → k < at → (get_or hs k (0, 0)).1 < n) → n ≤ (get_or hs at (0, 0)).1
    → IsLeastPlace (table 0 end hs) n (get_or hs at (0, 0)).0
least_at n end at hs some spaced here short long =
    let pre = take at hs in let h = get_or hs at (0, 0) in let post = drop (suc at) hs in
    let parts : hs ≡ pre ++ h ∷ post = at_place at hs here in
    let s : Spaced 0 end (pre ++ h ∷ post) = subst (λ t. Spaced 0 end t) parts spaced in
    subst (λ t. IsLeastPlace (table 0 end t) n h.0) (sym parts)
    (least_place n end pre post h some long s (all_short n at hs (λ k a b. short k a)) (spaced_before 0 0 end pre post h (omega arith) s))

pub none_at : (n end at : ℕ) (hs : List Span) → 0 < n → Spaced 0 end hs → at ≡ length hs → ((k : ℕ) → k < at → (get_or hs k (0, 0)).1 < n) → HasNoPlace (table 0 end hs) n
none_at n end at hs some spaced all short =
    let whole : take at hs ≡ hs = ap (λ k. take k hs) all ∙ take_all (length hs) hs (omega arith) in
    no_place n end hs some spaced (subst (λ t. AllShort n t) whole (all_short n at hs (λ k a b. short k a)))

pub table-sized : (end : ℕ) (hs : List Span) → Spaced 0 end hs → length (table 0 end hs) ≡ end
table-sized end hs s = length-table 0 end hs (before_end 0 0 end hs (omega arith) (omega arith) s) ∙ (let e : end - 0 ≡ end = omega arith in e)
