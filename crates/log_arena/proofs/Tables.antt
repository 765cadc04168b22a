-- The page table of a list of holes: how it changes as holes are cut, put in and joined.
use Rattle.std.proofs.Common.{◌≡◌, ℕ, zero, suc, ◌+◌, ◌-◌, ◌<◌, ◌≤◌, ◌⊎◌, inl, inr, Bool, true, false, cond, eqb, List, [], ◌∷◌, ◌++◌, length, take, drop, get_or, replicate, append_assoc, refl, sym, ap, ap₂, ◌∙◌, subst, arith, eqb-true, eq-eqb, length-append}
use Rattle.std.proofs.lemmas.List.{length-replicate, replicate-append-replicate, length-take-le}
use Rattle.std.proofs.Math.Seq.{take-append_seam, drop-append_seam}
use Rattle.std.specs.List.{insert, remove}
use borrow.Author.Tests.{eqb-false}
use Rattle.log_arena.specs.Pages.{has_lease, marked}
use Rattle.log_arena.specs.Spans.{Span, Spaced, table, closed, seamed, Remade}
use Rattle.log_arena.proofs.Marks.{first_pages, marked_at, page_behind}

-- by a test's answer
pub by_test : {X : Type 0} (t : Bool) → (t ≡ true → X) → (t ≡ false → X) → X
by_test true y n = y refl
by_test false y n = n refl

pub le_or : (a b : ℕ) → (a ≤ b) ⊎ (b < a)
le_or a b = elim (Rattle.std.proofs.lemmas.Bool.cases_order a b) [ inl e ↦ inl (omega arith) | inr h ↦ elim h [ inl l ↦ inl (omega arith) | inr g ↦ inr g ] ]

-- the holes begin at p or later
abbrev pub Clear : ℕ → ℕ → List Span → Type 0
Clear p end [] = p ≤ end
Clear p end (h ∷ hs) = p ≤ h.0

-- the holes stand in order between low and p
abbrev pub Before : ℕ → ℕ → List Span → Type 0
Before low p [] = low ≤ p
Before low p (h ∷ hs) = (low ≤ h.0) × Before (h.0 + h.1) p hs

pub before_le : (low p : ℕ) (hs : List Span) → Before low p hs → low ≤ p
before_le low p [] b = b
before_le low p (h ∷ hs) b = let rest = before_le (h.0 + h.1) p hs b.1 in omega (arith, b.0)

pub length-table : (low p : ℕ) (hs : List Span) → Before low p hs → length (table low p hs) ≡ p - low
length-table low p [] b = length-replicate (p - low) true
length-table low p (h ∷ hs) b =
    let rest = length-table (h.0 + h.1) p hs b.1 in
    let far = before_le (h.0 + h.1) p hs b.1 in
    length-append (replicate (h.0 - low) true) (replicate h.1 false ++ table (h.0 + h.1) p hs)
    ∙ ap₂ (λ a c. a + c) (length-replicate (h.0 - low) true) (length-append (replicate h.1 false) (table (h.0 + h.1) p hs) ∙ ap₂ (λ a c. a + c) (length-replicate h.1 false) rest)
    ∙ (let e : h.0 - low + (h.1 + (p - (h.0 + h.1))) ≡ p - low = omega (arith, b.0) in e)

-- the pages before the first hole have a lease
pub table_later : (low m end : ℕ) (hs : List Span) → Clear (low + m) end hs → table low end hs ≡ replicate m true ++ table (low + m) end hs
table_later low m end [] c =
    let e : end - low ≡ m + (end - (low + m)) = omega arith in
    ap (λ k. replicate k true) e ∙ sym (replicate-append-replicate m (end - (low + m)) true)
table_later low m end (h ∷ hs) c =
    let e : h.0 - low ≡ m + (h.0 - (low + m)) = omega arith in
    let X = replicate h.1 false ++ table (h.0 + h.1) end hs in
    ap (λ k. replicate k true ++ X) e ∙ ap (λ l. l ++ X) (sym (replicate-append-replicate m (h.0 - (low + m)) true))
    ∙ append_assoc (replicate m true) (replicate (h.0 - (low + m)) true) X

-- the table up to p, and from p on
pub split : (low p end : ℕ) (pre post : List Span) → Before low p pre → Clear p end post → table low end (pre ++ post) ≡ table low p pre ++ table p end post
split low p end [] post b c =
    let e : low + (p - low) ≡ p = omega arith in
    table_later low (p - low) end post (subst (λ k. Clear k end post) (sym e) c) ∙ ap (λ k. replicate (p - low) true ++ table k end post) e
split low p end (h ∷ hs) post b c =
    let A = replicate (h.0 - low) true in let B = replicate h.1 false in let T = table (h.0 + h.1) p hs in let U = table p end post in
    ap (λ l. A ++ (B ++ l)) (split (h.0 + h.1) p end hs post b.1 c) ∙ ap (λ l. A ++ l) (sym (append_assoc B T U)) ∙ sym (append_assoc A (B ++ T) U)

-- where the first hole begins at once
pub table_here : (end n : ℕ) (at : ℕ) (post : List Span) → table at end ((at, n) ∷ post) ≡ replicate n false ++ table (at + n) end post
table_here end n at post = let e : at - at ≡ 0 = omega arith in ap (λ k. replicate k true ++ (replicate n false ++ table (at + n) end post)) e

clear_less : (p q end : ℕ) (hs : List Span) → q ≤ p → Clear p end hs → Clear q end hs
clear_less p q end [] h c = omega arith
clear_less p q end (g ∷ hs) h c = omega arith

-- the pages of s have a lease where the holes are before and behind them
pub clear_table : (end : ℕ) (pre post : List Span) (s : Span) → Before 0 s.0 pre → Clear (s.0 + s.1) end post
    → table 0 end (pre ++ post) ≡ table 0 s.0 pre ++ (replicate s.1 true ++ table (s.0 + s.1) end post)
clear_table end pre post s b c =
    split 0 s.0 end pre post b (clear_less (s.0 + s.1) s.0 end post (omega arith) c) ∙ ap (λ l. table 0 s.0 pre ++ l) (table_later s.0 s.1 end post c)

-- a hole is put in: its pages have no lease now
pub put_table : (end : ℕ) (pre post : List Span) (s : Span) → Before 0 s.0 pre → Clear (s.0 + s.1) end post
    → table 0 end (pre ++ s ∷ post) ≡ marked false s.0 s.1 (table 0 end (pre ++ post))
put_table end pre post s b c =
    let P = table 0 s.0 pre in let Q = table (s.0 + s.1) end post in
    let long : length P ≡ s.0 = length-table 0 s.0 pre b ∙ (let e : s.0 - 0 ≡ s.0 = omega arith in e) in
    let new : table 0 end (pre ++ s ∷ post) ≡ P ++ (replicate s.1 false ++ Q) =
    split 0 s.0 end pre (s ∷ post) b (omega arith) ∙ ap (λ l. P ++ l) (table_here end s.1 s.0 post) in
    let old : table 0 end (pre ++ post) ≡ P ++ (replicate s.1 true ++ Q) = clear_table end pre post s b c in
    new ∙ sym (marked_at false P (replicate s.1 true) Q s.0 s.1 long (length-replicate s.1 true)) ∙ ap (λ l. marked false s.0 s.1 l) (sym old)

-- the front of a hole is leased
pub front_table : (end n : ℕ) (pre post : List Span) (h : Span) → n ≤ h.1 → Before 0 h.0 pre
    → table 0 end (pre ++ (h.0 + n, h.1 - n) ∷ post) ≡ marked true h.0 n (table 0 end (pre ++ h ∷ post))
front_table end n pre post h small b =
    let P = table 0 h.0 pre in let Q = table (h.0 + h.1) end post in let left = h.1 - n in
    let long : length P ≡ h.0 = length-table 0 h.0 pre b ∙ (let e : h.0 - 0 ≡ h.0 = omega arith in e) in
    let first : h.0 + n - h.0 ≡ n = omega arith in
    let last : h.0 + n + left ≡ h.0 + h.1 = omega arith in
    let all : n + left ≡ h.1 = omega arith in
    let new : table 0 end (pre ++ (h.0 + n, left) ∷ post) ≡ P ++ (replicate n true ++ (replicate left false ++ Q)) =
    split 0 h.0 end pre ((h.0 + n, left) ∷ post) b (omega arith)
    ∙ ap₂ (λ k q. P ++ (replicate k true ++ (replicate left false ++ table q end post))) first last in
    let old : table 0 end (pre ++ h ∷ post) ≡ P ++ (replicate n false ++ (replicate left false ++ Q)) =
    split 0 h.0 end pre (h ∷ post) b (omega arith) ∙ ap (λ l. P ++ l) (table_here end h.1 h.0 post)
    ∙ ap (λ l. P ++ (l ++ Q)) (ap (λ k. replicate k false) (sym all) ∙ sym (replicate-append-replicate n left false))
    ∙ ap (λ l. P ++ l) (append_assoc (replicate n false) (replicate left false) Q) in
    new ∙ sym (marked_at true P (replicate n false) (replicate left false ++ Q) h.0 n long (length-replicate n false)) ∙ ap (λ l. marked true h.0 n l) (sym old)

-- all of a hole is leased
pub whole_table : (end : ℕ) (pre post : List Span) (h : Span) → Before 0 h.0 pre → Clear (h.0 + h.1) end post
    → table 0 end (pre ++ post) ≡ marked true h.0 h.1 (table 0 end (pre ++ h ∷ post))
whole_table end pre post h b c =
    let P = table 0 h.0 pre in let Q = table (h.0 + h.1) end post in
    let long : length P ≡ h.0 = length-table 0 h.0 pre b ∙ (let e : h.0 - 0 ≡ h.0 = omega arith in e) in
    let new : table 0 end (pre ++ post) ≡ P ++ (replicate h.1 true ++ Q) =
    split 0 h.0 end pre post b (clear_less (h.0 + h.1) h.0 end post (omega arith) c) ∙ ap (λ l. P ++ l) (table_later h.0 h.1 end post c) in
    let old : table 0 end (pre ++ h ∷ post) ≡ P ++ (replicate h.1 false ++ Q) =
    split 0 h.0 end pre (h ∷ post) b (omega arith) ∙ ap (λ l. P ++ l) (table_here end h.1 h.0 post) in
    new ∙ sym (marked_at true P (replicate h.1 false) Q h.0 h.1 long (length-replicate h.1 false)) ∙ ap (λ l. marked true h.0 h.1 l) (sym old)

-- holes that touch are joined: the table stays
pub closed_table : (end : ℕ) (a : Span) (rest : List Span) → table a.0 end (closed (a ∷ rest)) ≡ table a.0 end (a ∷ rest)
closed_table end a [] = refl
closed_table end a (b ∷ hs) =
    by_test (eqb (a.0 + a.1) b.0)
    (λ e. let touch : a.0 + a.1 ≡ b.0 = eqb-true (a.0 + a.1) b.0 e in
    let A = replicate (a.0 - a.0) true in let T = table (b.0 + b.1) end hs in
    let none : b.0 - (a.0 + a.1) ≡ 0 = omega arith in
    let far : a.0 + (a.1 + b.1) ≡ b.0 + b.1 = omega arith in
    ap (λ (u : Bool). table a.0 end (cond u ((a.0, a.1 + b.1) ∷ hs) (a ∷ b ∷ hs))) e
    ∙ ap₂ (λ l q. A ++ (l ++ table q end hs)) (sym (replicate-append-replicate a.1 b.1 false)) far
    ∙ ap (λ l. A ++ l) (append_assoc (replicate a.1 false) (replicate b.1 false) T)
    ∙ ap (λ k. A ++ (replicate a.1 false ++ (replicate k true ++ (replicate b.1 false ++ T)))) (sym none))
    (λ e. ap (λ (u : Bool). table a.0 end (cond u ((a.0, a.1 + b.1) ∷ hs) (a ∷ b ∷ hs))) e)

pub closed_clear : (p end : ℕ) (a : Span) (rest : List Span) → p ≤ a.0 → Clear p end (closed (a ∷ rest))
closed_clear p end a [] h = h
closed_clear p end a (b ∷ hs) h =
    by_test (eqb (a.0 + a.1) b.0)
    (λ e. subst (λ (u : Bool). Clear p end (cond u ((a.0, a.1 + b.1) ∷ hs) (a ∷ b ∷ hs))) (sym e) h)
    (λ e. subst (λ (u : Bool). Clear p end (cond u ((a.0, a.1 + b.1) ∷ hs) (a ∷ b ∷ hs))) (sym e) h)

-- the first hole and others that it may touch, once they are joined
pub closed_spaced : (from end : ℕ) (a : Span) (rest : List Span) → from ≤ a.0 → 0 < a.1 → a.0 + a.1 ≤ end → Spaced (a.0 + a.1) end rest → Spaced from end (closed (a ∷ rest))
closed_spaced from end a [] above some ends s = (above, some, ends, tt)
closed_spaced from end a (b ∷ hs) above some ends s =
    by_test (eqb (a.0 + a.1) b.0)
    (λ e. let touch : a.0 + a.1 ≡ b.0 = eqb-true (a.0 + a.1) b.0 e in
    let far : b.0 + b.1 + 1 ≡ a.0 + (a.1 + b.1) + 1 = omega arith in
    subst (λ (u : Bool). Spaced from end (cond u ((a.0, a.1 + b.1) ∷ hs) (a ∷ b ∷ hs))) (sym e)
    (above, omega arith, omega (arith, s.2), subst (λ q. Spaced q end hs) far s.3))
    (λ e. let apart = eqb-false (a.0 + a.1) b.0 e in
    subst (λ (u : Bool). Spaced from end (cond u ((a.0, a.1 + b.1) ∷ hs) (a ∷ b ∷ hs))) (sym e)
    (above, some, ends, (omega (arith, s.0), s.1, s.2, s.3)))

-- ---- lists in order
pub spaced_later : (from p end : ℕ) (hs : List Span) → Spaced from end hs → Clear p end hs → Spaced p end hs
spaced_later from p end [] s c = tt
spaced_later from p end (h ∷ hs) s c = (c, s.1, s.2, s.3)

pub spaced_lower : (from p end : ℕ) (hs : List Span) → p ≤ from → Spaced from end hs → Spaced p end hs
spaced_lower from p end [] h s = tt
spaced_lower from p end (g ∷ hs) h s = (omega (arith, s.0), s.1, s.2, s.3)

pub clear_of : (from p end : ℕ) (hs : List Span) → Spaced from end hs → p ≤ from → p ≤ end → Clear p end hs
clear_of from p end [] s h e = e
clear_of from p end (g ∷ hs) s h e = omega (arith, s.0)

-- from a hole of the list on
pub spaced_at : (from end : ℕ) (pre post : List Span) (h : Span) → Spaced from end (pre ++ h ∷ post) → Spaced h.0 end (h ∷ post)
spaced_at from end [] post h s = (omega arith, s.1, s.2, s.3)
spaced_at from end (g ∷ pre) post h s = spaced_at (g.0 + g.1 + 1) end pre post h s.3

-- what stands before a hole
pub spaced_before : (low from end : ℕ) (pre post : List Span) (h : Span) → low ≤ from → Spaced from end (pre ++ h ∷ post) → Before low h.0 pre
spaced_before low from end [] post h le s = omega (arith, s.0)
spaced_before low from end (g ∷ pre) post h le s = (omega (arith, s.0), spaced_before (g.0 + g.1) (g.0 + g.1 + 1) end pre post h (omega arith) s.3)

-- the same up to a place behind it
pub spaced_upto : (low from end p : ℕ) (pre post : List Span) (l : Span) → low ≤ from → l.0 + l.1 ≤ p → Spaced from end (pre ++ l ∷ post) → Before low p (pre ++ l ∷ [])
spaced_upto low from end p [] post l le h s = (omega (arith, s.0), h)
spaced_upto low from end p (g ∷ pre) post l le h s = (omega (arith, s.0), spaced_upto (g.0 + g.1) (g.0 + g.1 + 1) end p pre post l (omega arith) h s.3)

-- what follows some holes is replaced
pub spaced_swap : (from end : ℕ) (pre post new : List Span) (h : Span) → Spaced from end (pre ++ h ∷ post) → Spaced h.0 end new → Spaced from end (pre ++ new)
spaced_swap from end [] post new h s n = spaced_lower h.0 from end new s.0 n
spaced_swap from end (g ∷ pre) post new h s n = (s.0, s.1, s.2, spaced_swap (g.0 + g.1 + 1) end pre post new h s.3 n)

-- two holes have a page between them, so there are not many
pub spaced_count : (from end : ℕ) (hs : List Span) → from ≤ end + 2 → Spaced from end hs → length hs + length hs + from ≤ end + 2
spaced_count from end [] h s = omega arith
spaced_count from end (g ∷ hs) h s =
    let rest = spaced_count (g.0 + g.1 + 1) end hs (omega (arith, s.2)) s.3 in
    omega (arith, s.0, s.1, rest)

-- ---- a place of a list
pub at_place : (i : ℕ) (hs : List Span) → i < length hs → hs ≡ take i hs ++ get_or hs i (0, 0) ∷ drop (suc i) hs
at_place i [] h = absurd (omega arith)
at_place zero (g ∷ hs) h = refl
at_place (suc i) (g ∷ hs) h = ap (λ l. g ∷ l) (at_place i hs (omega arith))

pub front_place : (i : ℕ) (hs : List Span) → i < length hs → take (suc i) hs ≡ take i hs ++ get_or hs i (0, 0) ∷ []
front_place i [] h = absurd (omega arith)
front_place zero (g ∷ hs) h = refl
front_place (suc i) (g ∷ hs) h = ap (λ l. g ∷ l) (front_place i hs (omega arith))

pub clear_at : (p end i : ℕ) (hs : List Span) → p ≤ end → (i < length hs → p ≤ (get_or hs i (0, 0)).0) → Clear p end (drop i hs)
clear_at p end zero [] h f = h
clear_at p end (suc i) [] h f = h
clear_at p end zero (g ∷ hs) h f = f (omega arith)
clear_at p end (suc i) (g ∷ hs) h f = clear_at p end i hs h (λ l. f (omega arith))

pub seam_at : (i : ℕ) (pre post : List Span) → length pre ≡ i → seamed i (pre ++ post) ≡ pre ++ closed post
unfolding seamed
seam_at i pre post e =
    ap₂ (λ a b. a ++ closed b) (ap (λ m. take m (pre ++ post)) (sym e) ∙ take-append_seam pre post) (ap (λ m. drop m (pre ++ post)) (sym e) ∙ drop-append_seam pre post)

take-none : (i : ℕ) → take i (let none : List Span = [] in none) ≡ []
take-none zero = refl
take-none (suc i) = refl

drop-none : (i : ℕ) → drop i (let none : List Span = [] in none) ≡ []
drop-none zero = refl
drop-none (suc i) = refl

-- at the last hole there is nothing to join
pub seamed-end : (i : ℕ) (hs : List Span) → length hs ≤ i + 1 → seamed i hs ≡ hs
unfolding seamed
seamed-end i [] h = ap₂ (λ a b. a ++ closed b) (take-none i) (drop-none i)
seamed-end zero (a ∷ []) h = refl
seamed-end zero (a ∷ b ∷ hs) h = absurd (omega arith)
seamed-end (suc i) (a ∷ hs) h = ap (λ l. a ∷ l) (seamed-end i hs (omega arith))

pub seamed-touch : (i : ℕ) (hs : List Span) → i + 1 < length hs → (get_or hs i (0, 0)).0 + (get_or hs i (0, 0)).1 ≡ (get_or hs (i + 1) (0, 0)).0
    → seamed i hs ≡ take i hs ++ ((get_or hs i (0, 0)).0, (get_or hs i (0, 0)).1 + (get_or hs (i + 1) (0, 0)).1) ∷ drop (i + 2) hs
unfolding seamed
seamed-touch i [] h e = absurd (omega arith)
seamed-touch zero (a ∷ []) h e = absurd (omega arith)
seamed-touch zero (a ∷ b ∷ hs) h e = ap (λ (u : Bool). cond u ((a.0, a.1 + b.1) ∷ hs) (a ∷ b ∷ hs)) (eq-eqb (a.0 + a.1) b.0 e)
seamed-touch (suc i) (a ∷ hs) h e =
    let one : suc i + 1 ≡ suc (i + 1) = omega arith in
    let two : suc i + 2 ≡ suc (i + 2) = omega arith in
    ap (λ l. a ∷ l) (seamed-touch i hs (omega arith) (e ∙ ap (λ k. (get_or (a ∷ hs) k (0, 0)).0) one))
    ∙ ap₂ (λ k m. a ∷ (take i hs ++ ((get_or hs i (0, 0)).0, (get_or hs i (0, 0)).1 + (get_or (a ∷ hs) k (0, 0)).1) ∷ drop m (a ∷ hs))) (sym one) (sym two)

pub seamed-apart : (i : ℕ) (hs : List Span) → i + 1 < length hs → ((get_or hs i (0, 0)).0 + (get_or hs i (0, 0)).1 ≡ (get_or hs (i + 1) (0, 0)).0 → ⊥) → seamed i hs ≡ hs
unfolding seamed
seamed-apart i [] h e = absurd (omega arith)
seamed-apart zero (a ∷ []) h e = absurd (omega arith)
seamed-apart zero (a ∷ b ∷ hs) h e =
    by_test (eqb (a.0 + a.1) b.0) (λ t. absurd (e (eqb-true (a.0 + a.1) b.0 t)))
    (λ t. ap (λ (u : Bool). cond u ((a.0, a.1 + b.1) ∷ hs) (a ∷ b ∷ hs)) t)
seamed-apart (suc i) (a ∷ hs) h e =
    let one : suc i + 1 ≡ suc (i + 1) = omega arith in
    ap (λ l. a ∷ l) (seamed-apart i hs (omega arith) (λ t. e (t ∙ ap (λ k. (get_or (a ∷ hs) k (0, 0)).0) (sym one))))

-- ---- a lease is given back
-- the span s stands between the holes before the at-th and the others
pub record Fits (end : ℕ) (hs : List Span) (at : ℕ) (s : Span) : Type 0 where
  pub spaced : Spaced 0 end hs
  pub place : at ≤ length hs
  pub some : 0 < s.1
  pub within : s.0 + s.1 ≤ end
  pub left : (i : ℕ) → at ≡ suc i → (get_or hs i (0, 0)).0 + (get_or hs i (0, 0)).1 ≤ s.0
  pub right : at < length hs → s.0 + s.1 ≤ (get_or hs at (0, 0)).0

-- the holes, in the two parts that s stands between
parted : (end : ℕ) (hs : List Span) (at : ℕ) (s : Span) → Fits end hs at s
    → (pre : List Span) × ((post : List Span) × ((hs ≡ pre ++ post) × Before 0 s.0 pre × Clear (s.0 + s.1) end post))
parted end hs zero s f = ([], (hs, (refl, omega arith, clear_at (s.0 + s.1) end 0 hs f.within f.right)))
parted end hs (suc i) s f =
    let here : i < length hs = omega (arith, f.place) in
    let pre = take i hs in let l = get_or hs i (0, 0) in let post = drop (suc i) hs in
    let parts : hs ≡ pre ++ l ∷ post = at_place i hs here in
    let spaced : Spaced 0 end (pre ++ l ∷ post) = subst (λ t. Spaced 0 end t) parts f.spaced in (
      pre ++ l ∷ [],
      (
        post,
        (
          parts ∙ sym (append_assoc pre (l ∷ []) post),
          spaced_upto 0 0 end s.0 pre post l (omega arith) (f.left i refl) spaced,
          clear_at (s.0 + s.1) end (suc i) hs f.within f.right,
        ),
      ),
    )

-- none of the pages of s is in a hole
pub pages_held : (end : ℕ) (hs : List Span) (at : ℕ) (s : Span) (k : ℕ) → Fits end hs at s → s.0 ≤ k → k < s.0 + s.1 → has_lease (table 0 end hs) k ≡ true
pages_held end hs at s k f from to =
    let cut = parted end hs at s f in let pre = cut.0 in let post = cut.1.0 in
    let P = table 0 s.0 pre in let Q = table (s.0 + s.1) end post in
    let long : length P ≡ s.0 = length-table 0 s.0 pre cut.1.1.1 ∙ (let e : s.0 - 0 ≡ s.0 = omega arith in e) in
    ap (λ t. has_lease (table 0 end t) k) cut.1.1.0 ∙ ap (λ t. has_lease t k) (clear_table end pre post s cut.1.1.1 cut.1.1.2)
    ∙ page_behind P (replicate s.1 true ++ Q) k (k - s.0) (omega arith) ∙ first_pages true s.1 (k - s.0) Q (omega arith)

given_first : (end : ℕ) (hs : List Span) (s : Span) → Spaced 0 end hs → 0 < s.1 → s.0 + s.1 ≤ end → Clear (s.0 + s.1) end hs → Remade false end hs s (closed (s ∷ hs))
given_first end hs s spaced some within clear = record {
  spaced = closed_spaced 0 end s hs (omega arith) some within (spaced_later 0 (s.0 + s.1) end hs spaced clear);
  pages = split 0 s.0 end [] (closed (s ∷ hs)) (omega arith) (closed_clear s.0 end s hs (omega arith))
      ∙ ap (λ l. table 0 s.0 [] ++ l) (closed_table end s hs)
      ∙ sym (split 0 s.0 end [] (s ∷ hs) (omega arith) (omega arith))
      ∙ put_table end [] hs s (omega arith) clear;
}

given_next : (end : ℕ) (pre post : List Span) (l s : Span) → Spaced 0 end (pre ++ l ∷ post) → 0 < s.1 → s.0 + s.1 ≤ end → l.0 + l.1 ≤ s.0 → Clear (s.0 + s.1) end post
    → Remade false end (pre ++ l ∷ post) s (pre ++ closed (l ∷ closed (s ∷ post)))
given_next end pre post l s spaced some within left clear =
    let X = closed (s ∷ post) in
    let tail = spaced_at 0 end pre post l spaced in
    let before_l : Before 0 l.0 pre = spaced_before 0 0 end pre post l (omega arith) spaced in
    let before_s : Before 0 s.0 (pre ++ l ∷ []) = spaced_upto 0 0 end s.0 pre post l (omega arith) left spaced in
    let post_spaced : Spaced (s.0 + s.1) end post = spaced_later (l.0 + l.1 + 1) (s.0 + s.1) end post tail.3 clear in
    let x_spaced : Spaced s.0 end X = closed_spaced s.0 end s post (omega arith) some within post_spaced in
    let x_clear : Clear s.0 end X = closed_clear s.0 end s post (omega arith) in
    record {
      spaced = spaced_swap 0 end pre post (closed (l ∷ X)) l spaced
          (closed_spaced l.0 end l X (omega arith) tail.1 tail.2 (spaced_lower s.0 (l.0 + l.1) end X left x_spaced));
      pages = split 0 l.0 end pre (closed (l ∷ X)) before_l (closed_clear l.0 end l X (omega arith))
          ∙ ap (λ t. table 0 l.0 pre ++ t) (closed_table end l X)
          ∙ sym (split 0 l.0 end pre (l ∷ X) before_l (omega arith))
          ∙ ap (λ t. table 0 end t) (sym (append_assoc pre (l ∷ []) X))
          ∙ split 0 s.0 end (pre ++ l ∷ []) X before_s x_clear
          ∙ ap (λ t. table 0 s.0 (pre ++ l ∷ []) ++ t) (closed_table end s post)
          ∙ sym (split 0 s.0 end (pre ++ l ∷ []) (s ∷ post) before_s (omega arith))
          ∙ put_table end (pre ++ l ∷ []) post s before_s clear
          ∙ ap (λ t. marked false s.0 s.1 (table 0 end t)) (append_assoc pre (l ∷ []) post);
    }

-- put in first, joined at its front
pub given_zero : (end : ℕ) (hs : List Span) (s : Span) → Fits end hs 0 s → Remade false end hs s (seamed 0 (insert hs 0 s))
given_zero end hs s f =
    subst (λ l. Remade false end hs s l) (sym (seam_at 0 [] (s ∷ hs) refl))
    (given_first end hs s f.spaced f.some f.within (clear_at (s.0 + s.1) end 0 hs f.within f.right))

-- put in behind another, joined on both sides
pub given_suc : (end : ℕ) (hs : List Span) (i : ℕ) (s : Span) → Fits end hs (suc i) s → Remade false end hs s (seamed i (seamed (suc i) (insert hs (suc i) s)))
given_suc end hs i s f =
    let here : i < length hs = omega (arith, f.place) in
    let pre = take i hs in let l = get_or hs i (0, 0) in let post = drop (suc i) hs in let X = closed (s ∷ post) in
    let parts : hs ≡ pre ++ l ∷ post = at_place i hs here in
    let front : take (suc i) hs ≡ pre ++ l ∷ [] = front_place i hs here in
    let long : length pre ≡ i = length-take-le i hs (omega arith) in
    let long' : length (pre ++ l ∷ []) ≡ suc i = length-append pre (l ∷ []) ∙ (let e : length pre + 1 ≡ suc i = omega arith in e) in
    let inner : seamed (suc i) (insert hs (suc i) s) ≡ pre ++ l ∷ X =
    ap (λ t. seamed (suc i) (t ++ s ∷ post)) front ∙ seam_at (suc i) (pre ++ l ∷ []) (s ∷ post) long' ∙ append_assoc pre (l ∷ []) X in
    let outer : seamed i (seamed (suc i) (insert hs (suc i) s)) ≡ pre ++ closed (l ∷ X) =
    ap (λ t. seamed i t) inner ∙ seam_at i pre (l ∷ X) long in
    let spaced : Spaced 0 end (pre ++ l ∷ post) = subst (λ t. Spaced 0 end t) parts f.spaced in
    let got = given_next end pre post l s spaced f.some f.within (f.left i refl) (clear_at (s.0 + s.1) end (suc i) hs f.within f.right) in
    subst (λ t. Remade false end hs s t) (sym outer) (subst (λ t. Remade false end t s (pre ++ closed (l ∷ X))) (sym parts) got)

pub seamed-length : (i : ℕ) (hs : List Span) → length (seamed i hs) ≤ length hs
unfolding seamed
seamed-length i [] = let e : length (take i (let none : List Span = [] in none) ++ closed (drop i (let none : List Span = [] in none))) ≡ 0 = ap₂ (λ a b. length (a ++ closed b)) (take-none i) (drop-none i) in omega arith
seamed-length zero (a ∷ []) = omega arith
seamed-length zero (a ∷ b ∷ hs) =
    by_test (eqb (a.0 + a.1) b.0)
    (λ e. subst (λ (u : Bool). length (cond u ((a.0, a.1 + b.1) ∷ hs) (a ∷ b ∷ hs)) ≤ suc (suc (length hs))) (sym e) (omega arith))
    (λ e. subst (λ (u : Bool). length (cond u ((a.0, a.1 + b.1) ∷ hs) (a ∷ b ∷ hs)) ≤ suc (suc (length hs))) (sym e) (omega arith))
seamed-length (suc i) (a ∷ hs) = let rest = seamed-length i hs in omega arith

-- all of a hole goes out
pub taken_whole : (end at : ℕ) (hs : List Span) → at < length hs → Spaced 0 end hs → Remade true end hs (get_or hs at (0, 0)) (remove hs at)
taken_whole end at hs here spaced =
    let pre = take at hs in let h = get_or hs at (0, 0) in let post = drop (suc at) hs in
    let parts : hs ≡ pre ++ h ∷ post = at_place at hs here in
    let s : Spaced 0 end (pre ++ h ∷ post) = subst (λ t. Spaced 0 end t) parts spaced in
    let tail = spaced_at 0 end pre post h s in
    let before = spaced_before 0 0 end pre post h (omega arith) s in
    let clear : Clear (h.0 + h.1) end post = clear_of (h.0 + h.1 + 1) (h.0 + h.1) end post tail.3 (omega arith) tail.2 in
    record {
      spaced = spaced_swap 0 end pre post post h s (spaced_lower (h.0 + h.1 + 1) h.0 end post (omega arith) tail.3);
      pages = whole_table end pre post h before clear ∙ ap (λ t. marked true h.0 h.1 (table 0 end t)) (sym parts);
    }

-- the front of a hole goes out
pub taken_front : (end at n : ℕ) (hs : List Span) → at < length hs → n < (get_or hs at (0, 0)).1 → Spaced 0 end hs
    → Remade true end hs ((get_or hs at (0, 0)).0, n) (take at hs ++ ((get_or hs at (0, 0)).0 + n, (get_or hs at (0, 0)).1 - n) ∷ drop (suc at) hs)
taken_front end at n hs here small spaced =
    let pre = take at hs in let h = get_or hs at (0, 0) in let post = drop (suc at) hs in
    let parts : hs ≡ pre ++ h ∷ post = at_place at hs here in
    let s : Spaced 0 end (pre ++ h ∷ post) = subst (λ t. Spaced 0 end t) parts spaced in
    let tail = spaced_at 0 end pre post h s in
    let before = spaced_before 0 0 end pre post h (omega arith) s in
    let last : h.0 + h.1 + 1 ≡ h.0 + n + (h.1 - n) + 1 = omega arith in
    let rest : Spaced h.0 end ((h.0 + n, h.1 - n) ∷ post) = (omega arith, omega arith, omega (arith, tail.2), subst (λ q. Spaced q end post) last tail.3) in
    record {
      spaced = spaced_swap 0 end pre post ((h.0 + n, h.1 - n) ∷ post) h s rest;
      pages = front_table end n pre post h (omega arith) before ∙ ap (λ t. marked true h.0 n (table 0 end t)) (sym parts);
    }

pub before_end : (low from end : ℕ) (hs : List Span) → low ≤ from → low ≤ end → Spaced from end hs → Before low end hs
before_end low from end [] h le s = le
before_end low from end (g ∷ hs) h le s = (omega (arith, s.0), before_end (g.0 + g.1) (g.0 + g.1 + 1) end hs (omega arith) s.2 s.3)

pub spaced_within : (from end k : ℕ) (hs : List Span) → Spaced from end hs → k < length hs → (get_or hs k (0, 0)).0 + (get_or hs k (0, 0)).1 ≤ end
spaced_within from end k [] s h = absurd (omega arith)
spaced_within from end zero (g ∷ hs) s h = s.2
spaced_within from end (suc k) (g ∷ hs) s h = spaced_within (g.0 + g.1 + 1) end k hs s.3 (omega arith)
