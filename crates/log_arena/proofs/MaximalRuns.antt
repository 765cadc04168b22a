-- The list of holes of a page table has its maximal runs, and no others.
use Rattle.std.proofs.Common.{◌≡◌, ℕ, zero, suc, ◌+◌, ◌-◌, ◌*◌, ◌<◌, ◌≤◌, inl, inr, Bool, true, false, cond, eqb, List, [], ◌∷◌, ◌++◌, length, get_or, replicate, sym, ap, ap₂, ◌∙◌, subst, arith, eqb-true}
use Rattle.std.proofs.lemmas.List.{length-replicate}
use borrow.Author.Tests.{eqb-false}
use Rattle.log_arena.specs.Pages.{has_lease, IsMaximalRun, prepended, runs_from}
use Rattle.log_arena.specs.Spans.{Span, Spaced, table}
use Rattle.log_arena.proofs.Marks.{first_pages, page_behind, all_leased, free_at, free_behind}
use Rattle.log_arena.proofs.Tables.{by_test, le_or, table_here, table_later, clear_of, spaced_lower}
use Rattle.log_arena.proofs.Places.{truth, after_hole}

-- ---- a table is that of its runs
-- the runs hs are in order, and their table is t
abbrev pub Stand : ℕ → ℕ → List Span → List Bool → Type 0
Stand low end hs t = Spaced low end hs × (table low end hs ≡ t)

joined_stands : (low end : ℕ) (h : Span) (hs : List Span) → h.0 ≡ low + 1 → Spaced (low + 1) end (h ∷ hs) → Stand low end ((low, h.1 + 1) ∷ hs) (false ∷ table (low + 1) end (h ∷ hs))
joined_stands low end h hs e s =
    let far : low + (h.1 + 1) ≡ h.0 + h.1 = omega arith in
    let more : h.1 + 1 ≡ suc h.1 = omega arith in
    let next : h.0 + h.1 + 1 ≡ low + (h.1 + 1) + 1 = omega arith in
    let none : 0 ≡ h.0 - (low + 1) = omega arith in
    let U = table (h.0 + h.1) end hs in (
      (omega arith, omega arith, omega (arith, s.2), subst (λ q. Spaced q end hs) next s.3),
      table_here end (h.1 + 1) low hs ∙ ap₂ (λ k q. replicate k false ++ table q end hs) more far
          ∙ ap (λ k. false ∷ (replicate k true ++ (replicate h.1 false ++ U))) none,
    )

alone_stands : (low end : ℕ) (hs : List Span) → low + 1 ≤ end → Spaced (low + 1 + 1) end hs → Stand low end ((low, 1) ∷ hs) (false ∷ table (low + 1) end hs)
alone_stands low end hs le s = ((omega arith, omega arith, le, s), table_here end 1 low hs)

prepended_stands : (low end : ℕ) (hs : List Span) → low + 1 ≤ end → Spaced (low + 1) end hs → Stand low end (prepended low hs) (false ∷ table (low + 1) end hs)
prepended_stands low end [] le s = alone_stands low end [] le tt
prepended_stands low end (h ∷ hs) le s =
    by_test (eqb h.0 (low + 1))
    (λ e. subst (λ (u : Bool). Stand low end (cond u ((low, h.1 + 1) ∷ hs) ((low, 1) ∷ h ∷ hs)) (false ∷ table (low + 1) end (h ∷ hs))) (sym e)
    (joined_stands low end h hs (eqb-true h.0 (low + 1) e) s))
    (λ e. let other = eqb-false h.0 (low + 1) e in
    subst (λ (u : Bool). Stand low end (cond u ((low, h.1 + 1) ∷ hs) ((low, 1) ∷ h ∷ hs)) (false ∷ table (low + 1) end (h ∷ hs))) (sym e)
    (alone_stands low end (h ∷ hs) le (omega (arith, s.0), s.1, s.2, s.3)))

pub runs_stand : (low : ℕ) (t : List Bool) → Stand low (low + length t) (runs_from low t) t
runs_stand low [] = (tt, ap (λ k. replicate k true) (let e : low + 0 - low ≡ 0 = omega arith in e))
runs_stand low (true ∷ t) =
    let end = low + length (true ∷ t) in let hs = runs_from (low + 1) t in
    let same : low + 1 + length t ≡ end = omega arith in
    let rest : Stand (low + 1) end hs t = subst (λ e. Stand (low + 1) e hs t) same (runs_stand (low + 1) t) in (
      spaced_lower (low + 1) low end hs (omega arith) rest.0,
      table_later low 1 end hs (clear_of (low + 1) (low + 1) end hs rest.0 (omega arith) (omega arith)) ∙ ap (λ l. true ∷ l) rest.1,
    )
runs_stand low (false ∷ t) =
    let end = low + length (false ∷ t) in let hs = runs_from (low + 1) t in
    let same : low + 1 + length t ≡ end = omega arith in
    let rest : Stand (low + 1) end hs t = subst (λ e. Stand (low + 1) e hs t) same (runs_stand (low + 1) t) in
    let all = prepended_stands low end hs (omega arith) rest.0 in
    (all.0, all.1 ∙ ap (λ l. false ∷ l) rest.1)

-- ---- the runs of a table
run_behind : (xs ys : List Bool) (at k n : ℕ) → at ≡ length xs + k → 0 < k → IsMaximalRun ys k n → IsMaximalRun (xs ++ ys) at n
run_behind xs ys at k n e later r = record {
  some = r.some;
  free = λ j h. page_behind xs ys (at + j) (k + j) (omega arith) ∙ r.free j h;
  before = λ _. page_behind xs ys (at - 1) (k - 1) (omega arith) ∙ r.before later;
  behind = page_behind xs ys (at + n) (k + n) (omega arith) ∙ r.behind;
}

run_ahead : (xs ys : List Bool) (at k n : ℕ) → at ≡ length xs + k → IsMaximalRun (xs ++ ys) at n → IsMaximalRun ys k n
run_ahead xs ys at k n e r = record {
  some = r.some;
  free = free_behind xs ys at k n e r.free;
  before = λ later. sym (page_behind xs ys (at - 1) (k - 1) (omega arith)) ∙ r.before (omega arith);
  behind = sym (page_behind xs ys (at + n) (k + n) (omega arith)) ∙ r.behind;
}

pub spaced_from : (from end i : ℕ) (hs : List Span) → Spaced from end hs → i < length hs → from ≤ (get_or hs i (0, 0)).0
spaced_from from end i [] s h = absurd (omega arith)
spaced_from from end zero (g ∷ hs) s h = s.0
spaced_from from end (suc i) (g ∷ hs) s h = let rest = spaced_from (g.0 + g.1 + 1) end i hs s.3 (omega arith) in omega (arith, s.0)

-- a hole is a maximal run
pub hole_is_run : (low from end i : ℕ) (hs : List Span) → low ≤ from → Spaced from end hs → i < length hs → IsMaximalRun (table low end hs) ((get_or hs i (0, 0)).0 - low) (get_or hs i (0, 0)).1
hole_is_run low from end i [] le s h = absurd (omega arith)
hole_is_run low from end zero (g ∷ hs) le s h =
    let A = replicate (g.0 - low) true in let B = replicate g.1 false in let T = table (g.0 + g.1) end hs in
    let a : length A ≡ g.0 - low = length-replicate (g.0 - low) true in
    let b : length B ≡ g.1 = length-replicate g.1 false in
    record {
      some = s.1;
      free = free_at A T g.1 g.1 (g.0 - low) a (omega arith);
      before = λ later. first_pages true (g.0 - low) (g.0 - low - 1) (B ++ T) (omega arith);
      behind = page_behind A (B ++ T) (g.0 - low + g.1) g.1 (omega arith) ∙ page_behind B T g.1 0 (omega arith) ∙ after_hole (g.0 + g.1) end hs s.3;
    }
hole_is_run low from end (suc i) (g ∷ hs) le s h =
    let A = replicate (g.0 - low) true in let B = replicate g.1 false in let T = table (g.0 + g.1) end hs in
    let a : length A ≡ g.0 - low = length-replicate (g.0 - low) true in
    let b : length B ≡ g.1 = length-replicate g.1 false in
    let at = (get_or hs i (0, 0)).0 in let n = (get_or hs i (0, 0)).1 in let k = at - (g.0 + g.1) in
    let behind = spaced_from (g.0 + g.1 + 1) end i hs s.3 (omega arith) in
    run_behind A (B ++ T) (at - low) (g.1 + k) n (omega (arith, s.0)) (omega arith)
    (run_behind B T (g.1 + k) k n (omega arith) (omega arith) (hole_is_run (g.0 + g.1) (g.0 + g.1 + 1) end i hs (omega arith) s.3 (omega arith)))

-- the first hole is the run that begins there
run_here : (end : ℕ) (g : Span) (hs : List Span) (k n : ℕ) → Spaced (g.0 + g.1 + 1) end hs → k < g.1 → IsMaximalRun (replicate g.1 false ++ table (g.0 + g.1) end hs) k n → (k ≡ 0) × (n ≡ g.1)
run_here end g hs k n s inside r =
    let B = replicate g.1 false in let T = table (g.0 + g.1) end hs in
    let b : length B ≡ g.1 = length-replicate g.1 false in
    let first : k ≡ 0 = elim (le_or k 0) [
      | inl none ↦ omega arith
      | inr some ↦ truth (has_lease (B ++ T) (k - 1)) (r.before some) (first_pages false g.1 (k - 1) T (omega arith))
    ] in (
      first,
      elim (le_or g.1 n) [
        | inr less ↦ truth (has_lease (B ++ T) (k + n)) r.behind (first_pages false g.1 (k + n) T (omega arith))
        | inl fits ↦ elim (le_or n g.1) [
          | inl same ↦ omega arith
          | inr more ↦ truth (has_lease (B ++ T) (k + g.1)) (page_behind B T (k + g.1) 0 (omega arith) ∙ after_hole (g.0 + g.1) end hs s) (r.free g.1 more)
        ]
      ],
    )

-- the place in the list of the hole (p, n)
abbrev pub Found : List Span → ℕ → ℕ → Type 0
Found hs p n = (i : ℕ) × (i < length hs) × (get_or hs i (0, 0) ≡ (p, n))

found_behind : (g : Span) (hs : List Span) (p q n : ℕ) → p ≡ q → Found hs p n → Found (g ∷ hs) q n
found_behind g hs p q n e found = (suc found.0, omega (arith, found.1), found.2 ∙ ap (λ k. let h : Span = (k, n) in h) e)

-- a maximal run is a hole
pub run_is_hole : (low from end q n : ℕ) (hs : List Span) → low ≤ from → Spaced from end hs → IsMaximalRun (table low end hs) q n → Found hs (low + q) n
run_is_hole low from end q n [] le s r = truth (has_lease (table low end []) (q + 0)) (all_leased (end - low) (q + 0)) (r.free 0 r.some)
run_is_hole low from end q n (g ∷ hs) le s r =
    let A = replicate (g.0 - low) true in let B = replicate g.1 false in let T = table (g.0 + g.1) end hs in
    let a : length A ≡ g.0 - low = length-replicate (g.0 - low) true in
    let b : length B ≡ g.1 = length-replicate g.1 false in
    elim (le_or (g.0 - low) q) [
      | inr before ↦ truth (has_lease (A ++ (B ++ T)) (q + 0)) (first_pages true (g.0 - low) (q + 0) (B ++ T) (omega arith)) (r.free 0 r.some)
      | inl behind ↦
          let k = q - (g.0 - low) in
          let next : IsMaximalRun (B ++ T) k n = run_ahead A (B ++ T) q k n (omega arith) r in
          elim (le_or g.1 k) [
            | inl past ↦
                let found = run_is_hole (g.0 + g.1) (g.0 + g.1 + 1) end (k - g.1) n hs (omega arith) s.3 (run_ahead B T k (k - g.1) n (omega arith) next) in
                found_behind g hs (g.0 + g.1 + (k - g.1)) (low + q) n (omega (arith, s.0)) found
            | inr inside ↦
                let here = run_here end g hs k n s.3 inside next in
                let same : g.0 ≡ low + q = omega (arith, s.0, here.0) in
                (0, omega arith, ap₂ (λ p m. let h : Span = (p, m) in h) same (sym here.1))
          ]
    ]

-- the holes ascend
pub spaced_next : (from end i : ℕ) (hs : List Span) → Spaced from end hs → i + 1 < length hs → (get_or hs i (0, 0)).0 + (get_or hs i (0, 0)).1 + 1 ≤ (get_or hs (i + 1) (0, 0)).0
spaced_next from end i [] s h = absurd (omega arith)
spaced_next from end zero (g ∷ hs) s h = spaced_from (g.0 + g.1 + 1) end 0 hs s.3 (omega arith)
spaced_next from end (suc i) (g ∷ hs) s h =
    let rest = spaced_next (g.0 + g.1 + 1) end i hs s.3 (omega arith) in
    let e : suc i + 1 ≡ suc (i + 1) = omega arith in
    subst (λ k. (get_or hs i (0, 0)).0 + (get_or hs i (0, 0)).1 + 1 ≤ (get_or (g ∷ hs) k (0, 0)).0) (sym e) rest

-- ---- in bytes
abbrev pub bytes : Span → Span
bytes h = (4096 * h.0, 4096 * h.1)
