-- Two lists side by side: the spans and their runs, and the spans in bytes and in pages.
use Rattle.std.proofs.Common.{◌≡◌, ℕ, zero, suc, ◌+◌, ◌-◌, ◌⊎◌, inl, inr, ◌/◌, ◌%◌, ◌^◌, ◌<◌, ◌≤◌, List, [], ◌∷◌, ◌++◌, length, get_or, take, drop, map, refl, sym, ap, ap₂, subst, ◌∙◌, ◌*◌, arith}
use Rattle.std.proofs.lemmas.List.{map-append, take-map, drop-map, length-map}
use Rattle.std.specs.List.{insert, remove}
use denote.RawPtr.{InBlock, Ptr, block_ptr, null_ptr, count_of, ◌+ₚ◌}
use Rattle.log_arena.specs.Homes.{Home, IsHoused, back}
use Rattle.log_arena.specs.Ownership.{Apart}
use Rattle.log_arena.specs.declared.memory.Run.{Run}
use Rattle.log_arena.specs.Spans.{Span, paged, pages_of, IsSpan, Lies, total}

pub lies-length : (base : Ptr) (ss : List Span) (rs : List Run) → Lies base ss rs → length rs ≡ length ss
lies-length base [] [] l = refl
lies-length base [] (r ∷ rs) l = absurd l
lies-length base (s ∷ ss) [] l = absurd l
lies-length base (s ∷ ss) (r ∷ rs) l = ap (λ n. suc n) (lies-length base ss rs l.1)

pub lies-remove : (base : Ptr) (at : ℕ) (ss : List Span) (rs : List Run) → Lies base ss rs → Lies base (remove ss at) (remove rs at)
lies-remove base zero [] [] l = tt
lies-remove base (suc at) [] [] l = tt
lies-remove base zero [] (r ∷ rs) l = absurd l
lies-remove base (suc at) [] (r ∷ rs) l = absurd l
lies-remove base zero (s ∷ ss) [] l = absurd l
lies-remove base (suc at) (s ∷ ss) [] l = absurd l
lies-remove base zero (s ∷ ss) (r ∷ rs) l = l.1
lies-remove base (suc at) (s ∷ ss) (r ∷ rs) l = (l.0, lies-remove base at ss rs l.1)

pub lies-insert : (base : Ptr) (at : ℕ) (s : Span) (r : Run) (ss : List Span) (rs : List Run) → IsSpan base s r → Lies base ss rs → Lies base (insert ss at s) (insert rs at r)
lies-insert base zero s r ss rs new l = (new, l)
lies-insert base (suc at) s r [] [] new l = (new, tt)
lies-insert base (suc at) s r [] (q ∷ rs) new l = absurd l
lies-insert base (suc at) s r (p ∷ ss) [] new l = absurd l
lies-insert base (suc at) s r (p ∷ ss) (q ∷ rs) new l = (l.0, lies-insert base at s r ss rs new l.1)

pub lies-at : (base : Ptr) (at : ℕ) (ss : List Span) (rs : List Run) (d : Span) (e : Run) → at < length ss → Lies base ss rs → IsSpan base (get_or ss at d) (get_or rs at e)
lies-at base at [] [] d e h l = absurd (omega arith)
lies-at base at [] (r ∷ rs) d e h l = absurd l
lies-at base at (s ∷ ss) [] d e h l = absurd l
lies-at base zero (s ∷ ss) (r ∷ rs) d e h l = l.0
lies-at base (suc at) (s ∷ ss) (r ∷ rs) d e h l = lies-at base at ss rs d e (omega arith) l.1

-- the same, of what was read there
pub lies-found : (base : Ptr) (at : ℕ) (ss : List Span) (rs : List Run) (s : Span) (r : Run) → at < length ss → Lies base ss rs → s ≡ get_or ss at s → r ≡ get_or rs at r → IsSpan base s r
lies-found base at ss rs s r h l is is' =
    subst (λ (p : Span). IsSpan base p r) (sym is) (subst (λ (q : Run). IsSpan base (get_or ss at s) q) (sym is') (lies-at base at ss rs s r h l))

pub pages-remove : (at : ℕ) (ss : List Span) → pages_of (remove ss at) ≡ remove (pages_of ss) at
pages-remove at ss = simp (map-append, take-map, drop-map)

pub pages-insert : (at : ℕ) (s : Span) (ss : List Span) → pages_of (insert ss at s) ≡ insert (pages_of ss) at (paged s)
pages-insert at s ss = simp (map-append, take-map, drop-map)

pub pages-at : (at : ℕ) (ss : List Span) → get_or (pages_of ss) at (0, 0) ≡ paged (get_or ss at (0, 0))
pages-at zero [] = refl
pages-at (suc at) [] = refl
pages-at zero (s ∷ ss) = refl
pages-at (suc at) (s ∷ ss) = pages-at at ss

-- there are as many spans in bytes, and as many runs, as spans in pages
pub counted : (base : Ptr) (ss : List Span) (rs : List Run) (hs : List Span) → pages_of ss ≡ hs → Lies base ss rs → (length ss ≡ length hs) × (length rs ≡ length hs)
counted base ss rs hs e l =
    let same : length ss ≡ length hs = sym (length-map ss paged) ∙ ap length e in
    (same, lies-length base ss rs l ∙ same)

-- what was read there, in pages
pub found_page : (at : ℕ) (ss : List Span) (s : Span) → at < length ss → s ≡ get_or ss at s → get_or (pages_of ss) at (0, 0) ≡ paged s
found_page at [] s h e = absurd (omega arith)
found_page zero (p ∷ ss) s h e = ap paged (sym e)
found_page (suc at) (p ∷ ss) s h e = found_page at ss s (omega arith) e

-- a hole goes out and comes back
pub insert-remove : {X : Type 0} (at : ℕ) (xs : List X) (d : X) → at < length xs → insert (remove xs at) at (get_or xs at d) ≡ xs
insert-remove at [] d h = absurd (omega arith)
insert-remove zero (x ∷ xs) d h = refl
insert-remove (suc at) (x ∷ xs) d h = ap (λ l. x ∷ l) (insert-remove at xs d (omega arith))

-- two holes go out, and one comes in their place
pub one_for_two : {X : Type 0} (at : ℕ) (xs : List X) (x : X) → at + 1 < length xs → insert (remove (remove xs (at + 1)) at) at x ≡ take at xs ++ x ∷ drop (at + 2) xs
one_for_two at [] x h = absurd (omega arith)
one_for_two zero (a ∷ []) x h = absurd (omega arith)
one_for_two zero (a ∷ b ∷ xs) x h = refl
one_for_two (suc at) (a ∷ xs) x h =
    let one : suc at + 1 ≡ suc (at + 1) = omega arith in
    let two : suc at + 2 ≡ suc (at + 2) = omega arith in
    ap (λ k. insert (remove (remove (a ∷ xs) k) (suc at)) (suc at) x) one ∙ ap (λ l. a ∷ l) (one_for_two at xs x (omega arith)) ∙ ap (λ k. a ∷ (take at xs ++ x ∷ drop k (a ∷ xs))) (sym two)

pub get-remove : {X : Type 0} (at : ℕ) (xs : List X) (d : X) → at + 1 < length xs → get_or (remove xs (at + 1)) at d ≡ get_or xs at d
get-remove at [] d h = absurd (omega arith)
get-remove zero (x ∷ xs) d h = refl
get-remove (suc at) (x ∷ xs) d h =
    ap (λ k. get_or (remove (x ∷ xs) k) (suc at) d) (let e : suc at + 1 ≡ suc (at + 1) = omega arith in e) ∙ get-remove at xs d (omega arith)

-- what a span of the list is, whatever its run
pub span_is : (base : Ptr) (at : ℕ) (ss : List Span) (rs : List Run) (s : Span) → at < length ss → Lies base ss rs → s ≡ get_or ss at s → (0 < s.1) × (s.0 + s.1 ≤ 2 ^ 28) × (s.0 % 4096 ≡ 0) × (s.1 % 4096 ≡ 0)
span_is base at ss rs s h l is =
    let e : Run = record { ptr = base; items = [] } in
    let found = lies-at base at ss rs s e h l in
    let P : Span → Type 0 = λ p. (0 < p.1) × (p.0 + p.1 ≤ 2 ^ 28) × (p.0 % 4096 ≡ 0) × (p.1 % 4096 ≡ 0) in
    subst P (sym is) (found.some, found.low, found.whole_place, found.whole_len)

-- spans of whole pages, in bytes and in pages
pub touch_pages : (a n b : ℕ) → a % 4096 ≡ 0 → n % 4096 ≡ 0 → b % 4096 ≡ 0 → a + n ≡ b → a / 4096 + n / 4096 ≡ b / 4096
touch_pages a n b ha hn hb e = omega arith

pub touch_bytes : (a n b : ℕ) → a % 4096 ≡ 0 → n % 4096 ≡ 0 → b % 4096 ≡ 0 → a / 4096 + n / 4096 ≡ b / 4096 → a + n ≡ b
touch_bytes a n b ha hn hb e = omega arith

pub next_ptr : (p : Ptr) (i n j : ℕ) → i + n ≡ j → p +ₚ j ≡ p +ₚ i +ₚ n
next_ptr null_ptr i n j e = refl
next_ptr (block_ptr b o) i n j e = ap (λ k. block_ptr b k) (omega arith)

pub div_sum : (a n : ℕ) → a % 4096 ≡ 0 → n % 4096 ≡ 0 → (a + n) / 4096 ≡ a / 4096 + n / 4096
div_sum a n ha hn = omega arith

pub div_sub : (a n : ℕ) → a % 4096 ≡ 0 → n % 4096 ≡ 0 → n ≤ a → (a - n) / 4096 ≡ a / 4096 - n / 4096
div_sub a n ha hn h = omega arith

pub div_le : (i m j : ℕ) → i % 4096 ≡ 0 → m % 4096 ≡ 0 → j % 4096 ≡ 0 → i + m ≤ j → i / 4096 + m / 4096 ≤ j / 4096
div_le i m j hi hm hj h = omega arith

pub div_some : (n : ℕ) → n % 4096 ≡ 0 → 0 < n → 0 < n / 4096
div_some n hn h = omega arith

-- that two spans of the list touch is the same in bytes and in pages
pub touch_told : (base : Ptr) (at : ℕ) (ss : List Span) (rs : List Run) (hs : List Span) (f b : Span) → pages_of ss ≡ hs → Lies base ss rs → at + 1 < length ss
    → f ≡ get_or ss at f → b ≡ get_or ss (at + 1) b
    → (f.0 + f.1 ≡ b.0 → (get_or hs at (0, 0)).0 + (get_or hs at (0, 0)).1 ≡ (get_or hs (at + 1) (0, 0)).0)
    × ((get_or hs at (0, 0)).0 + (get_or hs at (0, 0)).1 ≡ (get_or hs (at + 1) (0, 0)).0 → f.0 + f.1 ≡ b.0)
touch_told base at ss rs hs f b e l next is_f is_b =
    let here : at < length ss = omega arith in
    let first = span_is base at ss rs f here l is_f in
    let second = span_is base (at + 1) ss rs b next l is_b in
    let page_f : get_or hs at (0, 0) ≡ paged f = ap (λ (t : List Span). get_or t at (0, 0)) (sym e) ∙ found_page at ss f here is_f in
    let page_b : get_or hs (at + 1) (0, 0) ≡ paged b = ap (λ (t : List Span). get_or t (at + 1) (0, 0)) (sym e) ∙ found_page (at + 1) ss b next is_b in (
      λ t. ap (λ (p : Span). p.0 + p.1) page_f ∙ touch_pages f.0 f.1 b.0 first.2 first.3 second.2 t ∙ ap (λ (p : Span). p.0) (sym page_b),
      λ t. touch_bytes f.0 f.1 b.0 first.2 first.3 second.2 (sym (ap (λ (p : Span). p.0 + p.1) page_f) ∙ t ∙ ap (λ (p : Span). p.0) page_b),
    )

-- two runs at i and j from a place that share no byte
pub places_apart : (base : Ptr) (i m j n : ℕ) (p q : Ptr) → InBlock base → p ≡ base +ₚ i → q ≡ base +ₚ j → Apart p m q n → (i + m ≤ j) ⊎ (j + n ≤ i)
places_apart null_ptr i m j n p q placed is_p is_q apart = absurd placed
places_apart (block_ptr b o) i m j n p q placed is_p is_q apart =
    let told : Apart (block_ptr b (o + i)) m (block_ptr b (o + j)) n = subst (λ (x : Ptr). Apart x m (block_ptr b (o + j)) n) is_p (subst (λ (y : Ptr). Apart p m y n) is_q apart) in
    elim (told refl) [ inl h ↦ inl (omega arith) | inr h ↦ inr (omega arith) ]

pub div_lt : (i j : ℕ) → i % 4096 ≡ 0 → j % 4096 ≡ 0 → i < j → i / 4096 < j / 4096
div_lt i j hi hj h = omega arith

pub div_le_one : (i j : ℕ) → i % 4096 ≡ 0 → j % 4096 ≡ 0 → i ≤ j → i / 4096 ≤ j / 4096
div_le_one i j hi hj h = omega arith

-- a span of the list, in pages, and that it is of whole pages
pub paged_at : (base : Ptr) (k : ℕ) (ss : List Span) (rs : List Run) (hs : List Span) → pages_of ss ≡ hs → Lies base ss rs → k < length ss
    → (get_or hs k (0, 0) ≡ paged (get_or ss k (0, 0))) × ((get_or ss k (0, 0)).0 % 4096 ≡ 0) × ((get_or ss k (0, 0)).1 % 4096 ≡ 0)
paged_at base k ss rs hs e l h =
    let r : Run = record { ptr = base; items = [] } in
    let is = lies-at base k ss rs (0, 0) r h l in
    (ap (λ (t : List Span). get_or t k (0, 0)) (sym e) ∙ pages-at k ss, is.whole_place, is.whole_len)

-- the lengths in bytes and in pages
pub total-pages : (base : Ptr) (ss : List Span) (rs : List Run) → Lies base ss rs → total ss ≡ 4096 * total (pages_of ss)
total-pages base [] [] l = refl
total-pages base [] (r ∷ rs) l = absurd l
total-pages base (s ∷ ss) [] l = absurd l
total-pages base (s ∷ ss) (r ∷ rs) l = let rest = total-pages base ss rs l.1 in omega (arith, rest, l.0.whole_len)

-- the spans in bytes, from those in pages
pub bytes_of : (base : Ptr) (ss : List Span) (rs : List Run) → Lies base ss rs → map (λ (h : Span). let s : Span = (4096 * h.0, 4096 * h.1) in s) (pages_of ss) ≡ ss
bytes_of base [] [] l = refl
bytes_of base [] (r ∷ rs) l = absurd l
bytes_of base (s ∷ ss) [] l = absurd l
bytes_of base (s ∷ ss) (r ∷ rs) l =
    let a : 4096 * (s.0 / 4096) ≡ s.0 = omega (arith, l.0.whole_place) in
    let b : 4096 * (s.1 / 4096) ≡ s.1 = omega (arith, l.0.whole_len) in
    ap₂ (λ x t. let p : Span = (x, 4096 * (s.1 / 4096)) in p ∷ t) a (bytes_of base ss rs l.1) ∙ ap (λ y. let p : Span = (s.0, y) in p ∷ ss) b

pub at_base : (p : Ptr) (i : ℕ) → i ≡ 0 → p +ₚ i ≡ p
at_base null_ptr i e = refl
at_base (block_ptr b o) i e = ap (λ k. block_ptr b k) (omega arith)

-- one goes out, another comes in its place
pub one_for_one : {X : Type 0} (at : ℕ) (xs : List X) (x : X) → at < length xs → insert (remove xs at) at x ≡ take at xs ++ x ∷ drop (suc at) xs
one_for_one at [] x h = absurd (omega arith)
one_for_one zero (a ∷ xs) x h = refl
one_for_one (suc at) (a ∷ xs) x h = ap (λ l. a ∷ l) (one_for_one at xs x (omega arith))

-- what is in a block is at a place that is
pub placed_from : (p : Ptr) (i : ℕ) → InBlock (p +ₚ i) → InBlock p
placed_from null_ptr i placed = absurd placed
placed_from (block_ptr b o) i placed = tt

-- ---- a lease's region
pub from_back : (p : Ptr) (n : ℕ) → n ≤ count_of p → p ≡ back p n +ₚ n
from_back null_ptr n h = refl
from_back (block_ptr b o) n h = ap (λ k. block_ptr b k) (omega arith)

pub place_counted : (p : Ptr) (n : ℕ) → InBlock p → n ≤ count_of (p +ₚ n)
place_counted null_ptr n h = absurd h
place_counted (block_ptr b o) n h = omega arith

-- the run of a lease of this region is a span of it
pub span_of : (home : Home) (pages place : ℕ) (p : Ptr) (n : ℕ) (r : Run) → IsHoused pages place p n → let h : Home = record { base = back p place; pages = pages } in h ≡ home
    → home.pages ≤ 65536 → r.ptr ≡ p → length r.items ≡ n → IsSpan home.base (place, n) r
span_of home pages place p n r is same small at long = record {
  some = is.some;
  low = let most : pages ≡ home.pages = ap (λ (h : Home). h.pages) same in omega (arith, is.within);
  whole_place = is.whole_place;
  whole_len = is.whole_len;
  at = at ∙ from_back p place is.behind ∙ ap (λ (h : Home). h.base +ₚ place) same;
  long = long;
}
