-- The parts of the region without a lease as a list of spans, and the page table that such a list stands for.
use Rattle.std.specs.Prelude.{◌≡◌, ℕ, ◌+◌, ◌-◌, ◌*◌, ◌/◌, ◌%◌, ◌^◌, ◌<◌, ◌≤◌, Bool, true, false, ◌==◌, if◌then◌else◌, List, [], ◌∷◌, ◌++◌, take, drop, length, map, replicate}
use denote.RawPtr.{Ptr, ◌+ₚ◌}
use Rattle.log_arena.specs.Layout.{Layout}
use Rattle.log_arena.specs.Ownership.{Extent}
use Rattle.log_arena.specs.Pages.{marked}
use Rattle.log_arena.specs.declared.memory.Run.{Run}

-- a place and a length
abbrev pub Span : Type 0
Span = ℕ × ℕ

-- a span of bytes as one of pages
abbrev pub paged : Span → Span
paged s = (s.0 / 4096, s.1 / 4096)

abbrev pub pages_of : List Span → List Span
pages_of ss = map paged ss

-- the spans stand in order below `end`, the first not below `from`, none is empty, and no two touch
abbrev pub Spaced : ℕ → ℕ → List Span → Type 0
Spaced from end [] = Unit {0}
Spaced from end (h ∷ hs) = (from ≤ h.0) × (0 < h.1) × (h.0 + h.1 ≤ end) × Spaced (h.0 + h.1 + 1) end hs

-- the pages from `low` to `end`: those of the spans have no lease
abbrev pub table : ℕ → ℕ → List Span → List Bool
table low end [] = replicate (end - low) true
table low end (h ∷ hs) = replicate (h.0 - low) true ++ (replicate h.1 false ++ table (h.0 + h.1) end hs)

-- the first two spans as one, where they touch
abbrev pub closed : List Span → List Span
closed [] = []
closed (a ∷ []) = a ∷ []
closed (a ∷ b ∷ hs) = if a.0 + a.1 == b.0 then (a.0, a.1 + b.1) ∷ hs else a ∷ b ∷ hs

-- the same with the i-th span and the next
unfoldable pub seamed : ℕ → List Span → List Span
seamed i hs = take i hs ++ closed (drop i hs)

-- the sum of the lengths
abbrev pub total : List Span → ℕ
total [] = 0
total (h ∷ hs) = h.1 + total hs

-- the run r is the span s, in bytes from `base` on, and the span is of whole pages: some, and no more than 65,536 with those before it
pub record IsSpan (base : Ptr) (s : Span) (r : Run) : Type 0 where
  pub some : 0 < s.1
  pub low : s.0 + s.1 ≤ 2 ^ 28
  pub whole_place : s.0 % 4096 ≡ 0
  pub whole_len : s.1 % 4096 ≡ 0
  pub at : r.ptr ≡ base +ₚ s.0
  pub long : length r.items ≡ s.1

-- each run is the span at its place in the other list
abbrev pub Lies : Ptr → List Span → List Run → Type 0
Lies base [] [] = Unit {0}
Lies base [] (r ∷ rs) = ⊥
Lies base (s ∷ ss) [] = ⊥
Lies base (s ∷ ss) (r ∷ rs) = IsSpan base s r × Lies base ss rs

-- the holes hs became `new` as the pages of s got a lease, or lost it
pub record Remade (b : Bool) (end : ℕ) (hs : List Span) (s : Span) (new : List Span) : Type 0 where
  pub spaced : Spaced 0 end new
  pub pages : table 0 end new ≡ marked b s.0 s.1 (table 0 end hs)

-- the parts of an arena of so many pages
pub record IsArena (deed : Extent) (pages : ℕ) (holes : Layout) : Type 0 where
  pub at : deed.ptr ≡ holes.base
  pub long : deed.len ≡ 4096 * pages
  pub some : 0 < pages
  pub small : pages ≤ 65536
  pub room : pages + 3 ≤ holes.room + holes.room
  pub spaced : Spaced 0 pages holes.spans
