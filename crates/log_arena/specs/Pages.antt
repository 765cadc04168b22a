-- The region as its pages of 4,096 bytes, each of which has a lease or none.
use Rattle.std.specs.Prelude.{◌≡◌, ℕ, ◌+◌, ◌*◌, ◌<◌, ◌≤◌, ◌-◌, ◌%◌, ◌↔◌, Bool, true, false, not, ◌==◌, if◌then◌else◌, List, [], ◌∷◌, ◌++◌, length, take, drop, map, count_by, replicate, slice_index_or, Contains, refl}
use Rattle.std.specs.Coded.{Coded, code_by, coded×, coded_ℕ, coded_bool, coded_list}
use denote.RawPtr.{Ptr, coded_ptr}
use Rattle.log_arena.specs.Homes.{Home}

-- which region it is, and of each of its pages whether it has a lease
pub record Region : Type 0 where
  pub home : Home
  pub leased : List Bool

-- stored as the tuple of its fields
abbrev pub region_code : Coded Region
region_code = code_by (Ptr × (ℕ × List Bool)) (coded× coded_ptr (coded× coded_ℕ (coded_list coded_bool))) (λ r. (r.home.base, (r.home.pages, r.leased))) (λ p. record { home = record { base = p.0; pages = p.1.0 }; leased = p.1.1 }) (λ _. refl)

-- whether page p has a lease: past the region no page can be had
abbrev pub has_lease : List Bool → ℕ → Bool
has_lease t p = slice_index_or t p true

-- the n pages from page `at` on are there, and none of them has a lease
abbrev pub IsFree : List Bool → ℕ → ℕ → Type 0
IsFree t at n = (k : ℕ) → k < n → has_lease t (at + k) ≡ false

-- `at` is the least place for n pages
unfoldable pub IsLeastPlace : List Bool → ℕ → ℕ → Type 0
IsLeastPlace t n at = IsFree t at n × ((q : ℕ) → q < at → ¬ IsFree t q n)

-- there is no place for n pages
unfoldable pub HasNoPlace : List Bool → ℕ → Type 0
HasNoPlace t n = (at : ℕ) → ¬ IsFree t at n

-- the n pages from page `at` on have a lease, or have none, as b says, and each other page is as it was
unfoldable pub marked : Bool → ℕ → ℕ → List Bool → List Bool
marked b at n t = take at t ++ (replicate n b ++ drop (at + n) t)

-- a page without a lease, before the runs after it
abbrev pub prepended : ℕ → List (ℕ × ℕ) → List (ℕ × ℕ)
prepended at [] = (at, 1) ∷ []
prepended at (h ∷ hs) = if h.0 == at + 1 then (at, h.1 + 1) ∷ hs else (at, 1) ∷ h ∷ hs

-- the maximal runs of pages without a lease in t, whose first page is page `at`: their first pages and lengths, ascending
abbrev pub runs_from : ℕ → List Bool → List (ℕ × ℕ)
runs_from at [] = []
runs_from at (true ∷ t) = runs_from (at + 1) t
runs_from at (false ∷ t) = prepended at (runs_from (at + 1) t)

-- the same in bytes, for all the region
unfoldable pub holes_of : List Bool → List (ℕ × ℕ)
holes_of t = map (λ h. (4096 * h.0, 4096 * h.1)) (runs_from 0 t)

-- the n pages from page `at` on have no lease, there is at least one, and no page on either side is without one
pub record IsMaximalRun (t : List Bool) (at n : ℕ) : Type 0 where
  pub some : 0 < n
  pub free : IsFree t at n
  pub before : 0 < at → has_lease t (at - 1) ≡ true
  pub behind : has_lease t (at + n) ≡ true

-- the holes are the maximal runs, all of them and nothing else
abbrev pub HolesAreMaximalRuns : Type 0
HolesAreMaximalRuns = (t : List Bool) (at n : ℕ) → Contains (holes_of t) (4096 * at, 4096 * n) ↔ IsMaximalRun t at n

-- each hole is whole pages
abbrev pub HolesAreWholePages : Type 0
HolesAreWholePages = (t : List Bool) (h : ℕ × ℕ) → Contains (holes_of t) h → (h.0 % 4096 ≡ 0) × (h.1 % 4096 ≡ 0)

-- each hole ends a page or more before the next
abbrev pub HolesAscend : Type 0
HolesAscend =
    (t : List Bool) (i : ℕ) → i + 1 < length (holes_of t)
    → (slice_index_or (holes_of t) i (0, 0)).0 + (slice_index_or (holes_of t) i (0, 0)).1 + 4096 ≤ (slice_index_or (holes_of t) (i + 1) (0, 0)).0

-- the bytes of the pages with a lease, and of those without
abbrev pub used_bytes : List Bool → ℕ
used_bytes t = 4096 * count_by (λ b. b) t

abbrev pub free_bytes : List Bool → ℕ
free_bytes t = 4096 * count_by not t
