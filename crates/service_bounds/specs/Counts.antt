-- How much the clients of a principal have, and which bound one more would pass. Own rules.
use Rattle.std.specs.Prelude.{◌≡◌, ◌≤◌, ◌+◌, ◌-◌, ◌*◌, ◌^◌, ◌==◌, ◌&&◌, length, nat_le, nat_lt, ℕ, Bool, true, List, [], ◌∷◌, ◌++◌, filter, is_none, Option, Some, None, Result, Ok, Err, if◌then◌else◌}
use Rattle.service_bounds.specs.declared.bounds.Bound.{Bound}
use Rattle.service_bounds.specs.declared.bounds.Bound.TheVariants as reached
use Rattle.service_bounds.specs.declared.bounds.Bounds.{Bounds}
use Rattle.service_bounds.specs.declared.counts.Sums.{Sums}
use Rattle.service_bounds.specs.declared.row.Kind.{Kind}
use Rattle.service_bounds.specs.declared.row.Kind.TheVariants as kinds
use Rattle.service_bounds.specs.declared.row.Row.{Row}

-- ---- what one row counts

abbrev pub one_publication : Kind → ℕ
one_publication (kinds.Publication pages) = 1
one_publication kinds.Subscription = 0
one_publication kinds.Counter = 0

abbrev pub its_pages : Kind → ℕ
its_pages (kinds.Publication pages) = pages
its_pages kinds.Subscription = 0
its_pages kinds.Counter = 0

abbrev pub one_subscription : Kind → ℕ
one_subscription (kinds.Publication pages) = 0
one_subscription kinds.Subscription = 1
one_subscription kinds.Counter = 0

abbrev pub one_counter : Kind → ℕ
one_counter (kinds.Publication pages) = 0
one_counter kinds.Subscription = 0
one_counter kinds.Counter = 1

-- ---- and all of them

abbrev pub held : (Kind → ℕ) → List Row → ℕ
held counts [] = 0
held counts (row ∷ rows) = counts row.kind + held counts rows

-- these are their sums
pub record AreSums (sums : Sums) (rows : List Row) : Type 0 where
  pub publications : sums.publications ≡ held one_publication rows
  pub pages : sums.pages ≡ held its_pages rows
  pub subscriptions : sums.subscriptions ≡ held one_subscription rows
  pub counters : sums.counters ≡ held one_counter rows
  pub few : sums.pages ≤ length rows * (2 ^ 64 - 1)

-- all is within the bounds
pub record IsWithin (bounds : Bounds) (rows : List Row) : Type 0 where
  pub publications : held one_publication rows ≤ bounds.publications
  pub pages : held its_pages rows ≤ bounds.pages
  pub subscriptions : held one_subscription rows ≤ bounds.subscriptions
  pub counters : held one_counter rows ≤ bounds.counters

-- which bound the rows would pass with one more of that kind: the number of publications is looked at before their pages
abbrev pub passed : Bounds → List Row → Kind → Option Bound
passed bounds rows (kinds.Publication pages) =
    if nat_le bounds.publications (held one_publication rows) then Some reached.Publications
    else (if nat_lt bounds.pages (held its_pages rows + pages) then Some reached.Pages else None)
passed bounds rows kinds.Subscription = if nat_le bounds.subscriptions (held one_subscription rows) then Some reached.Subscriptions else None
passed bounds rows kinds.Counter = if nat_le bounds.counters (held one_counter rows) then Some reached.Counters else None

-- ---- what counts at a moment

-- what was not removed, and what lingers still
abbrev pub counts_until : ℕ → Option ℕ → Bool
counts_until now None = true
counts_until now (Some end) = nat_lt now end

abbrev pub counts_at : ℕ → Row → Bool
counts_at now row = counts_until now row.until

abbrev pub counted : ℕ → List Row → List Row
counted now rows = filter (counts_at now) rows

-- what a client has, of that which was not removed
abbrev pub is_own : ℕ → Row → Bool
is_own client row = (row.client == client) && is_none row.until

abbrev pub own_rows : ℕ → List Row → List Row
own_rows client rows = filter (is_own client) rows

-- One more is let in where it passes no bound, and nothing else changes but that what lingered long enough is let go; where it
-- passes one, that is said.
abbrev pub IsAdded : Bounds → ℕ → List Row → Row → List Row → Result Unit (Option Bound) → Type 0
IsAdded bounds now old row new (Ok done) = (passed bounds (counted now old) row.kind ≡ None) × (new ≡ counted now old ++ row ∷ [])
IsAdded bounds now old row new (Err (Some bound)) = (passed bounds (counted now old) row.kind ≡ Some bound) × (new ≡ counted now old)
IsAdded bounds now old row new (Err None) = (passed bounds (counted now old) row.kind ≡ None) × (new ≡ counted now old)
