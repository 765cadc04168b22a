-- How much changed rows count.
use Rattle.std.proofs.Common.{◌≡◌, ◌≢◌, ℕ, ◌+◌, ◌≤◌, ◌<◌, Bool, true, false, cond, leb, ltb, List, [], ◌∷◌, ◌++◌, filter, map, Option, Some, None, Result, Ok, Err, refl, sym, ap, subst, ◌∙◌, arith}
use Rattle.std.proofs.lemmas.Bool.{leb-false, ltb-false}
use Rattle.service_bounds.specs.Changes.{answered_rows, is_asked_by, is_removed, left, refused_rows, removed, removed_rows, standing, was_not_asked}
use Rattle.service_bounds.specs.Counts.{IsAdded, IsWithin, counted, counts_at, held, its_pages, one_counter, one_publication, one_subscription, passed}
use Rattle.service_bounds.specs.Flights.{removal_of}
use Rattle.service_bounds.specs.declared.bounds.Bound.{Bound}
use Rattle.service_bounds.specs.declared.bounds.Bounds.{Bounds}
use Rattle.service_bounds.specs.declared.flights.Flight.{Flight}
use Rattle.service_bounds.specs.declared.outcome.Outcome.{Outcome}
use Rattle.service_bounds.specs.declared.outcome.Outcome.TheVariants as outcomes
use Rattle.service_bounds.specs.declared.row.Kind.{Kind}
use Rattle.service_bounds.specs.declared.row.Kind.TheVariants as kinds
use Rattle.service_bounds.specs.declared.row.Removal.{Removal}
use Rattle.service_bounds.specs.declared.row.Row.{Row}

-- a change that leaves what a row is changes no sum
held_map : (counts : Kind → ℕ) (change : Row → Row) → ((row : Row) → (change row).kind ≡ row.kind) → (rows : List Row) → held counts (map change rows) ≡ held counts rows
held_map counts change same [] = refl
held_map counts change same (row ∷ rows) =
    let first : counts (change row).kind ≡ counts row.kind = ap counts (same row) in
    let others = held_map counts change same rows in
    rw (first, others) refl

-- some of the rows count no more than all
kept_more : (counts : Kind → ℕ) (test : Row → Bool) (row : Row) (rows : List Row) (b : Bool) → test row ≡ b → held counts (filter test rows) ≤ held counts rows → held counts (filter test (row ∷ rows)) ≤ held counts (row ∷ rows)
kept_more counts test row rows true is others = rw is (omega (arith, others))
kept_more counts test row rows false is others = rw is (omega (arith, others))

held_filter : (counts : Kind → ℕ) (test : Row → Bool) (rows : List Row) → held counts (filter test rows) ≤ held counts rows
held_filter counts test [] = omega arith
held_filter counts test (row ∷ rows) = kept_more counts test row rows (test row) refl (held_filter counts test rows)

-- one more counts what it is
held_push : (counts : Kind → ℕ) (rows : List Row) (row : Row) → held counts (rows ++ row ∷ []) ≡ held counts rows + counts row.kind
held_push counts [] row = omega arith
held_push counts (first ∷ rows) row = let others : held counts (rows ++ row ∷ []) ≡ held counts rows + counts row.kind = held_push counts rows row in omega arith

pub within_map : (bounds : Bounds) (change : Row → Row) → ((row : Row) → (change row).kind ≡ row.kind) → (rows : List Row) → IsWithin bounds rows → IsWithin bounds (map change rows)
within_map bounds change same rows within = record {
  publications = rw (held_map one_publication change same rows) within.publications;
  pages = rw (held_map its_pages change same rows) within.pages;
  subscriptions = rw (held_map one_subscription change same rows) within.subscriptions;
  counters = rw (held_map one_counter change same rows) within.counters;
}

pub within_filter : (bounds : Bounds) (test : Row → Bool) (rows : List Row) → IsWithin bounds rows → IsWithin bounds (filter test rows)
within_filter bounds test rows within = record {
  publications = omega (arith, held_filter one_publication test rows, within.publications);
  pages = omega (arith, held_filter its_pages test rows, within.pages);
  subscriptions = omega (arith, held_filter one_subscription test rows, within.subscriptions);
  counters = omega (arith, held_filter one_counter test rows, within.counters);
}

-- ---- each change leaves what a row is

chosen_kind : (b : Bool) (changed row : Row) → changed.kind ≡ row.kind → (cond b changed row).kind ≡ row.kind
chosen_kind true changed row same = same
chosen_kind false changed row same = refl

pub standing_kind : (client correlation registration : ℕ) (row : Row) → (standing client correlation registration row).kind ≡ row.kind
standing_kind client correlation registration row = chosen_kind (is_asked_by client correlation row) _ row refl

pub removed_kind : (now client : ℕ) (removal : Removal) (row : Row) → (removed now client removal row).kind ≡ row.kind
removed_kind now client removal row = chosen_kind (is_removed client removal row) _ row refl

pub left_kind : (now client : ℕ) (row : Row) → (left now client row).kind ≡ row.kind
left_kind now client row = chosen_kind _ _ row refl

-- ---- an answer lets nothing more count

removed_within : (bounds : Bounds) (now client : ℕ) (removal : Option Removal) (rows : List Row) → IsWithin bounds rows → IsWithin bounds (removed_rows now client removal rows)
removed_within bounds now client None rows within = within
removed_within bounds now client (Some removal) rows within = within_map bounds (removed now client removal) (removed_kind now client removal) rows within

pub answered_within : (bounds : Bounds) (now client correlation : ℕ) (outcome : Outcome) (flights : List Flight) (rows : List Row) →
    IsWithin bounds rows → IsWithin bounds (answered_rows now client correlation outcome flights rows)
answered_within bounds now client correlation (outcomes.Stands registration) flights rows within =
    within_map bounds (standing client correlation registration) (standing_kind client correlation registration) rows within
answered_within bounds now client correlation outcomes.Done flights rows within =
    removed_within bounds now client (removal_of client correlation flights) rows within
answered_within bounds now client correlation outcomes.Missing flights rows within =
    removed_within bounds now client (removal_of client correlation flights) (refused_rows client correlation rows)
    (within_filter bounds (was_not_asked client correlation) rows within)
answered_within bounds now client correlation outcomes.Refused flights rows within = within_filter bounds (was_not_asked client correlation) rows within

-- ---- one that passes no bound

first_none : (b : Bool) (bound : Bound) (other : Option Bound) → cond b (Some bound) other ≡ None → (b ≡ false) × (other ≡ None)
first_none true bound other e = absurd cc
first_none false bound other e = (refl, e)

-- what is added where no bound is passed is within them
fits : (bounds : Bounds) (rows : List Row) (row : Row) (kind : Kind) → row.kind ≡ kind → passed bounds rows kind ≡ None → IsWithin bounds rows → IsWithin bounds (rows ++ row ∷ [])
fits bounds rows row (kinds.Publication pages) is none within =
    let one = first_none _ _ _ none in
    let two = first_none _ _ _ one.1 in
    let count : held one_publication rows < bounds.publications = leb-false _ _ one.0 in
    let room : held its_pages rows + pages ≤ bounds.pages = ltb-false _ _ two.0 in
    record {
      publications = omega (arith, held_push one_publication rows row, ap one_publication is, count);
      pages = omega (arith, held_push its_pages rows row, ap its_pages is, room);
      subscriptions = omega (arith, held_push one_subscription rows row, ap one_subscription is, within.subscriptions);
      counters = omega (arith, held_push one_counter rows row, ap one_counter is, within.counters);
    }
fits bounds rows row kinds.Subscription is none within =
    let one = first_none _ _ _ none in
    let count : held one_subscription rows < bounds.subscriptions = leb-false _ _ one.0 in
    record {
      publications = omega (arith, held_push one_publication rows row, ap one_publication is, within.publications);
      pages = omega (arith, held_push its_pages rows row, ap its_pages is, within.pages);
      subscriptions = omega (arith, held_push one_subscription rows row, ap one_subscription is, count);
      counters = omega (arith, held_push one_counter rows row, ap one_counter is, within.counters);
    }
fits bounds rows row kinds.Counter is none within =
    let one = first_none _ _ _ none in
    let count : held one_counter rows < bounds.counters = leb-false _ _ one.0 in
    record {
      publications = omega (arith, held_push one_publication rows row, ap one_publication is, within.publications);
      pages = omega (arith, held_push its_pages rows row, ap its_pages is, within.pages);
      subscriptions = omega (arith, held_push one_subscription rows row, ap one_subscription is, within.subscriptions);
      counters = omega (arith, held_push one_counter rows row, ap one_counter is, count);
    }

pub added_within : (bounds : Bounds) (now : ℕ) (old : List Row) (row : Row) (new : List Row) (told : Result Unit (Option Bound)) → IsAdded bounds now old row new told → IsWithin bounds old → IsWithin bounds new
added_within bounds now old row new (Ok done) added within =
    subst (IsWithin bounds) (sym added.1) (fits bounds (counted now old) row row.kind refl added.0 (within_filter bounds (counts_at now) old within))
added_within bounds now old row new (Err (Some bound)) added within = subst (IsWithin bounds) (sym added.1) (within_filter bounds (counts_at now) old within)
added_within bounds now old row new (Err None) added within = subst (IsWithin bounds) (sym added.1) (within_filter bounds (counts_at now) old within)
