-- What commands and their replies make of what the clients of a principal have. Own rules.
use Rattle.std.specs.Prelude.{◌+◌, ◌-◌, ◌^◌, ◌==◌, ◌&&◌, ◌||◌, not, min, ℕ, Bool, true, false, List, [], ◌∷◌, filter, is_none, map, Option, Some, None, if◌then◌else◌}
use Rattle.service_bounds.specs.Flights.{is_removing, removal_of}
use Rattle.service_bounds.specs.declared.flights.Flight.{Flight}
use Rattle.service_bounds.specs.declared.outcome.Outcome.{Outcome}
use Rattle.service_bounds.specs.declared.outcome.Outcome.TheVariants as outcomes
use Rattle.service_bounds.specs.declared.row.Kind.{Kind}
use Rattle.service_bounds.specs.declared.row.Kind.TheVariants as kinds
use Rattle.service_bounds.specs.declared.row.Removal.{Removal}
use Rattle.service_bounds.specs.declared.row.Row.{Row}
use Rattle.service_bounds.specs.declared.row.Sort.{Sort}
use Rattle.service_bounds.specs.declared.row.Sort.TheVariants as sorts

-- that number stands there
abbrev pub names : Option ℕ → ℕ → Bool
names None number = false
names (Some n) number = n == number

-- that command asked for it, and is not answered
abbrev pub is_asked_by : ℕ → ℕ → Row → Bool
is_asked_by client correlation row = (row.client == client) && (is_none row.registration && (row.correlation == correlation))

abbrev pub is_asked : ℕ → ℕ → List Row → Bool
is_asked client correlation [] = false
is_asked client correlation (row ∷ rows) = is_asked_by client correlation row || is_asked client correlation rows

-- a command of that client with that correlation id, which adds or removes something, is not answered
abbrev pub is_awaited : ℕ → ℕ → List Row → List Flight → Bool
is_awaited client correlation rows flights = is_asked client correlation rows || is_removing client correlation flights

-- it is of that sort
abbrev pub is_of : Sort → Kind → Bool
is_of sorts.Publication (kinds.Publication pages) = true
is_of sorts.Subscription kinds.Subscription = true
is_of sorts.Counter kinds.Counter = true
is_of sort kind = false

-- it is what a removal names: a number of another sort names nothing
abbrev pub is_removed : ℕ → Removal → Row → Bool
is_removed client removal row = (row.client == client) && (names row.registration removal.registration && is_of removal.sort row.kind)

-- what a command asked for that was refused is not there
abbrev pub was_not_asked : ℕ → ℕ → Row → Bool
was_not_asked client correlation row = not (is_asked_by client correlation row)

abbrev pub refused_rows : ℕ → ℕ → List Row → List Row
refused_rows client correlation rows = filter (was_not_asked client correlation) rows

-- it has its registration now
abbrev pub standing : ℕ → ℕ → ℕ → Row → Row
standing client correlation registration row =
    if is_asked_by client correlation row then record row { registration = Some registration } else row

-- it counts until it has lingered, and is no client's from now on
abbrev pub lingering : ℕ → Row → Row
lingering now row = record row { until = Some (min (now + row.linger) (2 ^ 64 - 1)); client = 0 }

abbrev pub removed : ℕ → ℕ → Removal → Row → Row
removed now client removal row = if is_removed client removal row then lingering now row else row

abbrev pub removed_rows : ℕ → ℕ → Option Removal → List Row → List Row
removed_rows now client None rows = rows
removed_rows now client (Some removal) rows = map (removed now client removal) rows

abbrev pub left : ℕ → ℕ → Row → Row
left now client row = if row.client == client then lingering now row else row

-- What the answer to a command makes of the rows. What a removal names is not there any more where it was done, and where the
-- driver says that nothing is there.
abbrev pub answered_rows : ℕ → ℕ → ℕ → Outcome → List Flight → List Row → List Row
answered_rows now client correlation (outcomes.Stands registration) flights rows = map (standing client correlation registration) rows
answered_rows now client correlation outcomes.Done flights rows = removed_rows now client (removal_of client correlation flights) rows
answered_rows now client correlation outcomes.Missing flights rows = removed_rows now client (removal_of client correlation flights) (refused_rows client correlation rows)
answered_rows now client correlation outcomes.Refused flights rows = refused_rows client correlation rows
