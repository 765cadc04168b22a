-- What is held, and what may be.
use Rattle.std.specs.Prelude.{List}
use Rattle.service_bounds.specs.Counts.{IsWithin}
use Rattle.service_bounds.specs.declared.bounds.Bounds.{Bounds}
use Rattle.service_bounds.specs.declared.flights.Flight.{Flight}
use Rattle.service_bounds.specs.declared.holdings.Holdings.{Holdings}
use Rattle.service_bounds.specs.declared.row.Row.{Row}

abbrev pub bounds_of : Holdings → Bounds
bounds_of holdings = holdings.bounds

abbrev pub rows_of : Holdings → List Row
rows_of holdings = holdings.rows.items

-- the commands that are not answered
abbrev pub flights_of : Holdings → List Flight
flights_of holdings = holdings.flights.items

-- the bounds are the same, and what was within them is
abbrev pub KeepsWithin : Holdings → Holdings → Type 0
KeepsWithin old new = IsWithin (bounds_of old) (rows_of old) → IsWithin (bounds_of new) (rows_of new)
