-- Which commands of a principal's clients count as not answered. Own rules.
use Rattle.std.specs.Prelude.{◌≡◌, ◌≤◌, ◌<◌, ◌==◌, ◌&&◌, ◌||◌, not, is_some, nat_lt, length, ℕ, Bool, true, List, [], ◌∷◌, ◌++◌, filter, Option, Some, None, Result, Ok, Err, if◌then◌else◌}
use Rattle.service_bounds.specs.Counts.{counts_until}
use Rattle.service_bounds.specs.declared.bounds.Bound.{Bound}
use Rattle.service_bounds.specs.declared.bounds.Bound.TheVariants as reached
use Rattle.service_bounds.specs.declared.flights.Flight.{Flight}
use Rattle.service_bounds.specs.declared.row.Removal.{Removal}

-- what waits for a reply, and what no reply may come to until its time is over
abbrev pub remains_at : ℕ → Flight → Bool
remains_at now flight = counts_until now flight.until

abbrev pub remaining : ℕ → List Flight → List Flight
remaining now flights = filter (remains_at now) flights

-- One more goes where fewer than so many are there, and nothing else changes but that what is over is let go. Where nothing is
-- named there was no memory.
abbrev pub IsSent : ℕ → ℕ → Flight → List Flight → List Flight → Result Unit (Option Bound) → Type 0
IsSent most now flight old new (Ok done) = (length (remaining now old) < most) × (new ≡ remaining now old ++ flight ∷ [])
IsSent most now flight old new (Err (Some bound)) = (most ≤ length (remaining now old)) × (bound ≡ reached.Commands) × (new ≡ remaining now old)
IsSent most now flight old new (Err None) = (length (remaining now old) < most) × (new ≡ remaining now old)

-- the first command of a client with that correlation id: its turn, and what it removes
abbrev pub is_named : ℕ → ℕ → Flight → Bool
is_named client correlation flight = (flight.client == client) && (flight.correlation == correlation)

abbrev pub turn_of : ℕ → ℕ → List Flight → Option ℕ
turn_of client correlation [] = None
turn_of client correlation (flight ∷ flights) = if is_named client correlation flight then Some flight.turn else turn_of client correlation flights

abbrev pub removal_of : ℕ → ℕ → List Flight → Option Removal
removal_of client correlation [] = None
removal_of client correlation (flight ∷ flights) = if is_named client correlation flight then flight.removes else removal_of client correlation flights

abbrev pub is_removing : ℕ → ℕ → List Flight → Bool
is_removing client correlation flights = is_some (removal_of client correlation flights)

-- another client's, or sent after that turn
abbrev pub is_left : ℕ → ℕ → Flight → Bool
is_left client turn flight = not (flight.client == client) || nat_lt turn flight.turn

-- A reply answers the first command of that id, and with it all that its client sent before: the driver answers in that order.
abbrev pub answered_at : ℕ → Option ℕ → List Flight → List Flight
answered_at client None flights = flights
answered_at client (Some turn) flights = filter (is_left client turn) flights

abbrev pub answered : ℕ → ℕ → List Flight → List Flight
answered client correlation flights = answered_at client (turn_of client correlation flights) flights

-- another client's, or sent at another turn
abbrev pub is_other_turn : ℕ → ℕ → Flight → Bool
is_other_turn client turn flight = not (flight.client == client) || not (flight.turn == turn)

abbrev pub is_others : ℕ → Flight → Bool
is_others client flight = not (flight.client == client)
