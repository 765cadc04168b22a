-- Which commands the clients of one principal may hand on, by what they have together. Own rules.
use Rattle.std.specs.Prelude.{◌≡◌, ◌+◌, ◌-◌, ◌^◌, min, nat_lt, ℕ, Bool, true, false, List, filter, Option, Some, None, Result, Ok, Err, if◌then◌else◌}
use Rattle.driver_service.specs.declared.reason.Reason.{Reason}
use Rattle.driver_service.specs.declared.reason.Reason.TheVariants as reasons
use Rattle.command_codec.specs.declared.command.Body.{Body}
use Rattle.command_codec.specs.declared.command.Body.TheVariants as bodies
use Rattle.service_bounds.specs.Changes.{is_awaited}
use Rattle.service_bounds.specs.Counts.{IsAdded}
use Rattle.service_bounds.specs.Flights.{IsSent, is_other_turn}
use Rattle.service_bounds.specs.Held.{bounds_of, flights_of, rows_of}
use Rattle.service_bounds.specs.declared.asked.Asked.{Asked}
use Rattle.service_bounds.specs.declared.asked.Asked.TheVariants as asks
use Rattle.service_bounds.specs.declared.bounds.Bound.{Bound}
use Rattle.service_bounds.specs.declared.bounds.Bound.TheVariants as reached
use Rattle.service_bounds.specs.declared.bounds.Bounds.{Bounds}
use Rattle.service_bounds.specs.declared.flights.Flight.{Flight}
use Rattle.service_bounds.specs.declared.holdings.Holdings.{Holdings}
use Rattle.service_bounds.specs.declared.row.Kind.{Kind}
use Rattle.service_bounds.specs.declared.row.Kind.TheVariants as kinds
use Rattle.service_bounds.specs.declared.row.Removal.{Removal}
use Rattle.service_bounds.specs.declared.row.Row.{Row}

-- why a command is refused that would pass this bound; where none is named, there was no memory
abbrev pub bound_reason : Option Bound → Reason
bound_reason (Some reached.Publications) = reasons.PublicationBound
bound_reason (Some reached.Pages) = reasons.PageBound
bound_reason (Some reached.Subscriptions) = reasons.SubscriptionBound
bound_reason (Some reached.Counters) = reasons.CounterBound
bound_reason (Some reached.Commands) = reasons.QueueFull
bound_reason None = reasons.NoMemory

-- a publication counts for a second longer than it lingers: by then its pages are free
abbrev pub counts_on : Kind → ℕ → ℕ
counts_on (kinds.Publication pages) linger = min (linger + 1000000000) (2 ^ 64 - 1)
counts_on kinds.Subscription linger = 0
counts_on kinds.Counter linger = 0

-- what a command asks for, as it counts until it is answered
abbrev pub asked_row : ℕ → ℕ → Kind → ℕ → Row
asked_row client correlation kind linger = record {
  client = client;
  kind = kind;
  correlation = correlation;
  registration = None;
  linger = counts_on kind linger;
  until = None;
}

-- a correlation id is new where it is greater than all before it
abbrev pub is_fresh : Option ℕ → ℕ → Bool
is_fresh None correlation = true
is_fresh (Some last) correlation = nat_lt last correlation

-- the greatest so far
abbrev pub greatest : Option ℕ → ℕ → Option ℕ
greatest None correlation = Some correlation
greatest (Some last) correlation = if nat_lt last correlation then Some correlation else Some last

abbrev pub Refused : Reason → Result Unit Reason → Type 0
Refused reason (Ok done) = ⊥
Refused reason (Err other) = other ≡ reason

abbrev pub Admitted : Result Unit Reason → Type 0
Admitted (Ok done) = Unit {0}
Admitted (Err reason) = ⊥

-- what an addition gave, as the client is told
abbrev pub TellsAdded : Result Unit (Option Bound) → Result Unit Reason → Type 0
TellsAdded (Ok done) told = Admitted told
TellsAdded (Err bound) told = Refused (bound_reason bound) told

-- one more counts, where it passes no bound; else which one is said
pub record AdmitsMore (bounds : Bounds) (now : ℕ) (row : Row) (old new : List Row) (told : Result Unit Reason) : Type 0 where
  pub gave : Result Unit (Option Bound)
  pub added : IsAdded bounds now old row new gave
  pub told_is : TellsAdded gave told

-- the id of a command that is not answered stays that command's
abbrev pub LetsPass : Bool → Result Unit Reason → Type 0
LetsPass false told = Admitted told
LetsPass true told = Refused reasons.UsedCorrelation told

-- What a command asks for counts from now on where its correlation id is new and it passes no bound. One that adds or removes
-- nothing passes unless its id is that of a command which is not answered.
abbrev pub Admits : Bounds → ℕ → ℕ → ℕ → Bool → Asked → List Flight → List Row → List Row → Result Unit Reason → Type 0
Admits bounds now client correlation true (asks.Adds kind linger) flights old new told = AdmitsMore bounds now (asked_row client correlation kind linger) old new told
Admits bounds now client correlation false (asks.Adds kind linger) flights old new told = (new ≡ old) × Refused reasons.UsedCorrelation told
Admits bounds now client correlation true (asks.Removes removal) flights old new told = (new ≡ old) × Admitted told
Admits bounds now client correlation false (asks.Removes removal) flights old new told = (new ≡ old) × Refused reasons.UsedCorrelation told
Admits bounds now client correlation fresh asks.Other flights old new told = (new ≡ old) × LetsPass (is_awaited client correlation old flights) told

-- ---- and how many may be without an answer

-- what a command removes
abbrev pub removal_in : Asked → Option Removal
removal_in (asks.Removes removal) = Some removal
removal_in (asks.Adds kind linger) = None
removal_in asks.Other = None

-- no sign of life is answered: it counts for a tenth of a second, and every other command until it is answered
abbrev pub waits_until : Option Body → ℕ → Option ℕ
waits_until (Some bodies.ClientKeepalive) now = Some (min (now + 100000000) (2 ^ 64 - 1))
waits_until body now = None

-- a command that was not admitted is not waited for
abbrev pub flights_told : Flight → List Flight → Result Unit Reason → List Flight
flights_told flight flights (Ok done) = flights
flights_told flight flights (Err reason) = filter (is_other_turn flight.client flight.turn) flights

-- What came of a command that was sent: where it could not be, it changes nothing.
abbrev pub AdmitsSent : ℕ → Flight → Bool → Asked → Holdings → Holdings → Result Unit (Option Bound) → Result Unit Reason → Type 0
AdmitsSent now flight fresh asked sent new (Ok done) told =
    Admits (bounds_of sent) now flight.client flight.correlation fresh asked (flights_of sent) (rows_of sent) (rows_of new) told
    × (flights_of new ≡ flights_told flight (flights_of sent) told)
AdmitsSent now flight fresh asked sent new (Err bound) told = (new ≡ sent) × Refused (bound_reason bound) told

-- A command goes where fewer than may be are not answered, and what it asks for may come.
pub record AdmitsCommand (now : ℕ) (flight : Flight) (fresh : Bool) (asked : Asked) (old new : Holdings) (told : Result Unit Reason) : Type 0 where
  pub gave : Result Unit (Option Bound)
  pub middle : Holdings
  pub sent : IsSent (bounds_of old).commands now flight (flights_of old) (flights_of middle) gave
  pub rows : rows_of middle ≡ rows_of old
  pub bounds : bounds_of middle ≡ bounds_of old
  pub admits : AdmitsSent now flight fresh asked middle new gave told
