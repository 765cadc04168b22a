-- Over every list of events: what a row names is there.
use Rattle.std.specs.Prelude.{◌≡◌, ℕ, true, List, None, Contains}
use Rattle.driver_core.specs.State.{State}
use Rattle.driver_laws.specs.Events.{AfterAnyEvents}
use Rattle.driver_laws.specs.LeavingLaws.{is_there}
use Rattle.counters.specs.declared.counter.Counter.{Counter}
use Rattle.stream_registry.specs.declared.row.LogRow.{LogRow}
use Rattle.stream_registry.specs.declared.row.Registration.{Registration}
use Rattle.stream_registry.specs.declared.row.Subscription.{Subscription}
use Rattle.stream_registry.specs.Origins.{is_published, lingering_since}
use Rattle.stream_registry.specs.Streams.{Streams}

-- ---- clients

-- whose rows these are is there
pub record HaveTheirClients (s : State) : Type 0 where
  pub registrations :
      (registration : Registration) → Contains s.streams.registrations registration →
      is_there s registration.client ≡ true
  pub subscriptions :
      (subscription : Subscription) → Contains s.streams.subscriptions subscription →
      is_there s subscription.client ≡ true
  pub counters : (counter : Counter) → Contains s.counters counter → is_there s counter.client ≡ true

abbrev pub RowsHaveTheirClients : Type 0
RowsHaveTheirClients = AfterAnyEvents HaveTheirClients

-- ---- logs

-- a publication of that number is live, and does not linger
pub record HasLog (logs : List LogRow) (source : ℕ) : Type 0 where
  pub log : LogRow
  pub stands : Contains logs log
  pub source_is : log.number ≡ source
  pub published : is_published log ≡ true
  pub in_use : lingering_since log ≡ None

-- so it is with each that somebody is registered with
abbrev pub HaveTheirLogs : Streams → Type 0
HaveTheirLogs streams =
    (registration : Registration) → Contains streams.registrations registration →
    HasLog streams.sources registration.source

abbrev pub RegistrationsHaveTheirLogs : Type 0
RegistrationsHaveTheirLogs = AfterAnyEvents (λ s. HaveTheirLogs s.streams)
