-- Over every list of events: by which of them a client goes, and what goes with it.
use Rattle.std.specs.Prelude.{◌≡◌, ℕ, ◌==◌, max, Bool, true, false, List, Contains, ◌⊎◌}
use Rattle.std.specs.List.{list_any}
use Rattle.driver_core.specs.declared.state.event.Event.{Event}
use Rattle.driver_core.specs.declared.state.event.Event.TheVariants.{Command, Tick}
use Rattle.driver_core.specs.declared.state.event.Inputs.{Inputs}
use Rattle.driver_core.specs.Conduct.{coming_to, state_after}
use Rattle.driver_core.specs.Requests.{Asks}
use Rattle.driver_core.specs.State.{State}
use Rattle.driver_core.specs.Verdicts.{verdict_on}
use Rattle.driver_laws.specs.Acts.{termination_question}
use Rattle.driver_laws.specs.Events.{AfterAnyEvents}
use Rattle.client_registry.specs.declared.client.Client.{Client}
use Rattle.client_registry.specs.Clients.{expired_of}
use Rattle.command_codec.specs.declared.command.Body.TheVariants.{ClientClose as Closes, TerminateDriver as Terminates}
use Rattle.command_codec.specs.declared.terminate_driver.TerminateDriver.{TerminateDriver}
use Rattle.counters.specs.declared.counter.Counter.{Counter}
use Rattle.stream_registry.specs.declared.row.Registration.{Registration}
use Rattle.stream_registry.specs.declared.row.Subscription.{Subscription}

-- nothing was heard of the client for longer than the liveness
pub record IsTimedOutBy (s : State) (event : Event) (client : ℕ) : Type 0 where
  pub moment : ℕ
  pub event_is : event ≡ Tick moment
  pub is_late : Contains (expired_of s.clients (max s.moment moment)) client

-- the client itself asks to go
pub record IsClosedBy (s : State) (event : Event) (client : ℕ) : Type 0 where
  pub moment : ℕ
  pub bytes : List ℕ
  pub row : Client
  pub correlation : ℕ
  pub event_is : event ≡ Command moment client bytes
  pub asks : Asks s client bytes row correlation Closes

-- the driver is stopped by a request that the policy in force allows
pub record IsTerminatedBy (s : State) (event : Event) : Type 0 where
  pub moment : ℕ
  pub handle : ℕ
  pub bytes : List ℕ
  pub client : Client
  pub correlation : ℕ
  pub fields : TerminateDriver
  pub event_is : event ≡ Command moment handle bytes
  pub asks : Asks s handle bytes client correlation (Terminates fields)
  pub allowed : (verdict_on s (termination_question client)).allow ≡ true

abbrev pub IsGoneBy : State → Event → ℕ → Type 0
IsGoneBy s event client = IsTimedOutBy s event client ⊎ (IsClosedBy s event client ⊎ IsTerminatedBy s event)

-- ---- a client goes

-- a client of this id is there
abbrev pub is_there : State → ℕ → Bool
is_there s client = list_any (λ row. row.number == client) s.clients.rows

abbrev pub ClientsGoExactly : Type 0
ClientsGoExactly =
    AfterAnyEvents (λ s.
    (event : Event) (inputs : Inputs) (client : ℕ) → IsGoneBy (coming_to s event) event client →
    is_there (state_after s event inputs) client ≡ false)

abbrev pub ClientsGoOnly : Type 0
ClientsGoOnly =
    AfterAnyEvents (λ s.
    (event : Event) (inputs : Inputs) (client : ℕ) → is_there s client ≡ true →
    (is_there (state_after s event inputs) client ≡ true) ⊎ IsGoneBy (coming_to s event) event client)

-- ---- what goes with it

-- none of the rows is the client's
pub record HasNothing (s : State) (client : ℕ) : Type 0 where
  pub registrations :
      (registration : Registration) → Contains s.streams.registrations registration → ¬ (registration.client ≡ client)
  pub subscriptions :
      (subscription : Subscription) → Contains s.streams.subscriptions subscription → ¬ (subscription.client ≡ client)
  pub counters : (counter : Counter) → Contains s.counters counter → ¬ (counter.client ≡ client)

abbrev pub RowsGoWithTheirClient : Type 0
RowsGoWithTheirClient =
    AfterAnyEvents (λ s.
    (event : Event) (inputs : Inputs) (client : ℕ) → IsGoneBy (coming_to s event) event client →
    HasNothing (state_after s event inputs) client)
