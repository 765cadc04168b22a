-- Over every list of events: the numbers of rows, none of which is drawn again.
use Rattle.std.specs.Prelude.{◌≡◌, ℕ, ◌<◌, ◌≤◌, List, [], ◌∷◌, Contains, ◌⊎◌}
use Rattle.driver_core.specs.declared.state.event.Event.{Event}
use Rattle.driver_core.specs.declared.state.event.Inputs.{Inputs}
use Rattle.driver_core.specs.Conduct.{state_after, state_of}
use Rattle.driver_core.specs.State.{State}
use Rattle.driver_laws.specs.Events.{AfterAnyEvents}
use Rattle.driver_laws.specs.GrantLaws.{StoodBefore}
use Rattle.driver_laws.specs.PublishingLaws.{WasLive}
use Rattle.driver_laws.specs.ReloadLaws.{in_force_at}
use Rattle.client_registry.specs.declared.client.Client.{Client}
use Rattle.counters.specs.declared.counter.Counter.{Counter}
use Rattle.stream_registry.specs.declared.row.LogRow.{LogRow}
use Rattle.stream_registry.specs.declared.row.Registration.{Registration}
use Rattle.stream_registry.specs.declared.row.Subscription.{Subscription}

-- ---- at most the last

-- the number was drawn, where this is the one drawn last
pub record IsDrawn (last number : ℕ) : Type 0 where
  pub above : 0 < number
  pub below : number ≤ last

pub record AreDrawn (s : State) : Type 0 where
  pub clients : (client : Client) → Contains s.clients.rows client → IsDrawn s.clients.last client.number
  pub sources :
      (log : LogRow) → Contains s.streams.sources log → IsDrawn s.last_number log.number
  pub registrations :
      (registration : Registration) → Contains s.streams.registrations registration →
      IsDrawn s.last_number registration.number
  pub subscriptions :
      (subscription : Subscription) → Contains s.streams.subscriptions subscription →
      IsDrawn s.last_number subscription.number
  pub counters : (counter : Counter) → Contains s.counters counter → IsDrawn s.last_number counter.number

abbrev pub NumbersAreAtMostTheLast : Type 0
NumbersAreAtMostTheLast = AfterAnyEvents AreDrawn

-- ---- no two alike

-- each row's number is above that of the row before it, the first one's above `low`, and the last one's at most `last`
abbrev pub Rises : {A : Type 0} → (A → ℕ) → ℕ → ℕ → List A → Type 0
Rises number_of low last [] = low ≤ last
Rises number_of low last (row ∷ rows) = (low < number_of row) × Rises number_of (number_of row) last rows

-- in each list the numbers rise
pub record AreRising (s : State) : Type 0 where
  pub clients : Rises (λ (client : Client). client.number) 0 s.clients.last s.clients.rows
  pub sources : Rises (λ (log : LogRow). log.number) 0 s.last_number s.streams.sources
  pub registrations : Rises (λ (registration : Registration). registration.number) 0 s.last_number s.streams.registrations
  pub subscriptions : Rises (λ (subscription : Subscription). subscription.number) 0 s.last_number s.streams.subscriptions
  pub counters : Rises (λ (counter : Counter). counter.number) 0 s.last_number s.counters

abbrev pub NumbersAreUnique : Type 0
NumbersAreUnique = AfterAnyEvents AreRising

-- ---- no two lists alike

-- no row of the one list has the number of a row of the other
abbrev pub ShareNoNumber : {A B : Type 0} → (A → ℕ) → (B → ℕ) → List A → List B → Type 0
ShareNoNumber {A} {B} number_of other_of rows others =
    (row : A) (other : B) → Contains rows row → Contains others other → ¬ (number_of row ≡ other_of other)

-- Registrations, subscriptions, counters and logs draw from one row of numbers. A log and the registration that made it
-- drew one number together: a registration that has the number of a log is registered with that log.
pub record AreApart (s : State) : Type 0 where
  pub registrations_and_subscriptions :
      ShareNoNumber (λ (registration : Registration). registration.number)
      (λ (subscription : Subscription). subscription.number) s.streams.registrations s.streams.subscriptions
  pub registrations_and_counters :
      ShareNoNumber (λ (registration : Registration). registration.number) (λ (counter : Counter). counter.number)
      s.streams.registrations s.counters
  pub subscriptions_and_counters :
      ShareNoNumber (λ (subscription : Subscription). subscription.number) (λ (counter : Counter). counter.number)
      s.streams.subscriptions s.counters
  pub logs_and_subscriptions :
      ShareNoNumber (λ (log : LogRow). log.number)
      (λ (subscription : Subscription). subscription.number) s.streams.sources s.streams.subscriptions
  pub logs_and_counters :
      ShareNoNumber (λ (log : LogRow). log.number) (λ (counter : Counter). counter.number)
      s.streams.sources s.counters
  pub logs_and_registrations :
      (log : LogRow) (registration : Registration) → Contains s.streams.sources log →
      Contains s.streams.registrations registration → log.number ≡ registration.number →
      registration.source ≡ log.number

abbrev pub ListsShareNoNumber : Type 0
ListsShareNoNumber = AfterAnyEvents AreApart

-- ---- never drawn again

-- none of the three falls
pub record NeverLowers (s after : State) : Type 0 where
  pub last : s.last_number ≤ after.last_number
  pub last_client : s.clients.last ≤ after.clients.last
  pub epoch : s.epoch ≤ after.epoch

abbrev pub LastNumbersNeverFall : Type 0
LastNumbersNeverFall =
    AfterAnyEvents (λ s. (event : Event) (inputs : Inputs) → NeverLowers s (state_after s event inputs))

-- the client stood before, but for the moment at which it was last heard of
pub record WasAttached (s : State) (client : Client) : Type 0 where
  pub before : Client
  pub stood : Contains s.clients.rows before
  pub same : client ≡ record before { heard = client.heard }

-- What was not there before has a number above the one that was drawn last by then: a client above that of the client
-- that came last, a policy above that of the one in force. A counter's value may be another, a client may have been heard
-- of, and a log may linger.
pub record ComesAbove (s after : State) : Type 0 where
  pub clients :
      (client : Client) → Contains after.clients.rows client → WasAttached s client ⊎ (s.clients.last < client.number)
  pub sources :
      (log : LogRow) → Contains after.streams.sources log →
      WasLive s.streams log ⊎ (s.last_number < log.number)
  pub registrations :
      (registration : Registration) → Contains after.streams.registrations registration →
      Contains s.streams.registrations registration ⊎ (s.last_number < registration.number)
  pub subscriptions :
      (subscription : Subscription) → Contains after.streams.subscriptions subscription →
      Contains s.streams.subscriptions subscription ⊎ (s.last_number < subscription.number)
  pub counters :
      (counter : Counter) → Contains after.counters counter → StoodBefore s counter ⊎ (s.last_number < counter.number)
  pub policy : (in_force_at after ≡ in_force_at s) ⊎ (s.epoch < after.epoch)

abbrev pub NewNumbersAreAboveTheLast : Type 0
NewNumbersAreAboveTheLast =
    AfterAnyEvents (λ s. (event : Event) (inputs : Inputs) → ComesAbove s (state_after s event inputs))

-- so it is with whatever comes by however many events
abbrev pub NumbersAreNeverDrawnAgain : Type 0
NumbersAreNeverDrawnAgain =
    AfterAnyEvents (λ s. (later : List (Event × Inputs)) → ComesAbove s (state_of s later))
