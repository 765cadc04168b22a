-- Over every list of events: counters and the end of the driver are granted as the policy in force says, and not otherwise.
use Rattle.std.specs.Prelude.{◌≡◌, ℕ, ◌+◌, true, false, List, [], ◌∷◌, ◌++◌, map, Contains, ◌⊎◌}
use Rattle.driver_core.specs.Change.{Change}
use Rattle.driver_core.specs.declared.state.event.Event.{Event}
use Rattle.driver_core.specs.declared.state.event.Event.TheVariants.{Command}
use Rattle.driver_core.specs.declared.state.event.Inputs.{Inputs}
use Rattle.driver_core.specs.declared.state.refusal.Refusal.{Refusal}
use Rattle.driver_core.specs.declared.state.refusal.Refusal.TheVariants.{Denied, Full}
use Rattle.driver_core.specs.declared.state.replies.Reply.TheVariants.{Error, OperationSuccess, CounterReady}
use Rattle.driver_core.specs.Commands.{heard}
use Rattle.driver_core.specs.Conduct.{coming_to, conduct}
use Rattle.driver_core.specs.Counting.{has_room_for_counter}
use Rattle.driver_core.specs.Renewal.{images_decided, images_told}
use Rattle.driver_core.specs.Requests.{Asks}
use Rattle.driver_core.specs.State.{State, at_moment, ruled}
use Rattle.driver_core.specs.Unread.{without_unread}
use Rattle.driver_core.specs.Verdicts.{IsByPolicy, verdict_on}
use Rattle.driver_laws.specs.Acts.{counter_question, termination_question}
use Rattle.driver_laws.specs.Events.{AfterAnyEvents}
use Rattle.driver_laws.specs.Turning.{TurnsTo}
use Rattle.driver_laws.specs.LeavingLaws.{IsTerminatedBy}
use Rattle.client_registry.specs.declared.client.Client.{Client}
use Rattle.client_registry.specs.Clients.{cleared}
use Rattle.command_codec.specs.declared.add_counter.AddCounter.{AddCounter}
use Rattle.command_codec.specs.declared.command.Body.TheVariants.{AddCounter as AddsCounter, TerminateDriver as Terminates}
use Rattle.command_codec.specs.declared.terminate_driver.TerminateDriver.{TerminateDriver}
use Rattle.counters.specs.declared.counter.Counter.{Counter}
use Rattle.counters.specs.Counters.{made}
use Rattle.destinations.specs.Destinations.{cleared as all_recalled}
use Rattle.policy_core.specs.declared.decision.Decision.{Decision}
use Rattle.policy_core.specs.Question.{Question}
use Rattle.stream_registry.specs.Lingering.{place_of}
use Rattle.stream_registry.specs.Streams.{cleared as all_closed}

-- what is reported of a question to those who audit
abbrev pub decided_on : State → Question → Decision
decided_on s question = record {
  principal = question.principal;
  act = question.act;
  subject = 0;
  stream = question.stream;
  verdict = verdict_on s question;
}

-- nothing changes but the moments, and the event's own reply says why; beside that it takes and brings what the moment does
pub record IsRefusedOn (before s : State) (now handle correlation : ℕ) (inputs : Inputs) (question : Question) (refusal : Refusal) (change : Change) : Type 0 where
  pub after_is : change.after ≡ without_unread (heard (at_moment s now) handle)
  pub turns : TurnsTo before s change
  pub told :
      change.outcome.replies
      ≡ record { client = handle; reply = Error correlation refusal }
      ∷ images_told (heard (at_moment s now) handle) inputs change.outcome.gone change.outcome.come
  pub decided :
      change.outcome.decisions
      ≡ decided_on s question ∷ images_decided (heard (at_moment s now) handle) change.outcome.gone change.outcome.come

-- ---- counters

-- the registry with the counter after the others, under the next number and at 0
abbrev pub counted_at : State → ℕ → ℕ → AddCounter → State
counted_at s now handle fields = record (heard (at_moment s now) handle) {
  counters = s.counters ++ made (s.last_number + 1) handle fields.type_id fields.key fields.label ∷ [];
  last_number = s.last_number + 1;
}

-- it stands there, and the event's own reply names it; beside that the event takes and brings what the moment does
pub record IsCounted (before s : State) (now handle correlation : ℕ) (inputs : Inputs) (client : Client) (fields : AddCounter) (change : Change) : Type 0 where
  pub after_is : change.after ≡ without_unread (counted_at s now handle fields)
  pub turns : TurnsTo before s change
  pub told :
      change.outcome.replies
      ≡ record { client = handle; reply = CounterReady correlation (s.last_number + 1) }
      ∷ images_told (counted_at s now handle fields) inputs change.outcome.gone change.outcome.come
  pub decided :
      change.outcome.decisions
      ≡ decided_on s (counter_question client fields)
      ∷ images_decided (counted_at s now handle fields) change.outcome.gone change.outcome.come

-- the verdict decides, which is the first matching rule's or the default's, and then the room
pub record IsCountedExactly (before s : State) (now handle correlation : ℕ) (inputs : Inputs) (client : Client) (fields : AddCounter) (change : Change) : Type 0 where
  pub by : IsByPolicy s (counter_question client fields) (verdict_on s (counter_question client fields))
  pub granted :
      (verdict_on s (counter_question client fields)).allow ≡ true → has_room_for_counter s ≡ true →
      IsCounted before s now handle correlation inputs client fields change
  pub full :
      (verdict_on s (counter_question client fields)).allow ≡ true → has_room_for_counter s ≡ false →
      IsRefusedOn before s now handle correlation inputs (counter_question client fields) Full change
  pub denied :
      (verdict_on s (counter_question client fields)).allow ≡ false →
      IsRefusedOn before s now handle correlation inputs (counter_question client fields)
      (Denied (verdict_on s (counter_question client fields))) change

abbrev pub CountersAreGrantedExactly : Type 0
CountersAreGrantedExactly =
    AfterAnyEvents (λ s.
    (now handle correlation : ℕ) (bytes : List ℕ) (inputs : Inputs) (client : Client) (fields : AddCounter) →
    Asks s handle bytes client correlation (AddsCounter fields) →
    IsCountedExactly s (ruled s now) now handle correlation inputs client fields (conduct s (Command now handle bytes) inputs))

-- ---- the end of the driver

-- all clients are gone, with all that they registered, and nobody comes any more
pub record IsTerminated (s : State) (now handle correlation : ℕ) (client : Client) (change : Change) : Type 0 where
  pub after_is :
      change.after
      ≡ record (at_moment s now) {
        clients = cleared s.clients;
        streams = all_closed s.streams;
        destinations = all_recalled s.destinations;
        counters = [];
        stopped = true;
      }
  pub told : change.outcome.replies ≡ record { client = handle; reply = OperationSuccess correlation } ∷ []
  pub decided : change.outcome.decisions ≡ decided_on s (termination_question client) ∷ []
  pub closes : change.outcome.closes ≡ map place_of s.streams.sources

pub record IsTerminatedExactly (before s : State) (now handle correlation : ℕ) (inputs : Inputs) (client : Client) (change : Change) : Type 0 where
  pub by : IsByPolicy s (termination_question client) (verdict_on s (termination_question client))
  pub granted :
      (verdict_on s (termination_question client)).allow ≡ true → IsTerminated s now handle correlation client change
  pub denied :
      (verdict_on s (termination_question client)).allow ≡ false →
      IsRefusedOn before s now handle correlation inputs (termination_question client)
      (Denied (verdict_on s (termination_question client))) change

abbrev pub TerminationsAreGrantedExactly : Type 0
TerminationsAreGrantedExactly =
    AfterAnyEvents (λ s.
    (now handle correlation : ℕ) (bytes : List ℕ) (inputs : Inputs) (client : Client) (fields : TerminateDriver) →
    Asks s handle bytes client correlation (Terminates fields) →
    IsTerminatedExactly s (ruled s now) now handle correlation inputs client (conduct s (Command now handle bytes) inputs))

-- ---- granted only

-- a counter of this number, client, type, key and label stood before, whatever its value was
pub record StoodBefore (s : State) (counter : Counter) : Type 0 where
  pub before : Counter
  pub stood : Contains s.counters before
  pub same : counter ≡ record before { value = counter.value }

-- the event is a request that the policy in force allows while there is room, and makes this counter
pub record IsCounterMadeBy (s : State) (event : Event) (counter : Counter) : Type 0 where
  pub moment : ℕ
  pub bytes : List ℕ
  pub client : Client
  pub correlation : ℕ
  pub fields : AddCounter
  pub event_is : event ≡ Command moment counter.client bytes
  pub asks : Asks s counter.client bytes client correlation (AddsCounter fields)
  pub by : IsByPolicy s (counter_question client fields) (verdict_on s (counter_question client fields))
  pub allowed : (verdict_on s (counter_question client fields)).allow ≡ true
  pub room : has_room_for_counter s ≡ true
  pub made_is : counter ≡ made (s.last_number + 1) counter.client fields.type_id fields.key fields.label

-- a counter comes, and the driver ends, only by such a request
pub record CountsAndEndsOnly (s : State) (event : Event) (change : Change) : Type 0 where
  pub counters :
      (counter : Counter) → Contains change.after.counters counter →
      StoodBefore s counter ⊎ IsCounterMadeBy s event counter
  pub ends : change.after.stopped ≡ true → (s.stopped ≡ true) ⊎ IsTerminatedBy s event

abbrev pub CountersAndTerminationsAreGrantedOnly : Type 0
CountersAndTerminationsAreGrantedOnly =
    AfterAnyEvents (λ s. (event : Event) (inputs : Inputs) → CountsAndEndsOnly (coming_to s event) event (conduct s event inputs))
