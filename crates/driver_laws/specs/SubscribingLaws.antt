-- Over every list of events: subscriptions are granted as the policy in force says, and not otherwise.
use Rattle.std.specs.Prelude.{◌≡◌, ℕ, ◌+◌, Bool, true, false, List, [], ◌∷◌, ◌++◌, Contains, ◌⊎◌}
use Rattle.std.specs.List.{AllByRecursion}
use Rattle.driver_core.specs.Change.{Change}
use Rattle.driver_core.specs.declared.state.event.Event.{Event}
use Rattle.driver_core.specs.declared.state.event.Event.TheVariants.{Command}
use Rattle.driver_core.specs.declared.state.event.Inputs.{Inputs}
use Rattle.driver_core.specs.declared.state.refusal.Refusal.{Refusal}
use Rattle.driver_core.specs.declared.state.refusal.Refusal.TheVariants.{Denied, Full}
use Rattle.driver_core.specs.declared.state.replies.Reply.{Reply}
use Rattle.driver_core.specs.declared.state.replies.Reply.TheVariants.{Error, SubscriptionReady}
use Rattle.driver_core.specs.Commands.{heard}
use Rattle.driver_core.specs.Conduct.{coming_to, conduct}
use Rattle.driver_core.specs.Renewal.{images_told, images_decided, renewed}
use Rattle.driver_core.specs.Requests.{SubscriptionRequest, AsksToSubscribe}
use Rattle.driver_core.specs.State.{State, at_moment, ruled}
use Rattle.driver_core.specs.Subscribing.{act_of, subscribed, has_room_for_subscription, with_subscription}
use Rattle.driver_core.specs.Unread.{dropping, without_unread}
use Rattle.driver_core.specs.Verdicts.{IsByPolicy, verdict_on}
use Rattle.driver_laws.specs.Acts.{subscription_question}
use Rattle.driver_laws.specs.Events.{AfterAnyEvents}
use Rattle.driver_laws.specs.Turning.{TurnsTo}
use Rattle.policy_core.specs.declared.decision.Decision.{Decision}
use Rattle.stream_registry.specs.declared.row.Subscription.{Subscription}

-- ---- a request for a subscription

-- what is reported of it to those who audit
abbrev pub decision_on : State → SubscriptionRequest → Decision
decision_on s request = record {
  principal = request.client.principal;
  act = act_of request.channel;
  subject = 0;
  stream = request.fields.stream;
  verdict = verdict_on s (subscription_question request);
}

-- the subscription that is asked for, under the next number
abbrev pub subscription_for : State → ℕ → SubscriptionRequest → Subscription
subscription_for s handle request = record {
  number = s.last_number + 1;
  client = handle;
  channel = request.channel;
  stream = request.fields.stream;
}

-- the registry with it
abbrev pub subscribed_at : State → ℕ → ℕ → SubscriptionRequest → State
subscribed_at s now handle request =
    with_subscription (heard (at_moment s now) handle) request.client.number request.channel request.fields.stream

-- ---- granted exactly

-- the subscription stands after the others, and its own reply names it, before those of the images that come and go with it
pub record IsGranted (before s : State) (now handle : ℕ) (inputs : Inputs) (request : SubscriptionRequest) (change : Change) : Type 0 where
  pub change_is :
      change
      ≡ dropping before (renewed before inputs
      (subscribed (heard (at_moment s now) handle) request.client request.correlation request.channel request.fields.stream))
  pub stands : change.after.streams.subscriptions ≡ s.streams.subscriptions ++ subscription_for s handle request ∷ []
  pub numbered : change.after.last_number ≡ s.last_number + 1
  pub turns : TurnsTo before (subscribed_at s now handle request) change
  pub told :
      change.outcome.replies
      ≡ record { client = handle; reply = SubscriptionReady request.correlation (s.last_number + 1) }
      ∷ images_told (subscribed_at s now handle request) inputs change.outcome.gone change.outcome.come
  pub decided :
      change.outcome.decisions
      ≡ decision_on s request
      ∷ images_decided (subscribed_at s now handle request) change.outcome.gone change.outcome.come

-- nothing is added, and the event's own reply says why; what the moment takes and brings is reported after it
pub record IsRefused (before s : State) (now handle : ℕ) (inputs : Inputs) (request : SubscriptionRequest) (refusal : Refusal) (change : Change) : Type 0 where
  pub after_is : change.after ≡ without_unread (heard (at_moment s now) handle)
  pub stands : change.after.streams ≡ (without_unread s).streams
  pub numbered : change.after.last_number ≡ s.last_number
  pub turns : TurnsTo before s change
  pub told :
      change.outcome.replies
      ≡ record { client = handle; reply = Error request.correlation refusal }
      ∷ images_told (heard (at_moment s now) handle) inputs change.outcome.gone change.outcome.come
  pub decided :
      change.outcome.decisions
      ≡ decision_on s request
      ∷ images_decided (heard (at_moment s now) handle) change.outcome.gone change.outcome.come

-- there is room for the subscription, its number and its pairs
abbrev pub has_room_for_request : State → ℕ → SubscriptionRequest → Bool
has_room_for_request s handle request = has_room_for_subscription s handle request.channel request.fields.stream

-- the verdict decides, which is the first matching rule's or the default's, and then the room
pub record IsDecidedExactly (before s : State) (now handle : ℕ) (inputs : Inputs) (request : SubscriptionRequest) (change : Change) : Type 0 where
  pub by : IsByPolicy s (subscription_question request) (verdict_on s (subscription_question request))
  pub granted :
      (verdict_on s (subscription_question request)).allow ≡ true → has_room_for_request s handle request ≡ true → IsGranted before s now handle inputs request change
  pub full :
      (verdict_on s (subscription_question request)).allow ≡ true → has_room_for_request s handle request ≡ false → IsRefused before s now handle inputs request Full change
  pub denied :
      (verdict_on s (subscription_question request)).allow ≡ false → IsRefused before s now handle inputs request (Denied (verdict_on s (subscription_question request))) change

abbrev pub SubscriptionsAreGrantedExactly : Type 0
SubscriptionsAreGrantedExactly =
    AfterAnyEvents (λ s.
    (now handle : ℕ) (bytes : List ℕ) (inputs : Inputs) (request : SubscriptionRequest) →
    AsksToSubscribe s handle bytes request →
    IsDecidedExactly s (ruled s now) now handle inputs request (conduct s (Command now handle bytes) inputs))

-- ---- granted only

-- the event is a request that the policy in force allows while there is room, and makes this subscription
pub record IsMadeBy (s : State) (event : Event) (correlation : ℕ) (made : Subscription) : Type 0 where
  pub moment : ℕ
  pub bytes : List ℕ
  pub request : SubscriptionRequest
  pub event_is : event ≡ Command moment made.client bytes
  pub asks : AsksToSubscribe s made.client bytes request
  pub by : IsByPolicy s (subscription_question request) (verdict_on s (subscription_question request))
  pub allowed : (verdict_on s (subscription_question request)).allow ≡ true
  pub room : has_room_for_request s made.client request ≡ true
  pub correlation_is : correlation ≡ request.correlation
  pub made_is : made ≡ subscription_for s made.client request

-- a reply that names a subscription names one that the event made, and that stands
abbrev pub IsGrantTold : State → Event → State → ℕ → Reply → Type 0
IsGrantTold s event after client (SubscriptionReady correlation registration) =
    (made : Subscription)
    × (made.client ≡ client)
    × (made.number ≡ registration)
    × Contains after.streams.subscriptions made
    × IsMadeBy s event correlation made
IsGrantTold s event after client reply = Unit {0}

pub record GrantsOnly (s : State) (event : Event) (change : Change) : Type 0 where
  pub told :
      AllByRecursion (λ message. IsGrantTold s event change.after message.client message.reply) change.outcome.replies
  pub stands :
      (subscription : Subscription) → Contains change.after.streams.subscriptions subscription →
      Contains s.streams.subscriptions subscription ⊎ ((correlation : ℕ) × IsMadeBy s event correlation subscription)

abbrev pub SubscriptionsAreGrantedOnly : Type 0
SubscriptionsAreGrantedOnly =
    AfterAnyEvents (λ s. (event : Event) (inputs : Inputs) → GrantsOnly (coming_to s event) event (conduct s event inputs))
