-- Over every list of events: which subscriptions and registrations go.
use Rattle.std.specs.Prelude.{◌≡◌, ℕ, max, true, false, List, ◌∷◌, map, filter, Contains, ◌⊎◌}
use Rattle.driver_core.specs.Change.{Change}
use Rattle.driver_core.specs.declared.state.event.Event.{Event}
use Rattle.driver_core.specs.declared.state.event.Event.TheVariants.{Command}
use Rattle.driver_core.specs.declared.state.event.Inputs.{Inputs}
use Rattle.driver_core.specs.declared.state.refusal.Refusal.{Refusal}
use Rattle.driver_core.specs.declared.state.refusal.Refusal.TheVariants.{UnknownPublication, UnknownSubscription}
use Rattle.driver_core.specs.declared.state.replies.Reply.TheVariants.{Error, OperationSuccess}
use Rattle.driver_core.specs.Commands.{heard}
use Rattle.driver_core.specs.Conduct.{coming_to, conduct, state_after}
use Rattle.driver_core.specs.Pairs.{pairs_of}
use Rattle.driver_core.specs.Renewal.{images_told, images_decided}
use Rattle.driver_core.specs.Requests.{Asks, RemovalRequest, AsksToRemove}
use Rattle.driver_core.specs.State.{State, at_moment, ruled}
use Rattle.driver_core.specs.Unread.{without_unread}
use Rattle.driver_laws.specs.Events.{AfterAnyEvents}
use Rattle.driver_laws.specs.Turning.{TurnsTo}
use Rattle.driver_laws.specs.LeavingLaws.{IsGoneBy}
use Rattle.client_registry.specs.declared.client.Client.{Client}
use Rattle.command_codec.specs.declared.command.Body.{Body}
use Rattle.command_codec.specs.declared.command.Body.TheVariants.{RemovePublication as Unpublishes}
use Rattle.command_codec.specs.declared.removal.Removal.{Removal}
use Rattle.log_readers.specs.Unread.{is_unread}
use Rattle.stream_registry.specs.declared.row.Registration.{Registration}
use Rattle.stream_registry.specs.declared.row.Subscription.{Subscription}
use Rattle.stream_registry.specs.Leaving.{has_registration, has_subscription, unregistered, unsubscribed}
use Rattle.stream_registry.specs.Lingering.{place_of}

-- ---- subscriptions are removed exactly

-- the client's subscription of that number goes, and all else stays but for the moments
abbrev pub removed_from : State → ℕ → ℕ → RemovalRequest → State
removed_from s now handle request = record (heard (at_moment s now) handle) {
  streams = unsubscribed s.streams handle request.fields.registration;
}

-- and then the images close of which no pair is left
pub record IsRemoved (before s : State) (now handle : ℕ) (inputs : Inputs) (request : RemovalRequest) (change : Change) : Type 0 where
  pub after_is :
      change.after ≡ without_unread (removed_from s now handle request)
  pub turns : TurnsTo before (removed_from s now handle request) change
  pub told :
      change.outcome.replies
      ≡ record { client = handle; reply = OperationSuccess request.correlation }
      ∷ images_told (removed_from s now handle request) inputs change.outcome.gone change.outcome.come
  pub decided :
      change.outcome.decisions
      ≡ images_decided (removed_from s now handle request) change.outcome.gone change.outcome.come
  pub closes :
      change.outcome.closes ≡ map place_of (filter (is_unread (pairs_of change.after)) s.streams.sources)

-- nothing goes but what the moment takes, and the event's own reply says why
pub record IsUnknown (before s : State) (now handle correlation : ℕ) (inputs : Inputs) (refusal : Refusal) (change : Change) : Type 0 where
  pub after_is : change.after ≡ without_unread (heard (at_moment s now) handle)
  pub turns : TurnsTo before s change
  pub told :
      change.outcome.replies
      ≡ record { client = handle; reply = Error correlation refusal }
      ∷ images_told (heard (at_moment s now) handle) inputs change.outcome.gone change.outcome.come
  pub decided :
      change.outcome.decisions
      ≡ images_decided (heard (at_moment s now) handle) change.outcome.gone change.outcome.come

pub record IsRemovedExactly (before s : State) (now handle : ℕ) (inputs : Inputs) (request : RemovalRequest) (change : Change) : Type 0 where
  pub known : has_subscription s.streams handle request.fields.registration ≡ true → IsRemoved before s now handle inputs request change
  pub unknown : has_subscription s.streams handle request.fields.registration ≡ false → IsUnknown before s now handle request.correlation inputs UnknownSubscription change

abbrev pub SubscriptionsAreRemovedExactly : Type 0
SubscriptionsAreRemovedExactly =
    AfterAnyEvents (λ s.
    (now handle : ℕ) (bytes : List ℕ) (inputs : Inputs) (request : RemovalRequest) →
    AsksToRemove s handle bytes request →
    IsRemovedExactly s (ruled s now) now handle inputs request (conduct s (Command now handle bytes) inputs))

-- ---- subscriptions are removed only

-- the event is the request of the subscription's own client that it go
pub record IsRemovedBy (s : State) (event : Event) (subscription : Subscription) : Type 0 where
  pub moment : ℕ
  pub bytes : List ℕ
  pub request : RemovalRequest
  pub event_is : event ≡ Command moment subscription.client bytes
  pub asks : AsksToRemove s subscription.client bytes request
  pub number_is : subscription.number ≡ request.fields.registration

-- or it takes the subscription's client away, and with it all that the client registered
abbrev pub Goes : State → Event → Subscription → Type 0
Goes s event subscription = IsRemovedBy s event subscription ⊎ IsGoneBy s event subscription.client

abbrev pub SubscriptionsAreRemovedOnly : Type 0
SubscriptionsAreRemovedOnly =
    AfterAnyEvents (λ s.
    (event : Event) (inputs : Inputs) (subscription : Subscription) → Contains s.streams.subscriptions subscription →
    Contains (state_after s event inputs).streams.subscriptions subscription ⊎ Goes (coming_to s event) event subscription)

-- ---- registrations are removed exactly

-- The client's registration of that number goes, and its log lingers from now on where nobody else is registered with it.
abbrev pub unregistered_from : State → ℕ → ℕ → ℕ → State
unregistered_from s now handle number = record (heard (at_moment s now) handle) {
  streams = unregistered s.streams handle number (max s.moment now);
}

-- All else stays but for the moments, and what the moment takes and brings.
pub record IsUnregistered (before s : State) (now handle correlation number : ℕ) (inputs : Inputs) (change : Change) : Type 0 where
  pub after_is : change.after ≡ without_unread (unregistered_from s now handle number)
  pub turns : TurnsTo before s change
  pub told :
      change.outcome.replies
      ≡ record { client = handle; reply = OperationSuccess correlation }
      ∷ images_told (unregistered_from s now handle number) inputs change.outcome.gone change.outcome.come
  pub decided :
      change.outcome.decisions
      ≡ images_decided (unregistered_from s now handle number) change.outcome.gone change.outcome.come

pub record IsUnregisteredExactly (before s : State) (now handle correlation number : ℕ) (inputs : Inputs) (change : Change) : Type 0 where
  pub known : has_registration s.streams handle number ≡ true → IsUnregistered before s now handle correlation number inputs change
  pub unknown :
      has_registration s.streams handle number ≡ false → IsUnknown before s now handle correlation inputs UnknownPublication change

abbrev pub RegistrationsAreRemovedExactly : Type 0
RegistrationsAreRemovedExactly =
    AfterAnyEvents (λ s.
    (now handle correlation : ℕ) (bytes : List ℕ) (inputs : Inputs) (client : Client) (fields : Removal) →
    Asks s handle bytes client correlation (Unpublishes fields) →
    IsUnregisteredExactly s (ruled s now) now handle correlation fields.registration inputs (
    conduct s (Command now handle bytes) inputs))

-- ---- registrations are removed only

-- the event is this request, of this client
pub record IsAskedBy (s : State) (event : Event) (client : ℕ) (body : Body) : Type 0 where
  pub moment : ℕ
  pub bytes : List ℕ
  pub row : Client
  pub correlation : ℕ
  pub event_is : event ≡ Command moment client bytes
  pub asks : Asks s client bytes row correlation body

abbrev pub RegistrationsAreRemovedOnly : Type 0
RegistrationsAreRemovedOnly =
    AfterAnyEvents (λ s.
    (event : Event) (inputs : Inputs) (registration : Registration) →
    Contains s.streams.registrations registration →
    Contains (state_after s event inputs).streams.registrations registration
    ⊎ (IsAskedBy (coming_to s event) event registration.client (Unpublishes (record { registration = registration.number }))
    ⊎ IsGoneBy (coming_to s event) event registration.client))
