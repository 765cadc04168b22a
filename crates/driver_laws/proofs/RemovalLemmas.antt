-- Which subscriptions go.
use Rattle.std.proofs.Common.{◌≡◌, ℕ, ◌==◌, true, false, List, [], ◌∷◌, map, filter, inl, inr, refl, sym, ap, ◌∙◌, ◌⊎◌, ⊎_elim}
use Rattle.std.specs.List.{Contains}
use Rattle.std.proofs.lemmas.Bool.{eqb-true, eq-eqb, and_parts, cases_Bool, not_from_false}
use Rattle.std.proofs.lemmas.List.{append-nil}
use Rattle.std.proofs.lemmas.List.Elements.{Contains-append_left}
use Rattle.driver_core.specs.Directing.{directed, recalled, with_destination, without_destination}
use Rattle.driver_core.specs.declared.state.event.Event.{Event}
use Rattle.driver_core.specs.declared.state.event.Event.TheVariants.{Attach, Command, Reload, Setup, Tick}
use Rattle.driver_core.specs.declared.state.event.Inputs.{Inputs}
use Rattle.driver_core.specs.declared.state.outcome.Response.{Response}
use Rattle.driver_core.specs.declared.state.refusal.Refusal.{Refusal}
use Rattle.driver_core.specs.declared.state.refusal.Refusal.TheVariants.{UnknownSubscription}
use Rattle.driver_core.specs.declared.state.replies.Message.{Message}
use Rattle.driver_core.specs.declared.state.replies.Reply.TheVariants.{Error, OperationSuccess}
use Rattle.driver_core.specs.Attaching.{attached}
use Rattle.driver_core.specs.Closing.{keep_alive, close}
use Rattle.driver_core.specs.Commands.{heard, requested, asked, command, at_request}
use Rattle.driver_core.specs.Conduct.{coming_to, conduct, drafted, state_after}
use Rattle.driver_core.specs.Counting.{counted, with_counter, valued, uncounted}
use Rattle.driver_core.specs.Deciding.{decision_by}
use Rattle.driver_core.specs.Draft.{Draft, answered, told, replied, replied_opening, refused}
use Rattle.driver_core.specs.Publishing.{published, with_directed_publication, with_publication}
use Rattle.driver_core.specs.Reloading.{in_force, reloaded}
use Rattle.driver_core.specs.Renewal.{renewed, images_decided, images_told}
use Rattle.driver_core.specs.Requests.{Asks, PublicationRequest, SubscriptionRequest, RemovalRequest, AsksToRemove, termination_question, wanted_by}
use Rattle.driver_core.specs.State.{State, at_moment, ruled}
use Rattle.driver_core.specs.Subscribing.{subscribed, with_subscription}
use Rattle.driver_core.specs.Terminating.{terminated, termination_decision}
use Rattle.driver_core.specs.Ticking.{closed_past, tick, ticked, late}
use Rattle.driver_core.specs.Unpublishing.{unpublished}
use Rattle.driver_core.specs.Unsubscribing.{remove_subscription, unsubscribed}
use Rattle.driver_core.specs.Verdicts.{verdict_on}
use Rattle.driver_core.specs.SettingUp.{image_made, with_image}
use Rattle.driver_core.specs.Unread.{dropping, without_unread}
use Rattle.driver_core.specs.Change.{Change}
use Rattle.driver_core.specs.Pairs.{pairs_of}
use Rattle.driver_laws.specs.LeavingLaws.{IsClosedBy}
use Rattle.driver_laws.specs.NumberLaws.{AreRising}
use Rattle.driver_laws.specs.RemovalLaws.{IsRemoved, IsUnknown, IsRemovedExactly, IsRemovedBy, Goes}
use Rattle.client_registry.specs.declared.client.Client.{Client}
use Rattle.command_codec.specs.declared.add_counter.AddCounter.{AddCounter}
use Rattle.command_codec.specs.declared.set_counter.SetCounter.{SetCounter}
use Rattle.command_codec.specs.declared.command.Body.{Body}
use Rattle.command_codec.specs.declared.command.Body.TheVariants.{ClientClose as Closes, TerminateDriver as Terminates}
use Rattle.command_codec.specs.declared.terminate_driver.TerminateDriver.{TerminateDriver}
use Rattle.policy_core.specs.declared.decision.Decision.{Decision}
use Rattle.policy_core.specs.RuleList.{Rules}
use Rattle.stream_registry.specs.declared.row.Subscription.{Subscription}
use Rattle.stream_registry.specs.declared.wanted.Adding.{Adding}
use Rattle.stream_registry.specs.declared.wanted.Adding.TheVariants.{Join, Make}
use Rattle.stream_registry.specs.declared.wanted.Wanted.{Wanted}
use Rattle.stream_registry.specs.Adding.{added, subscribed as subscribed_in}
use Rattle.stream_registry.specs.Leaving.{has_subscription, is_another_subscription, is_own_subscription, unregistered, unsubscribed as unsubscribed_in}
use Rattle.stream_registry.specs.Lingering.{closed, place_of, settled}
use Rattle.stream_registry.specs.Streams.{Streams}
use Rattle.stream_registry.specs.declared.wanted.ImageWanted.{ImageWanted}
use Rattle.stream_registry.specs.declared.pairs.Pair.{Pair}
use Rattle.log_readers.specs.Unread.{is_unread, without_unread as without_unread_in}
use Rattle.channel_uri.specs.declared.address.Address.{Address}
use Rattle.frame_codec.specs.declared.setup.Setup.{Setup as SetupFrame}
use Rattle.driver_core.proofs.EventCases.{Cases, attach_cases, command_cases, reload_cases, set_up_cases}
use Rattle.driver_core.proofs.ListLemmas.{passes_are_left}
use Rattle.driver_core.proofs.PairLemmas.{pairs_heard}
use Rattle.driver_laws.proofs.SubscribingLemmas.{found_number}
use Rattle.driver_laws.proofs.LeavingLemmas.{left_or_stays, one_left_or_stays}
use Rattle.driver_laws.proofs.DroppingLemmas.{pairs_stay}
use Rattle.driver_laws.proofs.NumberLemmas.{removal_rises, request_rises}
use Rattle.driver_laws.proofs.TurningLemmas.{by_draft, rising_at, sources_at, told_before, turns_to}
use Rattle.stream_registry.specs.declared.row.LogRow.{LogRow}

-- ---- removed exactly

removal_is_decided : (s : State) (now handle : ℕ) (bytes : List ℕ) (inputs : Inputs) (request : RemovalRequest) →
    AsksToRemove s handle bytes request →
    drafted s (Command now handle bytes) inputs
    ≡ remove_subscription (at_request s now handle) request.client request.correlation request.fields
unfolding drafted command asked requested at_moment
removal_is_decided s now handle bytes inputs request asks =
    rw (asks.command, eq-eqb handle handle refl, asks.attached) refl

known_is : (s : State) (now handle number : ℕ) →
    has_subscription (at_request s now handle).streams handle number ≡ has_subscription s.streams handle number
unfolding heard at_moment
known_is s now handle number = refl

removal_grants : (s : State) (request : RemovalRequest) →
    has_subscription s.streams request.client.number request.fields.registration ≡ true →
    remove_subscription s request.client request.correlation request.fields
    ≡ unsubscribed s request.client request.correlation request.fields.registration
unfolding remove_subscription
removal_grants s request known = rw known refl

removal_is_unknown : (s : State) (request : RemovalRequest) →
    has_subscription s.streams request.client.number request.fields.registration ≡ false →
    remove_subscription s request.client request.correlation request.fields
    ≡ refused s [] request.client.number request.correlation UnknownSubscription
unfolding remove_subscription
removal_is_unknown s request known = rw known refl

-- one reply comes before those of images, and none behind them
pub told_first : (s : State) (inputs : Inputs) (draft : Draft) (message : Message) → draft.replies ≡ message ∷ [] →
    draft.later ≡ [] →
    (renewed s inputs draft).outcome.replies
    ≡ message
    ∷ images_told (renewed s inputs draft).after inputs (renewed s inputs draft).outcome.gone
    (renewed s inputs draft).outcome.come
unfolding renewed
told_first s inputs draft message is none = rw (is, none) (ap (λ rest. message ∷ rest) (append-nil _))

-- the client's subscription of that number is gone
abbrev left_behind : State → ℕ → ℕ → ℕ → ℕ → State
left_behind s now handle client number =
    record (at_request s now handle) { streams = unsubscribed_in s.streams client number }

removed_change : (before s : State) → before.streams.sources ≡ s.streams.sources → AreRising s → (now handle : ℕ)
    (inputs : Inputs) (request : RemovalRequest) → request.client.number ≡ handle →
    IsRemoved before s now handle inputs request (
    dropping before (renewed before inputs (
    unsubscribed (at_request s now handle) request.client request.correlation request.fields.registration)))
unfolding dropping renewed unsubscribed replied told heard at_moment
removed_change before s logs rises now handle inputs request own =
    let draft : Draft = unsubscribed (at_request s now handle) request.client request.correlation request.fields.registration in
    let change : Change = renewed before inputs draft in
    let same : pairs_of (without_unread draft.after) ≡ pairs_of draft.after =
    pairs_stay draft.after (removal_rises (at_request s now handle) request (request_rises s now handle rises)).rises in
    let success : Message = record { client = handle; reply = OperationSuccess request.correlation } in
    record {
      after_is = ap (λ (client : ℕ). without_unread (left_behind s now handle client request.fields.registration)) own;
      turns = turns_to before inputs draft (left_behind s now handle handle request.fields.registration) refl
          (ap (λ (client : ℕ). pairs_of (left_behind s now handle client request.fields.registration)) own);
      told = told_first before inputs draft success (rw own refl) refl
          ∙ ap (λ (client : ℕ).
          success
          ∷ images_told (left_behind s now handle client request.fields.registration) inputs change.outcome.gone
          change.outcome.come) own;
      decided = ap (λ (client : ℕ).
          images_decided (left_behind s now handle client request.fields.registration) change.outcome.gone
          change.outcome.come) own;
      closes = ap (λ (logs' : List LogRow). map place_of (filter (is_unread (pairs_of draft.after)) logs')) logs
          ∙ ap (λ (pairs : List Pair). map place_of (filter (is_unread pairs) s.streams.sources)) (sym same);
    }

-- a refusal leaves the pairs as they are
pub unknown_change : (before s : State) (now handle client correlation : ℕ) (inputs : Inputs) (refusal : Refusal) →
    client ≡ handle →
    IsUnknown before s now handle correlation inputs refusal (
    dropping before (renewed before inputs (refused (at_request s now handle) [] client correlation refusal)))
unfolding dropping renewed refused replied told
unknown_change before s now handle client correlation inputs refusal own =
    let draft : Draft = refused (at_request s now handle) [] client correlation refusal in
    record {
      after_is = refl;
      turns = turns_to before inputs draft s refl (pairs_heard s now handle);
      told = told_before before inputs draft (record { client = handle; reply = Error correlation refusal }) (rw own refl) refl;
      decided = refl;
    }

by_number : (before s : State) → before.streams.sources ≡ s.streams.sources → AreRising s → (now handle : ℕ)
    (inputs : Inputs) (request : RemovalRequest) → request.client.number ≡ handle →
    IsRemovedExactly before s now handle inputs request (
    dropping before (renewed before inputs (
    remove_subscription (at_request s now handle) request.client request.correlation request.fields)))
by_number before s logs rises now handle inputs request own =
    let same = ap (λ (n : ℕ). has_subscription (at_request s now handle).streams n request.fields.registration) own
    ∙ known_is s now handle request.fields.registration in
    record {
      known = λ known.
          rw (removal_grants (at_request s now handle) request (same ∙ known))
          (removed_change before s logs rises now handle inputs request own);
      unknown = λ unknown.
          rw (removal_is_unknown (at_request s now handle) request (same ∙ unknown))
          (unknown_change before s now handle request.client.number request.correlation inputs UnknownSubscription own);
    }

-- the same client and number, by the policy as it is at the moment of the event
removes_at : (s : State) (now handle : ℕ) (bytes : List ℕ) (request : RemovalRequest) →
    AsksToRemove s handle bytes request → AsksToRemove (ruled s now) handle bytes request
unfolding ruled
removes_at s now handle bytes request asks = record { command = asks.command; attached = asks.attached }

pub removed_exactly : (s : State) → AreRising s → (now handle : ℕ) (bytes : List ℕ) (inputs : Inputs) (request : RemovalRequest) →
    AsksToRemove s handle bytes request →
    IsRemovedExactly s (ruled s now) now handle inputs request (conduct s (Command now handle bytes) inputs)
removed_exactly s rises now handle bytes inputs request asks =
    by_draft (IsRemovedExactly s (ruled s now) now handle inputs request) s (Command now handle bytes) inputs
    (remove_subscription (at_request (ruled s now) now handle) request.client request.correlation request.fields)
    (removal_is_decided (ruled s now) now handle bytes inputs request (removes_at s now handle bytes request asks))
    (by_number s (ruled s now) (sources_at s now) (rising_at s now rises) now handle inputs request
    (found_number s.clients.rows handle request.client asks.attached))

-- ---- removed only

-- each subscription stays, or the event is the request that it go, or takes its client away
record Leaves (s : State) (event : Event) (draft : Draft) : Type 0 where
  on : (subscription : Subscription) → Contains s.streams.subscriptions subscription →
      Contains draft.after.streams.subscriptions subscription ⊎ Goes s event subscription

all_stay : (s : State) (event : Event) (draft : Draft) → draft.after.streams.subscriptions ≡ s.streams.subscriptions →
    Leaves s event draft
all_stay s event draft same = record { on = λ subscription has. inl (rw same has) }

refusal_stays : (s : State) (event : Event) (left : State) (decisions : List Decision) (client correlation : ℕ)
    (refusal : Refusal) → left.streams.subscriptions ≡ s.streams.subscriptions →
    Leaves s event (refused left decisions client correlation refusal)
unfolding refused replied told
refusal_stays s event left decisions client correlation refusal same = all_stay s event _ same

answer_stays : (s : State) (event : Event) (left : State) (response : Response) → left.streams.subscriptions ≡ s.streams.subscriptions →
    Leaves s event (answered left response)
unfolding answered
answer_stays s event left response same = all_stay s event _ same

attached_stays : (s : State) (event : Event) (left : State) (principal : ℕ) → left.streams.subscriptions ≡ s.streams.subscriptions →
    Leaves s event (attached left principal)
unfolding attached answered
attached_stays s event left principal same = all_stay s event _ same

reloaded_stays : (s : State) (event : Event) (left : State) (policy : Rules) → left.streams.subscriptions ≡ s.streams.subscriptions →
    Leaves s event (reloaded left policy)
unfolding reloaded in_force answered
reloaded_stays s event left policy same = all_stay s event _ same

grant_stays : (s : State) (event : Event) (left : State) (request : SubscriptionRequest) →
    left.streams.subscriptions ≡ s.streams.subscriptions →
    Leaves s event (subscribed left request.client request.correlation request.channel request.fields.stream)
unfolding subscribed with_subscription subscribed_in replied told
grant_stays s event left request same =
    record { on = λ subscription has. inl (Contains-append_left left.streams.subscriptions _ subscription (rw same has)) }

-- registrations and publications come and go, and subscriptions stay
added_same : (t : Streams) (number client : ℕ) (wanted : Wanted) (place : ℕ) (adding : Adding) →
    (added t number client wanted place adding).subscriptions ≡ t.subscriptions
added_same t number client wanted place (Join source session) = refl
added_same t number client wanted place (Make session) = refl

publication_stays : (s : State) (event : Event) (left : State) (request : PublicationRequest) (adding : Adding) →
    left.streams.subscriptions ≡ s.streams.subscriptions →
    Leaves s event (published left request.client request.correlation (wanted_by request) adding)
unfolding published with_directed_publication with_publication replied_opening replied told
publication_stays s event left request adding same =
    all_stay s event _ (added_same left.streams _ request.client.number (wanted_by request) _ adding ∙ same)

unpublished_stays : (s : State) (event : Event) (left : State) (client : Client) (correlation number : ℕ) →
    left.streams.subscriptions ≡ s.streams.subscriptions → Leaves s event (unpublished left client correlation number)
unfolding unpublished unregistered settled replied told
unpublished_stays s event left client correlation number same = all_stay s event _ same

-- a subscription goes only where it is the client's, and has that number
is_own_by : (client number : ℕ) (subscription : Subscription) → is_own_subscription client number subscription ≡ true →
    (subscription.client ≡ client) × (subscription.number ≡ number)
is_own_by client number subscription own =
    let parts = and_parts (subscription.client == client) (subscription.number == number) own in
    (eqb-true subscription.client client parts.0, eqb-true subscription.number number parts.1)

asks_before : (s : State) (now handle : ℕ) (bytes : List ℕ) (request : RemovalRequest) →
    AsksToRemove (at_moment s now) handle bytes request → AsksToRemove s handle bytes request
unfolding at_moment
asks_before s now handle bytes request asks = record { command = asks.command; attached = asks.attached }

removed_by : (s : State) (now handle : ℕ) (bytes : List ℕ) (request : RemovalRequest) (subscription : Subscription) →
    AsksToRemove s handle bytes request → subscription.client ≡ handle →
    subscription.number ≡ request.fields.registration → IsRemovedBy s (Command now handle bytes) subscription
removed_by s now handle bytes request subscription asks own number = record {
  moment = now;
  bytes = bytes;
  request = request;
  event_is = rw own refl;
  asks = rw own asks;
  number_is = number;
}

stays_or_goes : (s : State) (now handle : ℕ) (bytes : List ℕ) (request : RemovalRequest) →
    AsksToRemove s handle bytes request → (left : State) → left.streams.subscriptions ≡ s.streams.subscriptions →
    Leaves s (Command now handle bytes) (
    unsubscribed left request.client request.correlation request.fields.registration)
unfolding unsubscribed unsubscribed_in replied told
stays_or_goes s now handle bytes request asks left same =
    record {
      on = λ subscription has.
          ⊎_elim
          (λ own.
          let by = is_own_by request.client.number request.fields.registration subscription own in
          let client = by.0 ∙ found_number s.clients.rows handle request.client asks.attached in
          inr (inl (removed_by s now handle bytes request subscription asks client by.1)))
          (λ other.
          inl (passes_are_left (is_another_subscription request.client.number request.fields.registration) left.streams.subscriptions subscription
          (not_from_false (is_own_subscription request.client.number request.fields.registration subscription) other) (rw same has)))
          (cases_Bool (is_own_subscription request.client.number request.fields.registration subscription));
    }

moment_same : (s : State) (now : ℕ) → (at_moment s now).streams.subscriptions ≡ s.streams.subscriptions
unfolding at_moment
moment_same s now = refl

request_same : (s : State) (now handle : ℕ) → (at_request s now handle).streams.subscriptions ≡ s.streams.subscriptions
unfolding at_moment heard
request_same s now handle = refl

keepalive_stays : (s : State) (event : Event) (left : State) → left.streams.subscriptions ≡ s.streams.subscriptions →
    Leaves s event (keep_alive left)
unfolding keep_alive told
keepalive_stays s event left same = all_stay s event _ same

counter_stays : (s : State) (event : Event) (left : State) (client : Client) (correlation : ℕ) (fields : AddCounter) →
    left.streams.subscriptions ≡ s.streams.subscriptions → Leaves s event (counted left client correlation fields)
unfolding counted with_counter replied told
counter_stays s event left client correlation fields same = all_stay s event _ same

value_stays : (s : State) (event : Event) (left : State) (client : Client) (correlation : ℕ) (fields : SetCounter) →
    left.streams.subscriptions ≡ s.streams.subscriptions → Leaves s event (valued left client correlation fields)
unfolding valued replied told
value_stays s event left client correlation fields same = all_stay s event _ same

destination_stays : (s : State) (event : Event) (left : State) (client : Client) (correlation : ℕ) (granted : _) →
    left.streams.subscriptions ≡ s.streams.subscriptions → Leaves s event (directed left client correlation granted)
unfolding directed with_destination replied told
destination_stays s event left client correlation granted same = all_stay s event _ same

destination_removal_stays : (s : State) (event : Event) (left : State) (client : Client) (correlation : ℕ) (target : _) →
    left.streams.subscriptions ≡ s.streams.subscriptions → Leaves s event (recalled left client correlation target)
unfolding recalled without_destination replied told
destination_removal_stays s event left client correlation target same = all_stay s event _ same

counter_removal_stays : (s : State) (event : Event) (left : State) (client : Client) (correlation number : ℕ) →
    left.streams.subscriptions ≡ s.streams.subscriptions → Leaves s event (uncounted left client correlation number)
unfolding uncounted told
counter_removal_stays s event left client correlation number same = all_stay s event _ same

-- the bytes ask for the same before the event's moment
pub asks_the_same : (s : State) (now handle : ℕ) (bytes : List ℕ) (client : Client) (correlation : ℕ) (body : Body) →
    Asks (at_moment s now) handle bytes client correlation body → Asks s handle bytes client correlation body
unfolding at_moment
asks_the_same s now handle bytes client correlation body asks =
    record { command = asks.command; attached = asks.attached }

pub closed_by : (s : State) (now handle : ℕ) (bytes : List ℕ) (client : Client) (correlation number : ℕ) →
    Asks s handle bytes client correlation Closes → number ≡ handle → IsClosedBy s (Command now handle bytes) number
closed_by s now handle bytes client correlation number asks own = record {
  moment = now;
  bytes = bytes;
  row = client;
  correlation = correlation;
  event_is = rw own refl;
  asks = rw own asks;
}

closing_stays : (s : State) (now handle : ℕ) (bytes : List ℕ) (client : Client) (correlation : ℕ) (left : State) →
    Asks s handle bytes client correlation Closes → left.streams.subscriptions ≡ s.streams.subscriptions →
    Leaves s (Command now handle bytes) (close left client correlation)
unfolding close replied told
closing_stays s now handle bytes client correlation left asks same =
    let own : client.number ≡ handle = found_number s.clients.rows handle client asks.attached in
    record {
      on = λ subscription has.
          ⊎_elim
          (λ stays. inl stays)
          (λ gone.
          inr (inr (inr (inl (closed_by s now handle bytes client correlation subscription.client asks (gone ∙ own))))))
          (one_left_or_stays left client.number subscription (rw same has));
    }

pub allowed_before : (s : State) (now handle : ℕ) (client : Client) →
    (termination_decision (at_request s now handle) client).verdict.allow ≡ true →
    (verdict_on s (termination_question client)).allow ≡ true
unfolding decision_by heard at_moment
allowed_before s now handle client allows = allows

termination_stays : (s : State) (now handle : ℕ) (bytes : List ℕ) (client : Client) (correlation : ℕ)
    (fields : TerminateDriver) (left : State) → Asks s handle bytes client correlation (Terminates fields) →
    (verdict_on s (termination_question client)).allow ≡ true →
    Leaves s (Command now handle bytes) (terminated left client correlation)
termination_stays s now handle bytes client correlation fields left asks allows =
    record {
      on = λ subscription has.
          inr (inr (inr (inr (record {
            moment = now;
            handle = handle;
            bytes = bytes;
            client = client;
            correlation = correlation;
            fields = fields;
            event_is = refl;
            asks = asks;
            allowed = allows;
          }))));
    }

command_stays : (s : State) (now handle : ℕ) (bytes : List ℕ) →
    Cases (Leaves s (Command now handle bytes)) (at_moment s now) handle bytes
command_stays s now handle bytes =
    let event = Command now handle bytes in
    let left = at_request s now handle in
    let same = request_same s now handle in
    record {
      unheard = λ correlation refusal plain not_heard.
          refusal_stays s event (at_moment s now) [] handle correlation refusal (moment_same s now);
      refusal = λ decisions client correlation refusal plain was_heard.
          refusal_stays s event left decisions client.number correlation refusal same;
      denial = λ client correlation act channel stream was_heard found asked denies.
          refusal_stays s event left _ client.number correlation _ same;
      subscription = λ request was_heard asks allows room. grant_stays s event left request same;
      publication = λ request adding was_heard asks allows is room place.
          publication_stays s event left request adding same;
      publication_removal = λ client correlation fields was_heard asks.
          unpublished_stays s event left client correlation fields.registration same;
      removal = λ request was_heard asks.
          stays_or_goes s now handle bytes request (asks_before s now handle bytes request asks) left same;
      keepalive = λ was_heard. keepalive_stays s event left same;
      destination = λ request number was_heard asks allows manual is.
          destination_stays s event left request.client request.correlation _ same;
      destination_removal = λ client correlation fields target was_heard asks is.
          destination_removal_stays s event left client correlation target same;
      counter = λ client correlation fields was_heard asks allows room.
          counter_stays s event left client correlation fields same;
      value = λ client correlation fields was_heard asks. value_stays s event left client correlation fields same;
      counter_removal = λ client correlation fields was_heard asks.
          counter_removal_stays s event left client correlation fields.registration same;
      closing = λ client correlation was_heard asks.
          closing_stays s now handle bytes client correlation left
          (asks_the_same s now handle bytes client correlation Closes asks) same;
      termination = λ client correlation fields was_heard asks allows.
          termination_stays s now handle bytes client correlation fields left
          (asks_the_same s now handle bytes client correlation (Terminates fields) asks)
          (allowed_before s now handle client allows);
    }

attach_stays : (s : State) (now principal : ℕ) (inputs : Inputs) → Leaves s (Attach now principal) (drafted s (Attach now principal) inputs)
unfolding drafted
attach_stays s now principal inputs =
    attach_cases (Leaves s (Attach now principal)) (at_moment s now) principal
    (answer_stays s (Attach now principal) (at_moment s now) _ (moment_same s now))
    (attached_stays s (Attach now principal) (at_moment s now) principal (moment_same s now))
    (answer_stays s (Attach now principal) (at_moment s now) _ (moment_same s now))

tick_stays : (s : State) (now : ℕ) (inputs : Inputs) → Leaves s (Tick now) (drafted s (Tick now) inputs)
unfolding drafted tick ticked closed_past closed at_moment
tick_stays s now inputs =
    record {
      on = λ subscription has.
          ⊎_elim
          (λ stays. inl stays)
          (λ gone. inr (inr (inl (record { moment = now; event_is = refl; is_late = gone }))))
          (left_or_stays (at_moment s now) (late (at_moment s now)) subscription has);
    }

reload_stays : (s : State) (now : ℕ) (policy : Rules) (inputs : Inputs) → Leaves s (Reload now policy) (drafted s (Reload now policy) inputs)
unfolding drafted
reload_stays s now policy inputs =
    reload_cases (Leaves s (Reload now policy)) (at_moment s now) policy
    (λ room. reloaded_stays s (Reload now policy) (at_moment s now) policy (moment_same s now))
    (λ full. answer_stays s (Reload now policy) (at_moment s now) _ (moment_same s now))

image_stays : (s : State) (event : Event) (left : State) (wanted : ImageWanted) (place : ℕ) →
    left.streams.subscriptions ≡ s.streams.subscriptions → Leaves s event (image_made left wanted place)
unfolding image_made with_image answered
image_stays s event left wanted place same = all_stay s event _ same

set_up_stays : (s : State) (now : ℕ) (local from : Address) (setup : SetupFrame) (inputs : Inputs) →
    Leaves s (Setup now local from setup) (drafted s (Setup now local from setup) inputs)
unfolding drafted
set_up_stays s now local from setup inputs =
    let event = Setup now local from setup in
    set_up_cases (Leaves s event) (at_moment s now) local from setup
    (λ fault. answer_stays s event (at_moment s now) _ (moment_same s now))
    (λ join place is set. image_stays s event (at_moment s now) _ place (moment_same s now))

draft_stays : (s : State) (event : Event) (inputs : Inputs) → Leaves s event (drafted s event inputs)
draft_stays s (Attach now principal) inputs = attach_stays s now principal inputs
draft_stays s (Command now handle bytes) inputs =
    command_cases (Leaves s (Command now handle bytes)) s now handle bytes inputs (command_stays s now handle bytes)
draft_stays s (Reload now policy) inputs = reload_stays s now policy inputs
draft_stays s (Tick now) inputs = tick_stays s now inputs
draft_stays s (Setup now local from setup) inputs = set_up_stays s now local from setup inputs

-- renewing the pairs takes no subscription away
pub removed_only : (s : State) (event : Event) (inputs : Inputs) (subscription : Subscription) →
    Contains s.streams.subscriptions subscription →
    Contains (state_after s event inputs).streams.subscriptions subscription ⊎ Goes (coming_to s event) event subscription
unfolding conduct renewed dropping without_unread without_unread_in ruled
removed_only s event inputs subscription has = (draft_stays (coming_to s event) event inputs).on subscription has
