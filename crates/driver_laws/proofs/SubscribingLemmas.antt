-- Requests for subscriptions come to the policy, and are granted exactly.
use Rattle.std.proofs.Common.{◌≡◌, ℕ, ℤ, ◌==◌, ◌+◌, ◌&&◌, nat_le, max, Bool, true, false, cond, List, [], ◌∷◌, length, Some, refl, sym, ap, ◌∙◌}
use Rattle.std.proofs.lemmas.Bool.{eqb-true, eq-eqb}
use Rattle.std.proofs.lemmas.List.{append-nil}
use Rattle.driver_core.specs.declared.state.event.Event.TheVariants.{Command}
use Rattle.driver_core.specs.declared.state.event.Inputs.{Inputs}
use Rattle.driver_core.specs.declared.state.refusal.Refusal.{Refusal}
use Rattle.driver_core.specs.declared.state.refusal.Refusal.TheVariants.{Denied, Full}
use Rattle.driver_core.specs.declared.state.replies.Message.{Message}
use Rattle.driver_core.specs.declared.state.replies.Reply.TheVariants.{Error, SubscriptionReady}
use Rattle.driver_core.specs.Commands.{heard, requested, asked, command, at_request}
use Rattle.driver_core.specs.Conduct.{conduct, drafted}
use Rattle.driver_core.specs.Deciding.{decision_by}
use Rattle.driver_core.specs.Draft.{Draft, told, replied, refused}
use Rattle.driver_core.specs.Pairs.{is_within_pairs, prospects_of}
use Rattle.driver_core.specs.Renewal.{renewed}
use Rattle.driver_core.specs.Requests.{SubscriptionRequest, AsksToSubscribe, question_of}
use Rattle.driver_core.specs.State.{State, has_number, at_moment, ruled}
use Rattle.driver_core.specs.Subscribing.{subscribe, add_subscription, subscribed, decision_of, has_room_for_subscription, with_subscription}
use Rattle.driver_core.specs.Unread.{dropping, without_unread}
use Rattle.driver_core.specs.Verdicts.{verdict_on}
use Rattle.driver_laws.specs.SubscribingLaws.{IsDecidedExactly, IsGranted, IsRefused, has_room_for_request}
use Rattle.channel_uri.specs.Channel.{Shape}
use Rattle.client_registry.specs.declared.client.Client.{Client}
use Rattle.client_registry.specs.Clients.{client_at, touched}
use Rattle.policy_core.specs.declared.verdict.Verdict.{Verdict}
use Rattle.stream_registry.specs.declared.pairs.Pair.{Pair}
use Rattle.stream_registry.specs.Adding.{subscribed as subscribed_in, has_room_for_subscription as has_room_in}
use Rattle.driver_core.proofs.VerdictLemmas.{by_policy}
use Rattle.driver_core.proofs.PairLemmas.{pairs_heard, principal_heard, prospects_by}
use Rattle.driver_laws.proofs.TurningLemmas.{by_draft, streams_heard, turns_to}
use Rattle.log_readers.specs.Unread.{without_unread as without_unread_in}

-- ---- a client that is found has the id that was looked for

found_in : (number : ℕ) (client row : Client) (rows : List Client) (b : Bool) → (row.number == number) ≡ b →
    (client_at rows number ≡ Some client → client.number ≡ number) →
    cond b (Some row) (client_at rows number) ≡ Some client → client.number ≡ number
found_in number client row rows true same rest found =
    let is : row ≡ client = cc in
    ap (λ (c : Client). c.number) (sym is) ∙ eqb-true row.number number same
found_in number client row rows false same rest found = rest found

pub found_number : (clients : List Client) (number : ℕ) (client : Client) →
    client_at clients number ≡ Some client → client.number ≡ number
found_number [] number client found = absurd (cc)
found_number (row ∷ rows) number client found =
    found_in number client row rows (row.number == number) refl (found_number rows number client) found

-- ---- a well-formed request comes to the policy

pub request_is_decided : (s : State) (now handle : ℕ) (bytes : List ℕ) (inputs : Inputs) (request : SubscriptionRequest) →
    AsksToSubscribe s handle bytes request →
    drafted s (Command now handle bytes) inputs
    ≡ subscribe (heard (at_moment s now) handle) request.client request.correlation request.channel request.fields.stream
unfolding drafted command asked requested add_subscription at_moment
request_is_decided s now handle bytes inputs request asks =
    rw (asks.command, eq-eqb handle handle refl, asks.attached, asks.denotes_channel, asks.takes_channel) refl

-- the same client and channel, at the moment of the event
pub asks_before : (s : State) (now handle : ℕ) (bytes : List ℕ) (request : SubscriptionRequest) →
    AsksToSubscribe (at_moment s now) handle bytes request → AsksToSubscribe s handle bytes request
unfolding at_moment
asks_before s now handle bytes request asks = record {
  command = asks.command;
  attached = asks.attached;
  denotes_channel = asks.denotes_channel;
  takes_channel = asks.takes_channel;
}

number_left : (s : State) → (without_unread s).last_number ≡ s.last_number
unfolding without_unread
number_left s = refl

-- ---- the policy decides, and then the room

subscribe_grants : (s : State) (client : Client) (correlation : ℕ) (channel : Shape) (stream : ℤ) →
    (decision_of s client channel stream).verdict.allow ≡ true →
    has_room_for_subscription s client.number channel stream ≡ true →
    subscribe s client correlation channel stream ≡ subscribed s client correlation channel stream
unfolding subscribe
subscribe_grants s client correlation channel stream allows room = rw (allows, room) refl

subscribe_is_full : (s : State) (client : Client) (correlation : ℕ) (channel : Shape) (stream : ℤ) →
    (decision_of s client channel stream).verdict.allow ≡ true →
    has_room_for_subscription s client.number channel stream ≡ false →
    subscribe s client correlation channel stream
    ≡ refused s (decision_of s client channel stream ∷ []) client.number correlation Full
unfolding subscribe
subscribe_is_full s client correlation channel stream allows room = rw (allows, room) refl

subscribe_denies : (s : State) (client : Client) (correlation : ℕ) (channel : Shape) (stream : ℤ) →
    (decision_of s client channel stream).verdict.allow ≡ false →
    subscribe s client correlation channel stream
    ≡ refused s (decision_of s client channel stream ∷ []) client.number correlation
    (Denied (decision_of s client channel stream).verdict)
unfolding subscribe
subscribe_denies s client correlation channel stream denies = rw denies refl

granted_change : (before s : State) (now handle : ℕ) (inputs : Inputs) (request : SubscriptionRequest) →
    request.client.number ≡ handle →
    IsGranted before s now handle inputs request (
    dropping before (renewed before inputs
    (subscribed (at_request s now handle) request.client request.correlation request.channel request.fields.stream)))
unfolding dropping renewed without_unread without_unread_in subscribed with_subscription subscribed_in decision_by replied told heard at_moment
granted_change before s now handle inputs request own =
    let draft : Draft =
    subscribed (at_request s now handle) request.client request.correlation request.channel request.fields.stream in
    let ready : Message = record { client = handle; reply = SubscriptionReady request.correlation (s.last_number + 1) } in
    record {
      change_is = refl;
      stands = rw own refl;
      numbered = refl;
      turns = turns_to before inputs draft draft.after refl refl;
      told = rw own (ap (λ (others : List Message). ready ∷ others) (append-nil _));
      decided = refl;
    }

-- a refusal changes no pair
refused_change : (before s : State) (now handle : ℕ) (inputs : Inputs) (request : SubscriptionRequest) (refusal : Refusal) →
    request.client.number ≡ handle →
    IsRefused before s now handle inputs request refusal (
    dropping before (renewed before inputs
    (refused (at_request s now handle)
    (decision_of (at_request s now handle) request.client request.channel request.fields.stream ∷ [])
    request.client.number request.correlation refusal)))
unfolding dropping renewed decision_by refused replied told heard at_moment
refused_change before s now handle inputs request refusal own =
    let draft : Draft = refused (at_request s now handle)
    (decision_of (at_request s now handle) request.client request.channel request.fields.stream ∷ [])
    request.client.number request.correlation refusal in
    let error : Message = record { client = handle; reply = Error request.correlation refusal } in
    record {
      after_is = refl;
      stands = streams_heard s now handle;
      numbered = number_left (at_request s now handle);
      turns = turns_to before inputs draft s refl (pairs_heard s now handle);
      told = rw own (ap (λ (others : List Message). error ∷ others) (append-nil _));
      decided = refl;
    }

denied_change : (before s : State) (now handle : ℕ) (inputs : Inputs) (request : SubscriptionRequest) →
    request.client.number ≡ handle →
    IsRefused before s now handle inputs request (Denied (verdict_on s (question_of request))) (
    dropping before (renewed before inputs
    (refused (at_request s now handle)
    (decision_of (at_request s now handle) request.client request.channel request.fields.stream ∷ [])
    request.client.number request.correlation
    (Denied (decision_of (at_request s now handle) request.client request.channel request.fields.stream).verdict))))
unfolding decision_by heard at_moment
denied_change before s now handle inputs request own =
    refused_change before s now handle inputs request (Denied (verdict_on s (question_of request))) own

-- what is decided of the request
pub verdict_is : (s : State) (now handle : ℕ) (request : SubscriptionRequest) →
    (decision_of (at_request s now handle) request.client request.channel request.fields.stream).verdict
    ≡ verdict_on s (question_of request)
unfolding decision_by heard at_moment
verdict_is s now handle request = refl

-- the pairs that may yet be with it are the same before the client was heard of
prospects_asked : (s : State) (now handle client : ℕ) (channel : Shape) (stream : ℤ) →
    prospects_of (with_subscription (at_request s now handle) client channel stream)
    ≡ prospects_of (with_subscription s client channel stream)
unfolding with_subscription heard at_moment touched
prospects_asked s now handle client channel stream =
    prospects_by (with_subscription (at_request s now handle) client channel stream) (with_subscription s client channel stream)
    refl refl refl refl (principal_heard s.clients.rows handle (max s.moment now))

room_is : (s : State) (now handle client : ℕ) (channel : Shape) (stream : ℤ) →
    has_room_for_subscription (at_request s now handle) client channel stream
    ≡ has_room_for_subscription s client channel stream
unfolding has_room_for_subscription has_number is_within_pairs heard at_moment
room_is s now handle client channel stream =
    ap (λ (pairs : List Pair).
    has_number s && has_room_in s.streams && nat_le (length pairs) 4096)
    (prospects_asked s now handle client channel stream)

pub room_for : (s : State) (now handle : ℕ) (request : SubscriptionRequest) → request.client.number ≡ handle →
    has_room_for_subscription (at_request s now handle) request.client.number request.channel request.fields.stream
    ≡ has_room_for_request s handle request
room_for s now handle request own = rw own (room_is s now handle handle request.channel request.fields.stream)

by_verdict : (before s : State) (now handle : ℕ) (inputs : Inputs) (request : SubscriptionRequest) →
    request.client.number ≡ handle →
    IsDecidedExactly before s now handle inputs request (
    dropping before (renewed before inputs
    (subscribe (at_request s now handle) request.client request.correlation request.channel request.fields.stream)))
by_verdict before s now handle inputs request own =
    let word = ap (λ (v : Verdict). v.allow) (verdict_is s now handle request) in
    let room_is = room_for s now handle request own in
    record {
      by = by_policy s (question_of request);
      granted = λ allows room.
          rw (subscribe_grants (at_request s now handle) request.client request.correlation request.channel
          request.fields.stream (word ∙ allows) (room_is ∙ room))
          (granted_change before s now handle inputs request own);
      full = λ allows room.
          rw (subscribe_is_full (at_request s now handle) request.client request.correlation request.channel
          request.fields.stream (word ∙ allows) (room_is ∙ room))
          (refused_change before s now handle inputs request Full own);
      denied = λ denies.
          rw (subscribe_denies (at_request s now handle) request.client request.correlation request.channel
          request.fields.stream (word ∙ denies))
          (denied_change before s now handle inputs request own);
    }

-- ---- granted exactly

-- the same client and channel, by the policy as it is at the moment of the event
asks_at : (s : State) (now handle : ℕ) (bytes : List ℕ) (request : SubscriptionRequest) →
    AsksToSubscribe s handle bytes request → AsksToSubscribe (ruled s now) handle bytes request
unfolding ruled
asks_at s now handle bytes request asks = record {
  command = asks.command;
  attached = asks.attached;
  denotes_channel = asks.denotes_channel;
  takes_channel = asks.takes_channel;
}

pub decided_exactly : (s : State) (now handle : ℕ) (bytes : List ℕ) (inputs : Inputs) (request : SubscriptionRequest) →
    AsksToSubscribe s handle bytes request →
    IsDecidedExactly s (ruled s now) now handle inputs request (conduct s (Command now handle bytes) inputs)
decided_exactly s now handle bytes inputs request asks =
    by_draft (IsDecidedExactly s (ruled s now) now handle inputs request) s (Command now handle bytes) inputs
    (subscribe (at_request (ruled s now) now handle) request.client request.correlation request.channel request.fields.stream)
    (request_is_decided (ruled s now) now handle bytes inputs request (asks_at s now handle bytes request asks))
    (by_verdict s (ruled s now) now handle inputs request (found_number s.clients.rows handle request.client asks.attached))
