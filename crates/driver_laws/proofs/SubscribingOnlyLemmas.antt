-- Subscriptions are granted only: case by case, none comes and none is told of but by a request that was allowed.
use Rattle.std.proofs.Common.{◌≡◌, ℕ, ℤ, ◌+◌, Bool, true, false, cond, List, [], inl, inr, refl, sym, subst, ap, ◌∙◌, ⊎_elim}
use Rattle.std.proofs.lemmas.List.Elements.{Contains-push, Contains-push_cases}
use Rattle.std.specs.List.{AllByRecursion, Contains}
use Rattle.std.specs.Prelude.{◌⊎◌}
use Rattle.driver_core.specs.Directing.{directed, recalled, with_destination, without_destination}
use Rattle.driver_core.specs.declared.state.event.Event.{Event}
use Rattle.driver_core.specs.declared.state.event.Event.TheVariants.{Attach, Command, Reload, Setup, Tick}
use Rattle.driver_core.specs.declared.state.event.Inputs.{Inputs}
use Rattle.driver_core.specs.declared.state.outcome.Response.{Response}
use Rattle.driver_core.specs.declared.state.refusal.Refusal.{Refusal}
use Rattle.driver_core.specs.declared.state.replies.Message.{Message}
use Rattle.driver_core.specs.declared.state.replies.Reply.{Reply}
use Rattle.driver_core.specs.declared.state.replies.Reply.TheVariants.{AvailableImage, ClientTimeout, CounterReady, Error, ExclusivePublicationReady, OperationSuccess, PublicationReady, SubscriptionReady, UnavailableCounter, UnavailableImage}
use Rattle.driver_core.specs.Change.{Change}
use Rattle.driver_core.specs.Attaching.{attached}
use Rattle.driver_core.specs.Closing.{keep_alive, close}
use Rattle.driver_core.specs.Commands.{heard, at_request}
use Rattle.driver_core.specs.Conduct.{coming_to, conduct, drafted}
use Rattle.driver_core.specs.Counting.{counted, with_counter, valued, uncounted}
use Rattle.driver_core.specs.Draft.{Draft, answered, told, replied, replied_opening, refused}
use Rattle.driver_core.specs.Publishing.{published, session_of, with_directed_publication, with_publication}
use Rattle.driver_core.specs.Reloading.{in_force, reloaded}
use Rattle.driver_core.specs.Renewal.{renewed}
use Rattle.driver_core.specs.Requests.{SubscriptionRequest, AsksToSubscribe, RemovalRequest, wanted_by, question_of}
use Rattle.driver_core.specs.State.{State, at_moment}
use Rattle.driver_core.specs.Subscribing.{subscribed, with_subscription}
use Rattle.driver_core.specs.Terminating.{terminated, stopped_for_good}
use Rattle.driver_core.specs.Ticking.{closed_past, tick, ticked, late}
use Rattle.driver_core.specs.Unpublishing.{unpublished}
use Rattle.driver_core.specs.Unsubscribing.{unsubscribed}
use Rattle.driver_core.specs.Verdicts.{verdict_on}
use Rattle.driver_core.specs.SettingUp.{image_made, with_image}
use Rattle.driver_core.specs.Unread.{dropping, without_unread}
use Rattle.driver_laws.specs.SubscribingLaws.{GrantsOnly, IsGrantTold, IsMadeBy, subscription_for, has_room_for_request}
use Rattle.client_registry.specs.declared.client.Client.{Client}
use Rattle.command_codec.specs.declared.add_counter.AddCounter.{AddCounter}
use Rattle.command_codec.specs.declared.set_counter.SetCounter.{SetCounter}
use Rattle.policy_core.specs.declared.decision.Decision.{Decision}
use Rattle.policy_core.specs.declared.verdict.Verdict.{Verdict}
use Rattle.policy_core.specs.RuleList.{Rules}
use Rattle.stream_registry.specs.declared.row.Subscription.{Subscription}
use Rattle.stream_registry.specs.declared.wanted.Adding.{Adding}
use Rattle.stream_registry.specs.declared.wanted.Adding.TheVariants.{Join, Make}
use Rattle.stream_registry.specs.declared.wanted.Wanted.{Wanted}
use Rattle.stream_registry.specs.Adding.{added, subscribed as subscribed_in}
use Rattle.stream_registry.specs.Leaving.{unregistered, unsubscribed as unsubscribed_in, is_another_subscription}
use Rattle.stream_registry.specs.Lingering.{closed, settled}
use Rattle.stream_registry.specs.Streams.{Streams}
use Rattle.stream_registry.specs.declared.wanted.ImageWanted.{ImageWanted}
use Rattle.log_readers.specs.Unread.{without_unread as without_unread_in}
use Rattle.channel_uri.specs.declared.address.Address.{Address}
use Rattle.frame_codec.specs.declared.setup.Setup.{Setup as SetupFrame}
use Rattle.driver_core.proofs.EventCases.{Cases, attach_cases, command_cases, reload_cases, set_up_cases}
use Rattle.driver_core.proofs.ListLemmas.{left_was_there, contains_none}
use Rattle.driver_core.proofs.VerdictLemmas.{by_policy}
use Rattle.driver_laws.proofs.SubscribingLemmas.{asks_before, found_number, room_for, verdict_is}
use Rattle.driver_laws.proofs.LeavingLemmas.{all_timeouts, left_was_subscribed, one_left_was_subscribed}
use Rattle.driver_laws.proofs.DroppingLemmas.{all_weaker}
use Rattle.driver_laws.proofs.RenewalLemmas.{all_replies}

-- what a draft tells tells of a subscription only where one was granted, and what stands after it stood before or was made
record DraftGrantsOnly (s : State) (event : Event) (draft : Draft) : Type 0 where
  replies : AllByRecursion (λ (message : Message). IsGrantTold s event draft.after message.client message.reply) draft.replies
  later : AllByRecursion (λ (message : Message). IsGrantTold s event draft.after message.client message.reply) draft.later
  stands :
      (subscription : Subscription) → Contains draft.after.streams.subscriptions subscription →
      Contains s.streams.subscriptions subscription ⊎ ((correlation : ℕ) × IsMadeBy s event correlation subscription)

-- images grant no subscription
draft_grants_only : (before s : State) (event : Event) (inputs : Inputs) (draft : Draft) → DraftGrantsOnly s event draft →
    GrantsOnly s event (renewed before inputs draft)
unfolding renewed
draft_grants_only before s event inputs draft grants = record {
  told = all_replies (λ (message : Message). IsGrantTold s event draft.after message.client message.reply) before inputs draft
      grants.replies (λ client source subscription stream. tt)
      (λ client source subscription session stream position identity. tt) grants.later;
  stands = grants.stands;
}

-- and images that go take no subscription away
told_as_before : (s : State) (event : Event) (after other : State) →
    other.streams.subscriptions ≡ after.streams.subscriptions → (client : ℕ) (reply : Reply) →
    IsGrantTold s event after client reply → IsGrantTold s event other client reply
told_as_before s event after other same client (SubscriptionReady correlation registration) told =
    (told.0, told.1, told.2, rw same told.3, told.4)
told_as_before s event after other same client (Error correlation refusal) told = tt
told_as_before s event after other same client (OperationSuccess correlation) told = tt
told_as_before s event after other same client (PublicationReady correlation registration session stream) told = tt
told_as_before s event after other same client (ExclusivePublicationReady correlation registration session stream) told = tt
told_as_before s event after other same client (AvailableImage source subscription session stream position identity) told = tt
told_as_before s event after other same client (UnavailableImage source subscription stream) told = tt
told_as_before s event after other same client (CounterReady correlation registration) told = tt
told_as_before s event after other same client (UnavailableCounter registration) told = tt
told_as_before s event after other same client (ClientTimeout number) told = tt

subscriptions_stay : (s : State) → (without_unread s).streams.subscriptions ≡ s.streams.subscriptions
unfolding without_unread without_unread_in
subscriptions_stay s = refl

dropping_grants_only : (before s : State) (event : Event) (change : Change) → GrantsOnly s event change →
    GrantsOnly s event (dropping before change)
unfolding dropping
dropping_grants_only before s event change grants = record {
  told = all_weaker (λ (message : Message). IsGrantTold s event change.after message.client message.reply)
      (λ (message : Message). IsGrantTold s event (without_unread change.after) message.client message.reply)
      (λ message told.
      told_as_before s event change.after (without_unread change.after) (subscriptions_stay change.after) message.client
      message.reply told) change.outcome.replies grants.told;
  stands = λ subscription has. grants.stands subscription (rw (subscriptions_stay change.after) at has);
}

-- ---- what tells of none, and brings none

refusal_grants_only : (s : State) (event : Event) (after : State) (decisions : List Decision) (client correlation : ℕ)
    (refusal : Refusal) → after.streams ≡ s.streams →
    DraftGrantsOnly s event (refused after decisions client correlation refusal)
unfolding refused replied told
refusal_grants_only s event after decisions client correlation refusal same = record {
  replies = (tt, tt);
  later = tt;
  stands = λ subscription stands. inl (rw same at stands);
}

answer_grants_only : (s : State) (event : Event) (after : State) (response : Response) → after.streams ≡ s.streams →
    DraftGrantsOnly s event (answered after response)
unfolding answered
answer_grants_only s event after response same =
    record { replies = tt; later = tt; stands = λ subscription stands. inl (rw same at stands) }

reloaded_grants_only : (s : State) (event : Event) (before : State) (policy : Rules) → before.streams ≡ s.streams →
    DraftGrantsOnly s event (reloaded before policy)
unfolding reloaded in_force answered
reloaded_grants_only s event before policy same =
    record { replies = tt; later = tt; stands = λ subscription stands. inl (rw same at stands) }

keepalive_grants_only : (s : State) (event : Event) (before : State) → before.streams ≡ s.streams →
    DraftGrantsOnly s event (keep_alive before)
unfolding keep_alive told
keepalive_grants_only s event before same =
    record { replies = tt; later = tt; stands = λ subscription stands. inl (rw same at stands) }

counter_grants_only : (s : State) (event : Event) (before : State) (client : Client) (correlation : ℕ) (fields : AddCounter) →
    before.streams ≡ s.streams → DraftGrantsOnly s event (counted before client correlation fields)
unfolding counted with_counter replied told
counter_grants_only s event before client correlation fields same =
    record { replies = (tt, tt); later = tt; stands = λ subscription stands. inl (rw same at stands) }

value_grants_only : (s : State) (event : Event) (before : State) (client : Client) (correlation : ℕ) (fields : SetCounter) →
    before.streams ≡ s.streams → DraftGrantsOnly s event (valued before client correlation fields)
unfolding valued replied told
value_grants_only s event before client correlation fields same =
    record { replies = (tt, tt); later = tt; stands = λ subscription stands. inl (rw same at stands) }

destination_grants_only : (s : State) (event : Event) (before : State) (client : Client) (correlation : ℕ) (granted : _) →
    before.streams ≡ s.streams → DraftGrantsOnly s event (directed before client correlation granted)
unfolding directed with_destination replied told
destination_grants_only s event before client correlation granted same =
    record { replies = (tt, tt); later = tt; stands = λ subscription stands. inl (rw same at stands) }

destination_removal_grants_only : (s : State) (event : Event) (before : State) (client : Client) (correlation : ℕ) (target : _) →
    before.streams ≡ s.streams → DraftGrantsOnly s event (recalled before client correlation target)
unfolding recalled without_destination replied told
destination_removal_grants_only s event before client correlation target same =
    record { replies = (tt, tt); later = tt; stands = λ subscription stands. inl (rw same at stands) }

counter_removal_grants_only : (s : State) (event : Event) (before : State) (client : Client) (correlation number : ℕ) →
    before.streams ≡ s.streams → DraftGrantsOnly s event (uncounted before client correlation number)
unfolding uncounted told
counter_removal_grants_only s event before client correlation number same =
    record { replies = (tt, tt); later = (tt, tt); stands = λ subscription stands. inl (rw same at stands) }

-- ---- what takes subscriptions away, or leaves them as they are

removal_grants_only : (s : State) (event : Event) (before : State) (request : RemovalRequest) →
    before.streams ≡ s.streams →
    DraftGrantsOnly s event (unsubscribed before request.client request.correlation request.fields.registration)
unfolding unsubscribed unsubscribed_in replied told
removal_grants_only s event before request same = record {
  replies = (tt, tt);
  later = tt;
  stands = λ subscription stands'.
      inl (rw same at
      (left_was_there (is_another_subscription request.client.number request.fields.registration)
      before.streams.subscriptions subscription stands'));
}

unpublished_grants_only : (s : State) (event : Event) (before : State) (client : Client) (correlation number : ℕ) →
    before.streams ≡ s.streams → DraftGrantsOnly s event (unpublished before client correlation number)
unfolding unpublished unregistered settled replied told
unpublished_grants_only s event before client correlation number same =
    record { replies = (tt, tt); later = tt; stands = λ subscription stands. inl (rw same at stands) }

-- a log that is joined or made changes no subscription
added_subscriptions : (streams : Streams) (number client : ℕ) (wanted : Wanted) (place : ℕ) (adding : Adding) →
    (added streams number client wanted place adding).subscriptions ≡ streams.subscriptions
added_subscriptions streams number client wanted place (Join source session) = refl
added_subscriptions streams number client wanted place (Make session) = refl

ready_grants_none : (exclusive : Bool) (s : State) (event : Event) (after : State) (client correlation number : ℕ)
    (session stream : ℤ) →
    IsGrantTold s event after client
    (cond exclusive (ExclusivePublicationReady correlation number session stream)
    (PublicationReady correlation number session stream))
ready_grants_none true s event after client correlation number session stream = tt
ready_grants_none false s event after client correlation number session stream = tt

publication_grants_only : (s : State) (event : Event) (before : State) (client : Client) (correlation : ℕ) (wanted : Wanted)
    (adding : Adding) → before.streams ≡ s.streams →
    DraftGrantsOnly s event (published before client correlation wanted adding)
unfolding published with_directed_publication with_publication replied_opening replied told
publication_grants_only s event before client correlation wanted adding same =
    let after : State = with_publication before client.number wanted adding in
    let grants_none = ready_grants_none wanted.exclusive s event after client.number correlation (before.last_number + 1)
    (session_of adding) wanted.stream in
    let subscriptions = added_subscriptions before.streams (before.last_number + 1) client.number wanted _ adding
    ∙ ap (λ (streams : Streams). streams.subscriptions) same in
    record {
      replies = (grants_none, tt);
      later = tt;
      stands = λ subscription stands.
          inl (subst (λ (rows : List Subscription). Contains rows subscription) subscriptions stands);
    }

closing_grants_only : (s : State) (event : Event) (now handle : ℕ) (client : Client) (correlation : ℕ) →
    DraftGrantsOnly s event (close (at_request s now handle) client correlation)
unfolding close replied told heard at_moment
closing_grants_only s event now handle client correlation = record {
  replies = (tt, tt);
  later = tt;
  stands = λ subscription stands.
      inl (one_left_was_subscribed (at_request s now handle) client.number subscription stands);
}

termination_grants_only : (s : State) (event : Event) (before : State) (client : Client) (correlation : ℕ) →
    DraftGrantsOnly s event (terminated before client correlation)
unfolding terminated stopped_for_good
termination_grants_only s event before client correlation = record {
  replies = (tt, tt);
  later = tt;
  stands = λ subscription stands. absurd (contains_none subscription stands);
}

tick_grants_only : (s : State) (now : ℕ) (inputs : Inputs) → DraftGrantsOnly s (Tick now) (drafted s (Tick now) inputs)
unfolding drafted tick ticked closed_past closed at_moment
tick_grants_only s now inputs = record {
  replies = tt;
  later = all_timeouts _ (λ client. tt) (late (at_moment s now));
  stands = λ subscription stands. inl (left_was_subscribed (at_moment s now) (late (at_moment s now)) subscription stands);
}

-- ---- what brings one

grant_grants_only : (s : State) (now handle : ℕ) (bytes : List ℕ) (request : SubscriptionRequest) →
    AsksToSubscribe s handle bytes request → (verdict_on s (question_of request)).allow ≡ true →
    has_room_for_request s handle request ≡ true →
    DraftGrantsOnly s (Command now handle bytes) (
    subscribed (at_request s now handle) request.client request.correlation request.channel request.fields.stream)
unfolding subscribed with_subscription subscribed_in replied told heard at_moment
grant_grants_only s now handle bytes request asks allows room =
    let own : request.client.number ≡ handle = found_number s.clients.rows handle request.client asks.attached in
    let made : Subscription = subscription_for s handle request in
    let by : IsMadeBy s (Command now handle bytes) request.correlation made = record {
      moment = now;
      bytes = bytes;
      request = request;
      event_is = refl;
      asks = asks;
      by = by_policy s (question_of request);
      allowed = allows;
      room = room;
      correlation_is = refl;
      made_is = refl;
    } in
    rw own (record {
      replies = ((made, refl, refl, Contains-push s.streams.subscriptions made, by), tt);
      later = tt;
      stands = λ subscription stands.
          ⊎_elim (λ before. inl before)
          (λ is. inr (request.correlation, rw (← is) by))
          (Contains-push_cases s.streams.subscriptions made subscription stands);
    })

-- ---- each event

command_grants_only : (s : State) (now handle : ℕ) (bytes : List ℕ) →
    Cases (DraftGrantsOnly s (Command now handle bytes)) (at_moment s now) handle bytes
unfolding at_moment heard
command_grants_only s now handle bytes =
    let event = Command now handle bytes in
    let before = at_request s now handle in
    record {
      unheard = λ correlation refusal plain not_heard.
          refusal_grants_only s event (at_moment s now) [] handle correlation refusal refl;
      refusal = λ decisions client correlation refusal plain was_heard.
          refusal_grants_only s event before decisions client.number correlation refusal refl;
      denial = λ client correlation act channel stream was_heard found asked denies.
          refusal_grants_only s event before _ client.number correlation _ refl;
      subscription = λ request was_heard asks allows room.
          let word = ap (λ (v : Verdict). v.allow) (verdict_is s now handle request) in
          let own = found_number s.clients.rows handle request.client asks.attached in
          grant_grants_only s now handle bytes request (asks_before s now handle bytes request asks) (sym word ∙ allows)
          (sym (room_for s now handle request own) ∙ room);
      publication = λ request adding was_heard asks allows is room place.
          publication_grants_only s event before request.client request.correlation (wanted_by request) adding refl;
      publication_removal = λ client correlation fields was_heard asks.
          unpublished_grants_only s event before client correlation fields.registration refl;
      removal = λ request was_heard asks. removal_grants_only s event before request refl;
      keepalive = λ was_heard. keepalive_grants_only s event before refl;
      destination = λ request number was_heard asks allows manual is.
          destination_grants_only s event before request.client request.correlation _ refl;
      destination_removal = λ client correlation fields target was_heard asks is.
          destination_removal_grants_only s event before client correlation target refl;
      counter = λ client correlation fields was_heard asks allows room.
          counter_grants_only s event before client correlation fields refl;
      value = λ client correlation fields was_heard asks. value_grants_only s event before client correlation fields refl;
      counter_removal = λ client correlation fields was_heard asks.
          counter_removal_grants_only s event before client correlation fields.registration refl;
      closing = λ client correlation was_heard asks. closing_grants_only s event now handle client correlation;
      termination = λ client correlation fields was_heard asks allows.
          termination_grants_only s event before client correlation;
    }

attach_grants_only : (s : State) (now principal : ℕ) (inputs : Inputs) →
    DraftGrantsOnly s (Attach now principal) (drafted s (Attach now principal) inputs)
unfolding drafted attached at_moment
attach_grants_only s now principal inputs =
    attach_cases (DraftGrantsOnly s (Attach now principal)) (at_moment s now) principal
    (answer_grants_only s (Attach now principal) _ _ refl)
    (answer_grants_only s (Attach now principal) _ _ refl)
    (answer_grants_only s (Attach now principal) _ _ refl)

reload_grants_only : (s : State) (now : ℕ) (policy : Rules) (inputs : Inputs) →
    DraftGrantsOnly s (Reload now policy) (drafted s (Reload now policy) inputs)
unfolding drafted at_moment
reload_grants_only s now policy inputs =
    reload_cases (DraftGrantsOnly s (Reload now policy)) (at_moment s now) policy
    (λ room. reloaded_grants_only s (Reload now policy) _ policy refl)
    (λ full. answer_grants_only s (Reload now policy) _ _ refl)

image_grants_only : (s : State) (event : Event) (before : State) (wanted : ImageWanted) (place : ℕ) →
    before.streams ≡ s.streams → DraftGrantsOnly s event (image_made before wanted place)
unfolding image_made with_image answered
image_grants_only s event before wanted place same = record {
  replies = tt;
  later = tt;
  stands = λ subscription stands. inl (rw (ap (λ (t : Streams). t.subscriptions) same) at stands);
}

set_up_grants_only : (s : State) (now : ℕ) (local from : Address) (setup : SetupFrame) (inputs : Inputs) →
    DraftGrantsOnly s (Setup now local from setup) (drafted s (Setup now local from setup) inputs)
unfolding drafted at_moment
set_up_grants_only s now local from setup inputs =
    let event = Setup now local from setup in
    set_up_cases (DraftGrantsOnly s event) (at_moment s now) local from setup
    (λ fault. answer_grants_only s event _ _ refl)
    (λ join place is set. image_grants_only s event _ _ place refl)

drafted_grants_only : (s : State) (event : Event) (inputs : Inputs) → DraftGrantsOnly s event (drafted s event inputs)
drafted_grants_only s (Attach now principal) inputs = attach_grants_only s now principal inputs
drafted_grants_only s (Command now handle bytes) inputs =
    command_cases (DraftGrantsOnly s (Command now handle bytes)) s now handle bytes inputs (command_grants_only s now handle bytes)
drafted_grants_only s (Reload now policy) inputs = reload_grants_only s now policy inputs
drafted_grants_only s (Tick now) inputs = tick_grants_only s now inputs
drafted_grants_only s (Setup now local from setup) inputs = set_up_grants_only s now local from setup inputs

pub grants_only : (s : State) (event : Event) (inputs : Inputs) → GrantsOnly (coming_to s event) event (conduct s event inputs)
unfolding conduct
grants_only s event inputs =
    let at : State = coming_to s event in
    let draft : Draft = drafted at event inputs in
    dropping_grants_only s at event (renewed s inputs draft)
    (draft_grants_only s at event inputs draft (drafted_grants_only at event inputs))
