-- Counters come, and the driver ends, only by requests that the policy in force allows.
use Rattle.std.proofs.Common.{◌≡◌, ℕ, ℤ, ◌+◌, Bool, true, false, cond, List, [], ◌∷◌, map, ◌⊎◌, inl, inr, refl, sym, ap, ◌∙◌, ⊎_elim}
use Rattle.std.specs.List.{Contains}
use Rattle.std.proofs.lemmas.List.Elements.{All-map, All-weaker, All-contains, All-contains_itself, Contains-push_cases}
use Rattle.driver_core.specs.Directing.{directed, recalled, with_destination, without_destination}
use Rattle.driver_core.specs.declared.state.event.Event.{Event}
use Rattle.driver_core.specs.declared.state.event.Event.TheVariants.{Attach, Command, Reload, Setup, Tick}
use Rattle.driver_core.specs.declared.state.event.Inputs.{Inputs}
use Rattle.driver_core.specs.declared.state.outcome.Response.{Response}
use Rattle.driver_core.specs.declared.state.refusal.Refusal.{Refusal}
use Rattle.driver_core.specs.Attaching.{attached}
use Rattle.driver_core.specs.Closing.{keep_alive, close}
use Rattle.driver_core.specs.Commands.{heard, at_request}
use Rattle.driver_core.specs.Conduct.{coming_to, conduct, drafted}
use Rattle.driver_core.specs.Counting.{counted, with_counter, valued, uncounted, has_room_for_counter}
use Rattle.driver_core.specs.Draft.{Draft, answered, told, replied, replied_opening, refused}
use Rattle.driver_core.specs.Leaving.{left, all_left}
use Rattle.driver_core.specs.Publishing.{published, with_directed_publication, with_publication}
use Rattle.driver_core.specs.Reloading.{in_force, reloaded}
use Rattle.driver_core.specs.Renewal.{renewed}
use Rattle.driver_core.specs.Requests.{Asks, PublicationRequest, SubscriptionRequest, RemovalRequest, counter_question, termination_question, wanted_by}
use Rattle.driver_core.specs.State.{State, at_moment}
use Rattle.driver_core.specs.Subscribing.{subscribed, with_subscription}
use Rattle.driver_core.specs.Terminating.{terminated, stopped_for_good}
use Rattle.driver_core.specs.Ticking.{closed_past, tick, ticked, late}
use Rattle.driver_core.specs.Unpublishing.{unpublished}
use Rattle.driver_core.specs.Unsubscribing.{unsubscribed}
use Rattle.driver_core.specs.Verdicts.{verdict_on}
use Rattle.driver_core.specs.SettingUp.{image_made, with_image}
use Rattle.driver_core.specs.Unread.{dropping, without_unread}
use Rattle.driver_laws.specs.GrantLaws.{StoodBefore, IsCounterMadeBy, CountsAndEndsOnly}
use Rattle.driver_laws.specs.LeavingLaws.{IsTerminatedBy}
use Rattle.client_registry.specs.declared.client.Client.{Client}
use Rattle.command_codec.specs.declared.add_counter.AddCounter.{AddCounter}
use Rattle.command_codec.specs.declared.command.Body.TheVariants.{AddCounter as AddsCounter, TerminateDriver as Terminates}
use Rattle.command_codec.specs.declared.set_counter.SetCounter.{SetCounter}
use Rattle.command_codec.specs.declared.terminate_driver.TerminateDriver.{TerminateDriver}
use Rattle.counters.specs.declared.counter.Counter.{Counter}
use Rattle.counters.specs.Counters.{made, is_own, is_another, is_of_another, set_one, set, without, without_those_of}
use Rattle.policy_core.specs.declared.decision.Decision.{Decision}
use Rattle.policy_core.specs.declared.verdict.Verdict.{Verdict}
use Rattle.policy_core.specs.RuleList.{Rules}
use Rattle.stream_registry.specs.declared.wanted.Adding.{Adding}
use Rattle.stream_registry.specs.declared.wanted.ImageWanted.{ImageWanted}
use Rattle.channel_uri.specs.declared.address.Address.{Address}
use Rattle.frame_codec.specs.declared.setup.Setup.{Setup as SetupFrame}
use Rattle.driver_core.proofs.EventCases.{Cases, attach_cases, command_cases, reload_cases, set_up_cases}
use Rattle.driver_core.proofs.ListLemmas.{left_was_there, contains_none}
use Rattle.driver_core.proofs.VerdictLemmas.{by_policy}
use Rattle.driver_laws.proofs.GrantLemmas.{counter_verdict, counter_room}
use Rattle.driver_laws.proofs.SubscribingLemmas.{found_number}
use Rattle.driver_laws.proofs.RemovalLemmas.{asks_the_same, allowed_before}

-- what the event has not touched yet
record IsSame (s left : State) : Type 0 where
  counters : left.counters ≡ s.counters
  stopped : left.stopped ≡ s.stopped

moment_is_same : (s : State) (now : ℕ) → IsSame s (at_moment s now)
unfolding at_moment
moment_is_same s now = record { counters = refl; stopped = refl }

request_is_same : (s : State) (now handle : ℕ) → IsSame s (at_request s now handle)
unfolding at_moment heard
request_is_same s now handle = record { counters = refl; stopped = refl }

stood : (s : State) (counter : Counter) → Contains s.counters counter → StoodBefore s counter
stood s counter has = record { before = counter; stood = has; same = refl }

-- the draft brings a counter, and ends the driver, only by such a request
record DraftsOnly (s : State) (event : Event) (draft : Draft) : Type 0 where
  counters :
      (counter : Counter) → Contains draft.after.counters counter →
      StoodBefore s counter ⊎ IsCounterMadeBy s event counter
  ends : draft.after.stopped ≡ true → (s.stopped ≡ true) ⊎ IsTerminatedBy s event

-- what touches neither
same_only : (s : State) (event : Event) (draft : Draft) → IsSame s draft.after → DraftsOnly s event draft
same_only s event draft same = record {
  counters = λ counter has. inl (stood s counter (rw same.counters at has));
  ends = λ is. inl (rw same.stopped at is);
}

refusal_only : (s : State) (event : Event) (left' : State) (decisions : List Decision) (client correlation : ℕ)
    (refusal : Refusal) → IsSame s left' → DraftsOnly s event (refused left' decisions client correlation refusal)
unfolding refused replied told
refusal_only s event left' decisions client correlation refusal same = same_only s event _ same

answer_only : (s : State) (event : Event) (left' : State) (response : Response) → IsSame s left' →
    DraftsOnly s event (answered left' response)
unfolding answered
answer_only s event left' response same = same_only s event _ same

attached_only : (s : State) (event : Event) (left' : State) (principal : ℕ) → IsSame s left' →
    DraftsOnly s event (attached left' principal)
unfolding attached answered
attached_only s event left' principal same =
    same_only s event _ (record { counters = same.counters; stopped = same.stopped })

reloaded_only : (s : State) (event : Event) (left' : State) (policy : Rules) → IsSame s left' →
    DraftsOnly s event (reloaded left' policy)
unfolding reloaded in_force answered
reloaded_only s event left' policy same =
    same_only s event _ (record { counters = same.counters; stopped = same.stopped })

image_only : (s : State) (event : Event) (left' : State) (wanted : ImageWanted) (place : ℕ) → IsSame s left' →
    DraftsOnly s event (image_made left' wanted place)
unfolding image_made with_image answered
image_only s event left' wanted place same =
    same_only s event _ (record { counters = same.counters; stopped = same.stopped })

subscription_only : (s : State) (event : Event) (left' : State) (request : SubscriptionRequest) → IsSame s left' →
    DraftsOnly s event (
    subscribed left' request.client request.correlation request.channel request.fields.stream)
unfolding subscribed with_subscription replied told
subscription_only s event left' request same =
    same_only s event _ (record { counters = same.counters; stopped = same.stopped })

publication_only : (s : State) (event : Event) (left' : State) (request : PublicationRequest) (adding : Adding) → IsSame s left' →
    DraftsOnly s event (published left' request.client request.correlation (wanted_by request) adding)
unfolding published with_directed_publication with_publication replied_opening replied told
publication_only s event left' request adding same =
    same_only s event _ (record { counters = same.counters; stopped = same.stopped })

publication_removal_only : (s : State) (event : Event) (left' : State) (client : Client) (correlation number : ℕ) →
    IsSame s left' → DraftsOnly s event (unpublished left' client correlation number)
unfolding unpublished replied told
publication_removal_only s event left' client correlation number same =
    same_only s event _ (record { counters = same.counters; stopped = same.stopped })

removal_only : (s : State) (event : Event) (left' : State) (request : RemovalRequest) → IsSame s left' →
    DraftsOnly s event (unsubscribed left' request.client request.correlation request.fields.registration)
unfolding unsubscribed replied told
removal_only s event left' request same =
    same_only s event _ (record { counters = same.counters; stopped = same.stopped })

keepalive_only : (s : State) (event : Event) (left' : State) → IsSame s left' → DraftsOnly s event (keep_alive left')
unfolding keep_alive told
keepalive_only s event left' same = same_only s event _ same

-- ---- counters that go

closing_only : (s : State) (event : Event) (left' : State) (client : Client) (correlation : ℕ) → IsSame s left' →
    DraftsOnly s event (close left' client correlation)
unfolding close left replied told without_those_of
closing_only s event left' client correlation same = record {
  counters = λ counter has.
      inl (stood s counter
      (rw same.counters at (left_was_there (is_of_another client.number) left'.counters counter has)));
  ends = λ is. inl (rw same.stopped at is);
}

counter_removal_only : (s : State) (event : Event) (left' : State) (client : Client) (correlation number : ℕ) →
    IsSame s left' → DraftsOnly s event (uncounted left' client correlation number)
unfolding uncounted told without
counter_removal_only s event left' client correlation number same = record {
  counters = λ counter has.
      inl (stood s counter
      (rw same.counters at (left_was_there (is_another client.number number) left'.counters counter has)));
  ends = λ is. inl (rw same.stopped at is);
}

one_left_was_counted : (s : State) (client : ℕ) (counter : Counter) → Contains (left s client).counters counter →
    Contains s.counters counter
unfolding left without_those_of
one_left_was_counted s client counter has = left_was_there (is_of_another client) s.counters counter has

left_was_counted : (s : State) (clients : List ℕ) (counter : Counter) → Contains (all_left s clients).counters counter →
    Contains s.counters counter
left_was_counted s [] counter has = has
left_was_counted s (client ∷ clients) counter has =
    one_left_was_counted s client counter (left_was_counted (left s client) clients counter has)

one_left_stopped : (s : State) (client : ℕ) → (left s client).stopped ≡ s.stopped
unfolding left
one_left_stopped s client = refl

left_stopped : (s : State) (clients : List ℕ) → (all_left s clients).stopped ≡ s.stopped
left_stopped s [] = refl
left_stopped s (client ∷ clients) = left_stopped (left s client) clients ∙ one_left_stopped s client

tick_only : (s : State) (now : ℕ) (inputs : Inputs) → DraftsOnly s (Tick now) (drafted s (Tick now) inputs)
unfolding drafted tick ticked closed_past at_moment
tick_only s now inputs = record {
  counters = λ counter has.
      inl (stood s counter (left_was_counted (at_moment s now) (late (at_moment s now)) counter has));
  ends = λ is. inl (sym (left_stopped (at_moment s now) (late (at_moment s now))) ∙ is);
}

-- ---- a counter that is set

pub set_keeps : (b : Bool) (value : ℤ) (counter : Counter) →
    cond b (record counter { value = value }) counter
    ≡ record counter { value = (cond b (record counter { value = value }) counter).value }
set_keeps true value counter = refl
set_keeps false value counter = refl

value_only : (s : State) (event : Event) (left' : State) (client : Client) (correlation : ℕ) (fields : SetCounter) →
    IsSame s left' → DraftsOnly s event (valued left' client correlation fields)
unfolding valued replied told set
value_only s event left' client correlation fields same =
    let change = set_one client.number fields.registration fields.value in
    record {
      counters = λ counter has.
          inl (All-contains (StoodBefore s) (map change left'.counters) counter
          (All-map (StoodBefore s) change left'.counters
          (All-weaker (Contains left'.counters) (λ y. StoodBefore s (change y))
          (λ y there.
          record {
            before = y;
            stood = rw same.counters at there;
            same = set_keeps (is_own client.number fields.registration y) fields.value y;
          })
          left'.counters (All-contains_itself left'.counters)))
          has);
      ends = λ is. inl (rw same.stopped at is);
    }

destination_only : (s : State) (event : Event) (left' : State) (client : Client) (correlation : ℕ) (granted : _) →
    IsSame s left' → DraftsOnly s event (directed left' client correlation granted)
unfolding directed with_destination replied told
destination_only s event left' client correlation granted same =
    same_only s event _ (record { counters = same.counters; stopped = same.stopped })

destination_removal_only : (s : State) (event : Event) (left' : State) (client : Client) (correlation : ℕ) (target : _) →
    IsSame s left' → DraftsOnly s event (recalled left' client correlation target)
unfolding recalled without_destination replied told
destination_removal_only s event left' client correlation target same =
    same_only s event _ (record { counters = same.counters; stopped = same.stopped })

-- ---- a counter that comes

pub made_by : (s : State) (now handle : ℕ) (bytes : List ℕ) (client : Client) (correlation : ℕ) (fields : AddCounter) →
    Asks s handle bytes client correlation (AddsCounter fields) →
    (verdict_on s (counter_question client fields)).allow ≡ true → has_room_for_counter s ≡ true →
    IsCounterMadeBy s (Command now handle bytes) (
    made (s.last_number + 1) handle fields.type_id fields.key fields.label)
made_by s now handle bytes client correlation fields asks allows room = record {
  moment = now;
  bytes = bytes;
  client = client;
  correlation = correlation;
  fields = fields;
  event_is = refl;
  asks = asks;
  by = by_policy s (counter_question client fields);
  allowed = allows;
  room = room;
  made_is = refl;
}

counter_only : (s : State) (now handle : ℕ) (bytes : List ℕ) (client : Client) (correlation : ℕ) (fields : AddCounter) →
    Asks s handle bytes client correlation (AddsCounter fields) →
    (verdict_on s (counter_question client fields)).allow ≡ true → has_room_for_counter s ≡ true →
    DraftsOnly s (Command now handle bytes) (counted (at_request s now handle) client correlation fields)
unfolding counted with_counter replied told heard at_moment
counter_only s now handle bytes client correlation fields asks allows room =
    let own : client.number ≡ handle = found_number s.clients.rows handle client asks.attached in
    let by = made_by s now handle bytes client correlation fields asks allows room in
    rw own (record {
      counters = λ counter has.
          ⊎_elim
          (λ before. inl (stood s counter before))
          (λ is. inr (rw (← is) by))
          (Contains-push_cases s.counters (made (s.last_number + 1) handle fields.type_id fields.key fields.label) counter has);
      ends = λ is. inl is;
    })

-- ---- the end

termination_only : (s : State) (now handle : ℕ) (bytes : List ℕ) (client : Client) (correlation : ℕ)
    (fields : TerminateDriver) (left' : State) → Asks s handle bytes client correlation (Terminates fields) →
    (verdict_on s (termination_question client)).allow ≡ true →
    DraftsOnly s (Command now handle bytes) (terminated left' client correlation)
unfolding terminated stopped_for_good
termination_only s now handle bytes client correlation fields left' asks allows = record {
  counters = λ counter has. absurd (contains_none counter has);
  ends = λ is.
      inr (record {
        moment = now;
        handle = handle;
        bytes = bytes;
        client = client;
        correlation = correlation;
        fields = fields;
        event_is = refl;
        asks = asks;
        allowed = allows;
      });
}

-- ---- any event

command_only : (s : State) (now handle : ℕ) (bytes : List ℕ) →
    Cases (DraftsOnly s (Command now handle bytes)) (at_moment s now) handle bytes
command_only s now handle bytes =
    let event = Command now handle bytes in
    let after = at_request s now handle in
    let same = request_is_same s now handle in
    record {
      unheard = λ correlation refusal plain not_heard.
          refusal_only s event (at_moment s now) [] handle correlation refusal (moment_is_same s now);
      refusal = λ decisions client correlation refusal plain was_heard.
          refusal_only s event after decisions client.number correlation refusal same;
      denial = λ client correlation act channel stream was_heard found asked denies.
          refusal_only s event after _ client.number correlation _ same;
      subscription = λ request was_heard asks allows room. subscription_only s event after request same;
      publication = λ request adding was_heard asks allows is room place.
          publication_only s event after request adding same;
      publication_removal = λ client correlation fields was_heard asks.
          publication_removal_only s event after client correlation fields.registration same;
      removal = λ request was_heard asks. removal_only s event after request same;
      keepalive = λ was_heard. keepalive_only s event after same;
      destination = λ request number was_heard asks allows manual is.
          destination_only s event after request.client request.correlation _ same;
      destination_removal = λ client correlation fields target was_heard asks is.
          destination_removal_only s event after client correlation target same;
      counter = λ client correlation fields was_heard asks allows room.
          let word = ap (λ (v : Verdict). v.allow) (counter_verdict s now handle client fields) in
          counter_only s now handle bytes client correlation fields
          (asks_the_same s now handle bytes client correlation (AddsCounter fields) asks)
          (sym word ∙ allows)
          (sym (counter_room s now handle) ∙ room);
      value = λ client correlation fields was_heard asks. value_only s event after client correlation fields same;
      counter_removal = λ client correlation fields was_heard asks.
          counter_removal_only s event after client correlation fields.registration same;
      closing = λ client correlation was_heard asks. closing_only s event after client correlation same;
      termination = λ client correlation fields was_heard asks allows.
          termination_only s now handle bytes client correlation fields after
          (asks_the_same s now handle bytes client correlation (Terminates fields) asks)
          (allowed_before s now handle client allows);
    }

attach_only : (s : State) (now principal : ℕ) (inputs : Inputs) → DraftsOnly s (Attach now principal) (drafted s (Attach now principal) inputs)
unfolding drafted
attach_only s now principal inputs =
    attach_cases (DraftsOnly s (Attach now principal)) (at_moment s now) principal
    (answer_only s (Attach now principal) (at_moment s now) _ (moment_is_same s now))
    (attached_only s (Attach now principal) (at_moment s now) principal (moment_is_same s now))
    (answer_only s (Attach now principal) (at_moment s now) _ (moment_is_same s now))

reload_only : (s : State) (now : ℕ) (policy : Rules) (inputs : Inputs) → DraftsOnly s (Reload now policy) (drafted s (Reload now policy) inputs)
unfolding drafted
reload_only s now policy inputs =
    reload_cases (DraftsOnly s (Reload now policy)) (at_moment s now) policy
    (λ room. reloaded_only s (Reload now policy) (at_moment s now) policy (moment_is_same s now))
    (λ full. answer_only s (Reload now policy) (at_moment s now) _ (moment_is_same s now))

set_up_only : (s : State) (now : ℕ) (local from : Address) (setup : SetupFrame) (inputs : Inputs) →
    DraftsOnly s (Setup now local from setup) (drafted s (Setup now local from setup) inputs)
unfolding drafted
set_up_only s now local from setup inputs =
    let event = Setup now local from setup in
    set_up_cases (DraftsOnly s event) (at_moment s now) local from setup
    (λ fault. answer_only s event (at_moment s now) _ (moment_is_same s now))
    (λ join place is set. image_only s event (at_moment s now) _ place (moment_is_same s now))

drafts_only : (s : State) (event : Event) (inputs : Inputs) → DraftsOnly s event (drafted s event inputs)
drafts_only s (Attach now principal) inputs = attach_only s now principal inputs
drafts_only s (Command now handle bytes) inputs =
    command_cases (DraftsOnly s (Command now handle bytes)) s now handle bytes inputs (command_only s now handle bytes)
drafts_only s (Reload now policy) inputs = reload_only s now policy inputs
drafts_only s (Tick now) inputs = tick_only s now inputs
drafts_only s (Setup now local from setup) inputs = set_up_only s now local from setup inputs

pub counts_and_ends_only : (s : State) (event : Event) (inputs : Inputs) →
    CountsAndEndsOnly (coming_to s event) event (conduct s event inputs)
unfolding conduct renewed dropping without_unread
counts_and_ends_only s event inputs =
    let only = drafts_only (coming_to s event) event inputs in
    record { counters = only.counters; ends = only.ends }
