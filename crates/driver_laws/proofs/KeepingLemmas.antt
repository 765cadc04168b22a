-- What stays where no client goes: with a refusal or an answer, with what comes, and with a request that is granted.
use Rattle.std.proofs.Common.{◌≡◌, ℕ, ◌+◌, ◌==◌, ◌&&◌, not, max, Bool, true, false, cond, List, [], inl, inr, refl, sym, subst, ap, ◌∙◌, ◌⊎◌, ⊎_elim}
use Rattle.std.specs.List.{Contains, list_any}
use Rattle.std.proofs.lemmas.Bool.{and_parts, cases_Bool, eqb-true, not_from_false, or_left}
use Rattle.std.proofs.lemmas.List.Elements.{Contains-append_left, Contains-push_cases}
use Rattle.std.proofs.lemmas.List.Folds.{list_any-append}
use Rattle.driver_core.specs.Directing.{directed, recalled, with_destination, without_destination}
use Rattle.driver_core.specs.declared.state.event.Event.{Event}
use Rattle.driver_core.specs.declared.state.event.Event.TheVariants.{Command}
use Rattle.driver_core.specs.declared.state.event.Inputs.{Inputs}
use Rattle.driver_core.specs.declared.state.outcome.Response.{Response}
use Rattle.driver_core.specs.declared.state.refusal.Refusal.{Refusal}
use Rattle.driver_core.specs.Attaching.{attached}
use Rattle.driver_core.specs.Closing.{keep_alive}
use Rattle.driver_core.specs.Commands.{heard, at_request}
use Rattle.driver_core.specs.Counting.{counted, has_room_for_counter, uncounted, valued, with_counter}
use Rattle.driver_core.specs.Draft.{Draft, answered, refused, replied, replied_opening, told}
use Rattle.driver_core.specs.Publishing.{published, with_directed_publication, with_publication}
use Rattle.driver_core.specs.Reloading.{in_force, reloaded}
use Rattle.driver_core.specs.Requests.{Asks, PublicationRequest, RemovalRequest, SubscriptionRequest, counter_question, wanted_by}
use Rattle.driver_core.specs.State.{State, at_moment}
use Rattle.driver_core.specs.Subscribing.{subscribed, with_subscription}
use Rattle.driver_core.specs.Unpublishing.{unpublished}
use Rattle.driver_core.specs.Unsubscribing.{unsubscribed}
use Rattle.driver_core.specs.Verdicts.{verdict_on}
use Rattle.driver_core.specs.SettingUp.{image_made, with_image}
use Rattle.driver_core.specs.Soundness.{log_of}
use Rattle.driver_laws.specs.ClosingLaws.{IsLive, IsPastBy, IsSameLog, IsSilentBy}
use Rattle.driver_laws.specs.CounterLaws.{IsSetBy, IsStillThere}
use Rattle.driver_laws.specs.GrantLaws.{IsCounterMadeBy}
use Rattle.driver_laws.specs.LeavingLaws.{IsGoneBy, IsTerminatedBy, is_there}
use Rattle.driver_laws.specs.RemovalLaws.{IsAskedBy}
use Rattle.client_registry.specs.declared.client.Client.{Client}
use Rattle.client_registry.specs.Clients.{admitted}
use Rattle.command_codec.specs.declared.add_counter.AddCounter.{AddCounter}
use Rattle.command_codec.specs.declared.command.Body.{Body}
use Rattle.command_codec.specs.declared.command.Body.TheVariants.{AddCounter as AddsCounter, RemoveCounter as RemovesCounter, RemovePublication as Unpublishes, SetCounter as Sets}
use Rattle.command_codec.specs.declared.removal.Removal.{Removal}
use Rattle.command_codec.specs.declared.set_counter.SetCounter.{SetCounter}
use Rattle.counters.specs.declared.counter.Counter.{Counter}
use Rattle.counters.specs.Counters.{is_another, is_own, made, set, set_one, without}
use Rattle.policy_core.specs.declared.decision.Decision.{Decision}
use Rattle.policy_core.specs.RuleList.{Rules}
use Rattle.stream_registry.specs.declared.lingering.LogPlace.{LogPlace}
use Rattle.stream_registry.specs.declared.row.LogRow.{LogRow}
use Rattle.stream_registry.specs.declared.row.Registration.{Registration}
use Rattle.stream_registry.specs.declared.wanted.Adding.{Adding}
use Rattle.stream_registry.specs.declared.wanted.Adding.TheVariants.{Join, Make}
use Rattle.stream_registry.specs.declared.wanted.Wanted.{Wanted}
use Rattle.stream_registry.specs.Adding.{added, subscribed as subscribed_in}
use Rattle.stream_registry.specs.Leaving.{is_another_registration, is_own_registration, unregistered, unsubscribed as unsubscribed_in}
use Rattle.stream_registry.specs.Lingering.{is_image_of, is_number, place_of, settled}
use Rattle.stream_registry.specs.Origins.{is_published_by, unlingering}
use Rattle.stream_registry.specs.Streams.{Streams}
use Rattle.stream_registry.specs.declared.wanted.ImageWanted.{ImageWanted}
use Rattle.stream_registry.specs.declared.row.Origin.{Origin}
use Rattle.stream_registry.specs.declared.row.Origin.TheVariants.{Published, Remote}
use Rattle.driver_core.proofs.ListLemmas.{contains_none, left_was_there, passes_are_left}
use Rattle.driver_laws.proofs.GrantOnlyLemmas.{made_by, set_keeps}
use Rattle.driver_laws.proofs.LeftLemmas.{from_map, mapped, same_but_since, settled_logs}
use Rattle.driver_laws.proofs.SubscribingLemmas.{found_number}

-- ---- what stays

abbrev pub ClientsStay : State → Event → State → Type 0
ClientsStay s event after =
    (client : ℕ) → is_there s client ≡ true → (is_there after client ≡ true) ⊎ IsGoneBy s event client

abbrev pub RegistrationsStay : State → Event → State → Type 0
RegistrationsStay s event after =
    (registration : Registration) → Contains s.streams.registrations registration →
    Contains after.streams.registrations registration
    ⊎ (IsAskedBy s event registration.client (Unpublishes (record { registration = registration.number }))
    ⊎ IsGoneBy s event registration.client)

abbrev pub CountersStay : State → Event → State → Type 0
CountersStay s event after =
    (counter : Counter) → Contains s.counters counter →
    IsStillThere after counter
    ⊎ (IsAskedBy s event counter.client (RemovesCounter (record { registration = counter.number }))
    ⊎ IsGoneBy s event counter.client)

abbrev pub ValuesStay : State → Event → State → Type 0
ValuesStay s event after =
    (counter : Counter) → Contains after.counters counter →
    Contains s.counters counter ⊎ (IsSetBy s event counter ⊎ IsCounterMadeBy s event counter)

pub moment_of : (s : State) (now : ℕ) → (at_moment s now).moment ≡ max s.moment now
unfolding at_moment
moment_of s now = refl

-- whether it lingers or not
pub origin_kind : (origin : Origin) → is_published_by (unlingering origin) ≡ is_published_by origin
origin_kind (Published exclusive since) = refl
origin_kind (Remote address initial_term join) = refl

image_as_log : (numbers : List ℕ) (log : LogRow) → is_image_of numbers (log_of log) ≡ is_image_of numbers log
image_as_log numbers log =
    ap (λ (b : Bool). not b && list_any (is_number log.number) numbers) (origin_kind log.origin)

pub image_alike : (numbers : List ℕ) (log other : LogRow) → IsSameLog log other →
    is_image_of numbers log ≡ is_image_of numbers other
image_alike numbers log other same =
    sym (image_as_log numbers log) ∙ ap (is_image_of numbers) same ∙ image_as_log numbers other

-- what the event has not touched
pub record IsSame (s left' : State) : Type 0 where
  pub clients : (client : ℕ) → is_there left' client ≡ is_there s client
  pub registrations : left'.streams.registrations ≡ s.streams.registrations
  pub counters : left'.counters ≡ s.counters
  pub logs : left'.streams.sources ≡ s.streams.sources

same_clients : (s : State) (event : Event) (after : State) → ((n : ℕ) → is_there after n ≡ is_there s n) →
    ClientsStay s event after
same_clients s event after same = λ client there. inl (same client ∙ there)

same_registrations : (s : State) (event : Event) (after : State) →
    after.streams.registrations ≡ s.streams.registrations → RegistrationsStay s event after
same_registrations s event after same = λ registration has. inl (rw same has)

same_counters : (s : State) (event : Event) (after : State) → after.counters ≡ s.counters → CountersStay s event after
same_counters s event after same = λ counter has. inl (record { now = counter; stands = rw same has; same = refl })

same_values : (s : State) (event : Event) (after : State) → after.counters ≡ s.counters → ValuesStay s event after
same_values s event after same = λ counter has. inl (rw same at has)

module _ (inputs : Inputs) where
  -- the event's own rule closes the log
  abbrev pub DraftCloses : State → Event → LogRow → Type 0
  DraftCloses s event log = IsPastBy s event log ⊎ (IsSilentBy event inputs log ⊎ IsTerminatedBy s event)

  abbrev pub LogsStay : State → Event → State → Type 0
  LogsStay s event after =
      (log : LogRow) → Contains s.streams.sources log →
      IsLive after log ⊎ DraftCloses s event log

  -- what is told is the place of such a log
  pub record IsToldIn (s : State) (event : Event) (place : LogPlace) : Type 0 where
    pub log : LogRow
    pub stood : Contains s.streams.sources log
    pub place_is : place ≡ place_of log
    pub closes : DraftCloses s event log

  pub record Leaves (s : State) (event : Event) (draft : Draft) : Type 0 where
    pub clients : ClientsStay s event draft.after
    pub registrations : RegistrationsStay s event draft.after
    pub counters : CountersStay s event draft.after
    pub values : ValuesStay s event draft.after
    pub logs : LogsStay s event draft.after
    pub told : (place : LogPlace) → Contains draft.closes place → IsToldIn s event place

  same_logs : (s : State) (event : Event) (after : State) → after.streams.sources ≡ s.streams.sources →
      LogsStay s event after
  same_logs s event after same = λ log has. inl (record { now = log; stands = rw same has; same = refl })

  pub none_told : (s : State) (event : Event) (place : LogPlace) → Contains [] place → IsToldIn s event place
  none_told s event place has = absurd (contains_none place has)

  all_stay : (s : State) (event : Event) (draft : Draft) → IsSame s draft.after → draft.closes ≡ [] → Leaves s event draft
  all_stay s event draft same closes = record {
    clients = same_clients s event draft.after same.clients;
    registrations = same_registrations s event draft.after same.registrations;
    counters = same_counters s event draft.after same.counters;
    values = same_values s event draft.after same.counters;
    logs = same_logs s event draft.after same.logs;
    told = λ place has. none_told s event place (rw closes at has);
  }

  -- ---- what touches nothing of it

  pub refusal_stays : (s : State) (event : Event) (left' : State) (decisions : List Decision) (client correlation : ℕ)
      (refusal : Refusal) → IsSame s left' → Leaves s event (refused left' decisions client correlation refusal)
  unfolding refused replied told
  refusal_stays s event left' decisions client correlation refusal same = all_stay s event _ same refl

  pub answer_stays : (s : State) (event : Event) (left' : State) (response : Response) → IsSame s left' →
      Leaves s event (answered left' response)
  unfolding answered
  answer_stays s event left' response same = all_stay s event _ same refl

  pub reloaded_stays : (s : State) (event : Event) (left' : State) (policy : Rules) → IsSame s left' →
      Leaves s event (reloaded left' policy)
  unfolding reloaded in_force answered
  reloaded_stays s event left' policy same =
      all_stay s event _ (record {
        clients = same.clients;
        registrations = same.registrations;
        counters = same.counters;
        logs = same.logs;
      }) refl

  pub keepalive_stays : (s : State) (event : Event) (left' : State) → IsSame s left' → Leaves s event (keep_alive left')
  unfolding keep_alive told
  keepalive_stays s event left' same = all_stay s event _ same refl

  pub subscription_stays : (s : State) (event : Event) (left' : State) (request : SubscriptionRequest) → IsSame s left' →
      Leaves s event (
      subscribed left' request.client request.correlation request.channel request.fields.stream)
  unfolding subscribed with_subscription subscribed_in replied told
  subscription_stays s event left' request same =
      all_stay s event _ (record {
        clients = same.clients;
        registrations = same.registrations;
        counters = same.counters;
        logs = same.logs;
      }) refl

  pub removal_stays : (s : State) (event : Event) (left' : State) (request : RemovalRequest) → IsSame s left' →
      Leaves s event (unsubscribed left' request.client request.correlation request.fields.registration)
  unfolding unsubscribed unsubscribed_in replied told
  removal_stays s event left' request same =
      all_stay s event _ (record {
        clients = same.clients;
        registrations = same.registrations;
        counters = same.counters;
        logs = same.logs;
      }) refl

  pub destination_stays : (s : State) (event : Event) (left' : State) (client : Client) (correlation : ℕ) (granted : _) →
      IsSame s left' → Leaves s event (directed left' client correlation granted)
  unfolding directed with_destination replied told
  destination_stays s event left' client correlation granted same =
      all_stay s event _ (record {
        clients = same.clients;
        registrations = same.registrations;
        counters = same.counters;
        logs = same.logs;
      }) refl

  pub destination_removal_stays : (s : State) (event : Event) (left' : State) (client : Client) (correlation : ℕ)
      (target : _) → IsSame s left' → Leaves s event (recalled left' client correlation target)
  unfolding recalled without_destination replied told
  destination_removal_stays s event left' client correlation target same =
      all_stay s event _ (record {
        clients = same.clients;
        registrations = same.registrations;
        counters = same.counters;
        logs = same.logs;
      }) refl

  -- ---- a client that comes

  pub attached_stays : (s : State) (event : Event) (left' : State) (principal : ℕ) → IsSame s left' →
      Leaves s event (attached left' principal)
  unfolding attached answered admitted
  attached_stays s event left' principal same =
      let after = (attached left' principal).after in
      record {
        clients = λ client there.
            inl (list_any-append (λ (row : Client). row.number == client) left'.clients.rows _
            ∙ or_left _ _ (same.clients client ∙ there));
        registrations = same_registrations s event after same.registrations;
        counters = same_counters s event after same.counters;
        values = same_values s event after same.counters;
        logs = same_logs s event after same.logs;
        told = none_told s event;
      }

  -- ---- an image that comes

  pub image_stays : (s : State) (event : Event) (left' : State) (wanted : ImageWanted) (place : ℕ) → IsSame s left' →
      Leaves s event (image_made left' wanted place)
  unfolding image_made with_image answered
  image_stays s event left' wanted place same =
      let after = (image_made left' wanted place).after in
      record {
        clients = same_clients s event after same.clients;
        registrations = same_registrations s event after same.registrations;
        counters = same_counters s event after same.counters;
        values = same_values s event after same.counters;
        logs = λ log has.
            inl (record {
              now = log;
              stands = Contains-append_left left'.streams.sources _ log (rw same.logs has);
              same = refl;
            });
        told = none_told s event;
      }

  -- ---- registrations and logs

  added_registration : (t : Streams) (number client : ℕ) (wanted : Wanted) (place : ℕ) (adding : Adding)
      (registration : Registration) → Contains t.registrations registration →
      Contains (added t number client wanted place adding).registrations registration
  added_registration t number client wanted place (Join source session) registration has =
      Contains-append_left t.registrations _ registration has
  added_registration t number client wanted place (Make session) registration has =
      Contains-append_left t.registrations _ registration has

  added_log : (t : Streams) (number client : ℕ) (wanted : Wanted) (place : ℕ) (adding : Adding) (log : LogRow) →
      Contains t.sources log → Contains (added t number client wanted place adding).sources log
  added_log t number client wanted place (Join source session) log has = has
  added_log t number client wanted place (Make session) log has = Contains-append_left t.sources _ log has

  pub publication_stays : (s : State) (event : Event) (left' : State) (request : PublicationRequest) (adding : Adding) →
      IsSame s left' → Leaves s event (published left' request.client request.correlation (wanted_by request) adding)
  unfolding published with_directed_publication with_publication replied_opening replied told
  publication_stays s event left' request adding same =
      let after = (published left' request.client request.correlation (wanted_by request) adding).after in
      record {
        clients = same_clients s event after same.clients;
        registrations = λ registration has.
            inl (added_registration left'.streams _ request.client.number (wanted_by request) _ adding registration
            (rw same.registrations has));
        counters = same_counters s event after same.counters;
        values = same_values s event after same.counters;
        logs = λ log has.
            inl (record {
              now = log;
              stands = added_log left'.streams _ request.client.number (wanted_by request) _ adding log (rw same.logs has);
              same = refl;
            });
        told = none_told s event;
      }

  -- the event is this request of this client
  asked_by : (s : State) (now handle : ℕ) (bytes : List ℕ) (row : Client) (correlation : ℕ) (body : Body) (client : ℕ) →
      Asks s handle bytes row correlation body → client ≡ handle →
      IsAskedBy s (Command now handle bytes) client body
  asked_by s now handle bytes row correlation body client asks own = record {
    moment = now;
    bytes = bytes;
    row = row;
    correlation = correlation;
    event_is = rw own refl;
    asks = rw own asks;
  }

  owned_number : (client number other of : ℕ) → ((other == client) && (of == number)) ≡ true →
      (other ≡ client) × (of ≡ number)
  owned_number client number other of own =
      let parts = and_parts (other == client) (of == number) own in
      (eqb-true other client parts.0, eqb-true of number parts.1)

  pub unpublished_stays : (s : State) (now handle : ℕ) (bytes : List ℕ) (client : Client) (correlation : ℕ) (fields : Removal)
      (left' : State) → Asks s handle bytes client correlation (Unpublishes fields) → IsSame s left' →
      Leaves s (Command now handle bytes) (unpublished left' client correlation fields.registration)
  unfolding unpublished unregistered settled replied told
  unpublished_stays s now handle bytes client correlation fields left' asks same =
      let event = Command now handle bytes in
      let after = (unpublished left' client correlation fields.registration).after in
      let own : client.number ≡ handle = found_number s.clients.rows handle client asks.attached in
      record {
        clients = same_clients s event after same.clients;
        registrations = λ registration has.
            ⊎_elim
            (λ is.
            let by = owned_number client.number fields.registration registration.client registration.number is in
            inr (inl (rw by.1
            (asked_by s now handle bytes client correlation (Unpublishes fields) registration.client asks (by.0 ∙ own)))))
            (λ other.
            inl (passes_are_left (is_another_registration client.number fields.registration) left'.streams.registrations
            registration
            (not_from_false (is_own_registration client.number fields.registration registration) other)
            (rw same.registrations has)))
            (cases_Bool (is_own_registration client.number fields.registration registration));
        counters = same_counters s event after same.counters;
        values = same_values s event after same.counters;
        logs = λ log has.
            let there = settled_logs _ left'.moment left'.streams.sources log (rw same.logs has) in
            inl (record {
              now = there.0;
              stands = there.1;
              same = same_but_since left'.moment log there.0 there.2;
            });
        told = none_told s event;
      }

  -- ---- counters

  pub counter_stays : (s : State) (now handle : ℕ) (bytes : List ℕ) (client : Client) (correlation : ℕ) (fields : AddCounter) →
      Asks s handle bytes client correlation (AddsCounter fields) →
      (verdict_on s (counter_question client fields)).allow ≡ true → has_room_for_counter s ≡ true →
      IsSame s (at_request s now handle) →
      Leaves s (Command now handle bytes) (counted (at_request s now handle) client correlation fields)
  unfolding counted with_counter replied told heard at_moment
  counter_stays s now handle bytes client correlation fields asks allows room same =
      let event = Command now handle bytes in
      let after = (counted (at_request s now handle) client correlation fields).after in
      let own : client.number ≡ handle = found_number s.clients.rows handle client asks.attached in
      let by = made_by s now handle bytes client correlation fields asks allows room in
      record {
        clients = same_clients s event after same.clients;
        registrations = same_registrations s event after same.registrations;
        counters = λ counter has.
            inl (record { now = counter; stands = Contains-append_left s.counters _ counter has; same = refl });
        values = λ counter has.
            ⊎_elim
            (λ before. inl before)
            (λ is. inr (inr (rw (← is, own) by)))
            (Contains-push_cases s.counters (made (s.last_number + 1) client.number fields.type_id fields.key fields.label)
            counter has);
        logs = same_logs s event after same.logs;
        told = none_told s event;
      }

  -- a counter to which a value is set is as it was, or is the client's own, and has that value
  set_or_stays : (s : State) (now handle : ℕ) (bytes : List ℕ) (client : Client) (correlation : ℕ) (fields : SetCounter)
      (counter before : Counter) → Asks s handle bytes client correlation (Sets fields) → client.number ≡ handle →
      Contains s.counters before → (b : Bool) → is_own client.number fields.registration before ≡ b →
      counter ≡ cond b (record before { value = fields.value }) before →
      Contains s.counters counter
      ⊎ (IsSetBy s (Command now handle bytes) counter ⊎ IsCounterMadeBy s (Command now handle bytes) counter)
  set_or_stays s now handle bytes client correlation fields counter before asks own has true is same =
      let by = owned_number client.number fields.registration before.client before.number is in
      inr (inl (rw same (record {
        stood = record { before = before; stood = has; same = refl };
        asked = rw by.1
            (asked_by s now handle bytes client correlation (Sets fields) before.client asks (by.0 ∙ own));
      })))
  set_or_stays s now handle bytes client correlation fields counter before asks own has false is same = inl (rw same has)

  pub value_stays : (s : State) (now handle : ℕ) (bytes : List ℕ) (client : Client) (correlation : ℕ) (fields : SetCounter)
      (left' : State) → Asks s handle bytes client correlation (Sets fields) → IsSame s left' →
      Leaves s (Command now handle bytes) (valued left' client correlation fields)
  unfolding valued replied told set
  value_stays s now handle bytes client correlation fields left' asks same =
      let event = Command now handle bytes in
      let after = (valued left' client correlation fields).after in
      let change = set_one client.number fields.registration fields.value in
      let own : client.number ≡ handle = found_number s.clients.rows handle client asks.attached in
      record {
        clients = same_clients s event after same.clients;
        registrations = same_registrations s event after same.registrations;
        counters = λ counter has.
            inl (record {
              now = change counter;
              stands = mapped change left'.counters counter (rw same.counters has);
              same = set_keeps (is_own client.number fields.registration counter) fields.value counter;
            });
        values = λ counter has.
            let image = from_map change left'.counters counter has in
            set_or_stays s now handle bytes client correlation fields counter image.of asks own
            (subst (λ (counters : List Counter). Contains counters image.of) same.counters image.stood) (is_own client.number fields.registration image.of) refl image.is;
        logs = same_logs s event after same.logs;
        told = none_told s event;
      }

  pub uncounted_stays : (s : State) (now handle : ℕ) (bytes : List ℕ) (client : Client) (correlation : ℕ) (fields : Removal)
      (left' : State) → Asks s handle bytes client correlation (RemovesCounter fields) → IsSame s left' →
      Leaves s (Command now handle bytes) (uncounted left' client correlation fields.registration)
  unfolding uncounted told without
  uncounted_stays s now handle bytes client correlation fields left' asks same =
      let event = Command now handle bytes in
      let after = (uncounted left' client correlation fields.registration).after in
      let own : client.number ≡ handle = found_number s.clients.rows handle client asks.attached in
      record {
        clients = same_clients s event after same.clients;
        registrations = same_registrations s event after same.registrations;
        counters = λ counter has.
            ⊎_elim
            (λ is.
            let by = owned_number client.number fields.registration counter.client counter.number is in
            inr (inl (rw by.1
            (asked_by s now handle bytes client correlation (RemovesCounter fields) counter.client asks (by.0 ∙ own)))))
            (λ other.
            inl (record {
              now = counter;
              stands = passes_are_left (is_another client.number fields.registration) left'.counters counter
                  (not_from_false (is_own client.number fields.registration counter) other) (rw same.counters has);
              same = refl;
            }))
            (cases_Bool (is_own client.number fields.registration counter));
        values = λ counter has.
            inl (rw same.counters at
            (left_was_there (is_another client.number fields.registration) left'.counters counter has));
        logs = same_logs s event after same.logs;
        told = none_told s event;
      }
