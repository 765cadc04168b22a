-- Each event leaves what was there, but for what it is to take away: clients that go, and time that goes on.
use Rattle.std.proofs.Common.{◌≡◌, ℕ, ◌==◌, ◌&&◌, ◌||◌, not, max, Bool, true, false, List, [], ◌∷◌, map, filter, inl, inr, refl, sym, subst, ap, ◌∙◌, ◌⊎◌, ⊎_elim}
use Rattle.std.specs.List.{Contains, list_any}
use Rattle.std.proofs.lemmas.Bool.{cases_Bool, eqb-true, not-false, not_from_false}
use Rattle.std.proofs.lemmas.List.Elements.{All-contains, filter_passes}
use Rattle.driver_core.specs.declared.state.event.Event.{Event}
use Rattle.driver_core.specs.declared.state.event.Event.TheVariants.{Attach, Command, Reload, Setup, Tick}
use Rattle.driver_core.specs.declared.state.event.Inputs.{Inputs}
use Rattle.driver_core.specs.Closing.{close}
use Rattle.driver_core.specs.Commands.{heard, at_request}
use Rattle.driver_core.specs.Conduct.{coming_to, conduct, drafted, moment_told, state_after}
use Rattle.driver_core.specs.Draft.{replied, told}
use Rattle.driver_core.specs.Leaving.{all_left, left}
use Rattle.driver_core.specs.Renewal.{renewed}
use Rattle.driver_core.specs.Requests.{Asks, termination_question}
use Rattle.driver_core.specs.State.{State, at_moment, ruled}
use Rattle.driver_core.specs.Terminating.{stopped_for_good, terminated}
use Rattle.driver_core.specs.Ticking.{closed_past, late, tick, ticked}
use Rattle.driver_core.specs.Verdicts.{verdict_on}
use Rattle.driver_core.specs.Unread.{dropping, is_closed, without_unread}
use Rattle.driver_core.specs.Pairs.{pairs_of}
use Rattle.driver_core.specs.Soundness.{log_of}
use Rattle.driver_laws.specs.ClosingLaws.{Closes, ClosesOnly, IsLive, IsPastBy, IsSameLog, IsToldBy}
use Rattle.driver_laws.specs.CounterLaws.{IsSetBy, IsStillThere}
use Rattle.driver_laws.specs.GrantLaws.{IsCounterMadeBy}
use Rattle.driver_laws.specs.LeavingLaws.{IsGoneBy, IsTerminatedBy, is_there}
use Rattle.driver_laws.specs.NumberLaws.{AreRising}
use Rattle.driver_laws.specs.RemovalLaws.{IsAskedBy}
use Rattle.client_registry.specs.declared.client.Client.{Client}
use Rattle.client_registry.specs.Clients.{heard_one, touched}
use Rattle.command_codec.specs.declared.command.Body.TheVariants.{AddCounter as AddsCounter, ClientClose as ClosesItself, RemoveCounter as RemovesCounter, RemovePublication as Unpublishes, SetCounter as Sets, TerminateDriver as Terminates}
use Rattle.command_codec.specs.declared.terminate_driver.TerminateDriver.{TerminateDriver}
use Rattle.counters.specs.declared.counter.Counter.{Counter}
use Rattle.policy_core.specs.declared.verdict.Verdict.{Verdict}
use Rattle.policy_core.specs.RuleList.{Rules}
use Rattle.stream_registry.specs.declared.lingering.LogPlace.{LogPlace}
use Rattle.stream_registry.specs.declared.row.Registration.{Registration}
use Rattle.stream_registry.specs.declared.row.LogRow.{LogRow}
use Rattle.stream_registry.specs.Lingering.{closed, closing_of, is_closing, is_image_of, is_past, place_of, stays_live}
use Rattle.stream_registry.specs.Origins.{lingering_since}
use Rattle.stream_registry.specs.declared.pairs.Pair.{Pair}
use Rattle.channel_uri.specs.declared.address.Address.{Address}
use Rattle.frame_codec.specs.declared.setup.Setup.{Setup as SetupFrame}
use Rattle.log_readers.specs.Unread.{has_pair, is_kept, is_left, is_unread, without_unread as without_unread_in}
use Rattle.driver_core.proofs.EventCases.{Cases, attach_cases, command_cases, reload_cases, set_up_cases}
use Rattle.driver_core.proofs.ListLemmas.{contains_none, left_was_there, passes_are_left}
use Rattle.driver_core.proofs.PairLemmas.{row_number}
use Rattle.driver_laws.proofs.GrantLemmas.{counter_room, counter_verdict}
use Rattle.driver_laws.proofs.LeftLemmas.{Left, each_left, from_map, one_left, past_settles, past_since, place_settles, same_but_since}
use Rattle.driver_laws.proofs.RemovalLemmas.{allowed_before, asks_the_same, closed_by}
use Rattle.driver_laws.proofs.SubscribingLemmas.{found_number}
use Rattle.driver_laws.proofs.DroppingLemmas.{Found, found_of, passes_test}
use Rattle.driver_laws.proofs.RisingLemmas.{rises_unique}
use Rattle.driver_laws.proofs.TurningLemmas.{drawn, rising_at}
use Rattle.driver_laws.proofs.KeepingLemmas.{ClientsStay, CountersStay, DraftCloses, IsSame, IsToldIn, Leaves, LogsStay, RegistrationsStay, ValuesStay, answer_stays, attached_stays, counter_stays, destination_removal_stays, destination_stays, image_alike, image_stays, keepalive_stays, moment_of, none_told, origin_kind, publication_stays, refusal_stays, reloaded_stays, removal_stays, subscription_stays, uncounted_stays, unpublished_stays, value_stays}

module _ (inputs : Inputs) where
  -- ---- clients that go

  -- what is left behind clients that the event takes away, but for the logs
  record Behind (s : State) (event : Event) (after : State) : Type 0 where
    clients : ClientsStay s event after
    registrations : RegistrationsStay s event after
    counters : CountersStay s event after
    values : ValuesStay s event after

  behind : {Goes : ℕ → Type 0} (s : State) (event : Event) (now : ℕ) (left' after : State) → IsSame s left' →
      Left now left' after Goes → ((n : ℕ) → Goes n → IsGoneBy s event n) → Behind s event after
  behind s event now left' after same leaves by = record {
    clients = λ client there.
        ⊎_elim (λ stays. inl stays) (λ goes. inr (by client goes)) (leaves.clients client (same.clients client ∙ there));
    registrations = λ registration has.
        ⊎_elim
        (λ stays. inl stays)
        (λ goes. inr (inr (by registration.client goes)))
        (leaves.registrations registration (rw same.registrations has));
    counters = λ counter has.
        ⊎_elim
        (λ stays. inl (record { now = counter; stands = stays; same = refl }))
        (λ goes. inr (inr (by counter.client goes)))
        (leaves.counters counter (rw same.counters has));
    values = λ counter has. inl (rw same.counters at (leaves.values counter has));
  }

  closing_stays : (s : State) (now handle : ℕ) (bytes : List ℕ) (client : Client) (correlation : ℕ) (left' : State) →
      Asks s handle bytes client correlation ClosesItself → IsSame s left' →
      Leaves inputs s (Command now handle bytes) (close left' client correlation)
  unfolding close replied told
  closing_stays s now handle bytes client correlation left' asks same =
      let event = Command now handle bytes in
      let own : client.number ≡ handle = found_number s.clients.rows handle client asks.attached in
      let after = left left' client.number in
      let leaves = one_left left' left'.moment client.number refl in
      let rows : Behind s event after = behind s event left'.moment left' after same leaves
      (λ n is. inr (inl (closed_by s now handle bytes client correlation n asks (is ∙ own)))) in
      record {
        clients = rows.clients;
        registrations = rows.registrations;
        counters = rows.counters;
        values = rows.values;
        logs = λ log has.
            let there = leaves.logs log (rw same.logs has) in
            inl (record {
              now = there.0;
              stands = there.1;
              same = same_but_since left'.moment log there.0 there.2;
            });
        told = none_told inputs s event;
      }

  none_valued : (s : State) (event : Event) (left' : State) → ValuesStay s event (stopped_for_good left')
  unfolding stopped_for_good
  none_valued s event left' = λ counter has. absurd (contains_none counter has)

  termination_stays : (s : State) (event : Event) (client : Client) (correlation : ℕ) (left' : State) →
      IsTerminatedBy s event → IsSame s left' → Leaves inputs s event (terminated left' client correlation)
  unfolding terminated
  termination_stays s event client correlation left' by same = record {
    clients = λ other there. inr (inr (inr by));
    registrations = λ registration has. inr (inr (inr (inr by)));
    counters = λ counter has. inr (inr (inr (inr by)));
    values = none_valued s event left';
    logs = λ log has. inr (inr (inr by));
    told = λ place has.
        let image = from_map place_of left'.streams.sources place has in
        record {
          log = image.of;
          stood = subst (λ (logs : List LogRow). Contains logs image.of) same.logs image.stood;
          place_is = image.is;
          closes = inr (inr by);
        };
  }

  -- ---- time goes on

  past_by : (s : State) (now : ℕ) (log later : LogRow) → is_past (max s.moment now) later ≡ true →
      is_past (max s.moment now) later ≡ is_past (max s.moment now) log → IsPastBy s (Tick now) log
  past_by s now log later past same =
      let since = past_since log.measures.linger (max s.moment now) (lingering_since log) (sym same ∙ past) in
      record { moment = now; since = since.0; event_is = refl; lingers = since.1; too_long = since.2 }

  or_else : (b c : Bool) → b ≡ false → (b || c) ≡ true → c ≡ true
  or_else true c is either = absurd (cc is)
  or_else false c is either = either

  -- a log that closes at the tick lingered for too long, or is silent
  closing_by : (s : State) (now : ℕ) (log later : LogRow) →
      is_past (max s.moment now) later ≡ is_past (max s.moment now) log → IsSameLog later log →
      is_closing (max s.moment now) inputs.silent later ≡ true → DraftCloses inputs s (Tick now) log
  closing_by s now log later past same closes =
      ⊎_elim
      (λ long. inl (past_by s now log later long past))
      (λ fresh.
      inr (inl (record {
        moment = now;
        event_is = refl;
        silent = sym (image_alike inputs.silent later log same)
            ∙ or_else (is_past (max s.moment now) later) (is_image_of inputs.silent later) fresh closes;
      })))
      (cases_Bool (is_past (max s.moment now) later))

  ticked_logs : {Goes : ℕ → Type 0} (s between : State) (now : ℕ) →
      Left (max s.moment now) (at_moment s now) between Goes →
      LogsStay inputs s (Tick now) (closed_past between inputs.silent)
  unfolding closed_past closed at_moment
  ticked_logs s between now leaves log has =
      let moment = max s.moment now in
      let there = leaves.logs log has in
      let past = past_settles moment log there.0 there.2 in
      let same : IsSameLog there.0 log = same_but_since moment log there.0 there.2 in
      ⊎_elim
      (λ closes. inr (closing_by s now log there.0 past same closes))
      (λ stays.
      inl (record {
        now = there.0;
        stands = rw leaves.moment
            (passes_are_left (stays_live moment inputs.silent) between.streams.sources there.0
            (not_from_false (is_closing moment inputs.silent there.0) stays) there.1);
        same = same;
      }))
      (cases_Bool (is_closing moment inputs.silent there.0))

  ticked_told : {Goes : ℕ → Type 0} (s between : State) (now : ℕ) →
      Left (max s.moment now) (at_moment s now) between Goes →
      (place : LogPlace) → Contains (closing_of between.streams (max s.moment now) inputs.silent) place →
      IsToldIn inputs s (Tick now) place
  unfolding closing_of at_moment
  ticked_told s between now leaves place has =
      let moment = max s.moment now in
      let goes : LogRow → Bool = is_closing moment inputs.silent in
      let image = from_map place_of (filter goes between.streams.sources) place has in
      let closes : is_closing moment inputs.silent image.of ≡ true = All-contains (λ log. goes log ≡ true) _ image.of
      (filter_passes goes between.streams.sources) image.stood in
      let before = leaves.were image.of
      (left_was_there goes between.streams.sources image.of image.stood) in
      record {
        log = before.0;
        stood = before.1;
        place_is = image.is ∙ place_settles moment before.0 image.of before.2;
        closes = closing_by s now before.0 image.of (past_settles moment before.0 image.of before.2)
            (same_but_since moment before.0 image.of before.2) closes;
      }

  closed_registrations : (s between : State) (event : Event) → Behind s event between →
      RegistrationsStay s event (record between { streams = closed between.streams between.moment inputs.silent })
  unfolding closed
  closed_registrations s between event rows = rows.registrations

  ticked_stays : (s between : State) (now : ℕ) (clients : List ℕ) → Behind s (Tick now) between →
      Left (max s.moment now) (at_moment s now) between (Contains clients) →
      Leaves inputs s (Tick now) (ticked between clients inputs.silent)
  unfolding ticked closed_past
  ticked_stays s between now clients rows leaves = record {
    clients = rows.clients;
    registrations = closed_registrations s between (Tick now) rows;
    counters = λ counter has.
        ⊎_elim
        (λ still. inl (record { now = still.now; stands = still.stands; same = still.same }))
        (λ goes. inr goes)
        (rows.counters counter has);
    values = rows.values;
    logs = ticked_logs s between now leaves;
    told = rw leaves.moment (ticked_told s between now leaves);
  }

  -- ---- any event

  there_heard : (rows : List Client) (handle moment number : ℕ) →
      list_any (λ (row : Client). row.number == number) (map (heard_one handle moment) rows)
      ≡ list_any (λ (row : Client). row.number == number) rows
  there_heard [] handle moment number = refl
  there_heard (row ∷ rows) handle moment number =
      let same : (heard_one handle moment row).number ≡ row.number = row_number (row.number == handle) row (max row.heard moment) in
      rw same (ap (λ (b : Bool). (row.number == number) || b) (there_heard rows handle moment number))

  moment_is_same : (s : State) (now : ℕ) → IsSame s (at_moment s now)
  unfolding at_moment
  moment_is_same s now = record { clients = λ client. refl; registrations = refl; counters = refl; logs = refl }

  request_is_same : (s : State) (now handle : ℕ) → IsSame s (at_request s now handle)
  unfolding at_moment heard touched
  request_is_same s now handle = record {
    clients = λ client. there_heard s.clients.rows handle (max s.moment now) client;
    registrations = refl;
    counters = refl;
    logs = refl;
  }

  ended_by : (s : State) (now handle : ℕ) (bytes : List ℕ) (client : Client) (correlation : ℕ) (fields : TerminateDriver) →
      Asks s handle bytes client correlation (Terminates fields) →
      (verdict_on s (termination_question client)).allow ≡ true → IsTerminatedBy s (Command now handle bytes)
  ended_by s now handle bytes client correlation fields asks allows = record {
    moment = now;
    handle = handle;
    bytes = bytes;
    client = client;
    correlation = correlation;
    fields = fields;
    event_is = refl;
    asks = asks;
    allowed = allows;
  }

  command_leaves : (s : State) (now handle : ℕ) (bytes : List ℕ) →
      Cases (Leaves inputs s (Command now handle bytes)) (at_moment s now) handle bytes
  command_leaves s now handle bytes =
      let event = Command now handle bytes in
      let after = at_request s now handle in
      let same = request_is_same s now handle in
      let before = asks_the_same s now handle bytes in
      record {
        unheard = λ correlation refusal plain not_heard.
            refusal_stays inputs s event (at_moment s now) [] handle correlation refusal (moment_is_same s now);
        refusal = λ decisions client correlation refusal plain was_heard.
            refusal_stays inputs s event after decisions client.number correlation refusal same;
        denial = λ client correlation act channel stream was_heard found asked denies.
            refusal_stays inputs s event after _ client.number correlation _ same;
        subscription = λ request was_heard asks allows room. subscription_stays inputs s event after request same;
        publication = λ request adding was_heard asks allows is room place.
            publication_stays inputs s event after request adding same;
        publication_removal = λ client correlation fields was_heard asks.
            unpublished_stays inputs s now handle bytes client correlation fields after
            (before client correlation (Unpublishes fields) asks) same;
        removal = λ request was_heard asks. removal_stays inputs s event after request same;
        keepalive = λ was_heard. keepalive_stays inputs s event after same;
        destination = λ request number was_heard asks allows manual is.
            destination_stays inputs s event after request.client request.correlation _ same;
        destination_removal = λ client correlation fields target was_heard asks is.
            destination_removal_stays inputs s event after client correlation target same;
        counter = λ client correlation fields was_heard asks allows room.
            let word = ap (λ (v : Verdict). v.allow) (counter_verdict s now handle client fields) in
            counter_stays inputs s now handle bytes client correlation fields
            (before client correlation (AddsCounter fields) asks) (sym word ∙ allows) (sym (counter_room s now handle) ∙ room)
            same;
        value = λ client correlation fields was_heard asks.
            value_stays inputs s now handle bytes client correlation fields after
            (before client correlation (Sets fields) asks) same;
        counter_removal = λ client correlation fields was_heard asks.
            uncounted_stays inputs s now handle bytes client correlation fields after
            (before client correlation (RemovesCounter fields) asks) same;
        closing = λ client correlation was_heard asks.
            closing_stays s now handle bytes client correlation after (before client correlation ClosesItself asks) same;
        termination = λ client correlation fields was_heard asks allows.
            termination_stays s event client correlation after
            (ended_by s now handle bytes client correlation fields (before client correlation (Terminates fields) asks)
            (allowed_before s now handle client allows)) same;
      }

  late_go : (s : State) (now client : ℕ) → Contains (late (at_moment s now)) client → IsGoneBy s (Tick now) client
  unfolding at_moment
  late_go s now client is_late = inl (record { moment = now; event_is = refl; is_late = is_late })

  tick_leaves : (s : State) (now : ℕ) → Leaves inputs s (Tick now) (drafted s (Tick now) inputs)
  unfolding drafted tick
  tick_leaves s now =
      let start = at_moment s now in
      let between = all_left start (late start) in
      let leaves = each_left start (max s.moment now) (late start) (moment_of s now) in
      ticked_stays s between now (late start)
      (behind s (Tick now) (max s.moment now) start between (moment_is_same s now) leaves (late_go s now))
      leaves

  attach_leaves : (s : State) (now principal : ℕ) → Leaves inputs s (Attach now principal) (drafted s (Attach now principal) inputs)
  unfolding drafted
  attach_leaves s now principal =
      let event = Attach now principal in
      attach_cases (Leaves inputs s event) (at_moment s now) principal
      (answer_stays inputs s event (at_moment s now) _ (moment_is_same s now))
      (attached_stays inputs s event (at_moment s now) principal (moment_is_same s now))
      (answer_stays inputs s event (at_moment s now) _ (moment_is_same s now))

  reload_leaves : (s : State) (now : ℕ) (policy : Rules) → Leaves inputs s (Reload now policy) (drafted s (Reload now policy) inputs)
  unfolding drafted
  reload_leaves s now policy =
      let event = Reload now policy in
      reload_cases (Leaves inputs s event) (at_moment s now) policy
      (λ room. reloaded_stays inputs s event (at_moment s now) policy (moment_is_same s now))
      (λ full. answer_stays inputs s event (at_moment s now) _ (moment_is_same s now))

  set_up_leaves : (s : State) (now : ℕ) (local from : Address) (setup : SetupFrame) →
      Leaves inputs s (Setup now local from setup) (drafted s (Setup now local from setup) inputs)
  unfolding drafted
  set_up_leaves s now local from setup =
      let event = Setup now local from setup in
      set_up_cases (Leaves inputs s event) (at_moment s now) local from setup
      (λ fault. answer_stays inputs s event (at_moment s now) _ (moment_is_same s now))
      (λ join place is set. image_stays inputs s event (at_moment s now) _ place (moment_is_same s now))

  pub leaves_all : (s : State) (event : Event) → Leaves inputs s event (drafted s event inputs)
  leaves_all s (Attach now principal) = attach_leaves s now principal
  leaves_all s (Command now handle bytes) =
      command_cases (Leaves inputs s (Command now handle bytes)) s now handle bytes inputs (command_leaves s now handle bytes)
  leaves_all s (Reload now policy) = reload_leaves s now policy
  leaves_all s (Tick now) = tick_leaves s now
  leaves_all s (Setup now local from setup) = set_up_leaves s now local from setup

-- ---- the laws: renewing the pairs takes nothing away

pub clients_go_only : (s : State) (event : Event) (inputs : Inputs) (client : ℕ) → is_there s client ≡ true →
    (is_there (state_after s event inputs) client ≡ true) ⊎ IsGoneBy (coming_to s event) event client
unfolding conduct renewed dropping without_unread ruled
clients_go_only s event inputs = (leaves_all inputs (coming_to s event) event).clients

pub registrations_go_only : (s : State) (event : Event) (inputs : Inputs) (registration : Registration) →
    Contains s.streams.registrations registration →
    Contains (state_after s event inputs).streams.registrations registration
    ⊎ (IsAskedBy (coming_to s event) event registration.client (Unpublishes (record { registration = registration.number }))
    ⊎ IsGoneBy (coming_to s event) event registration.client)
unfolding conduct renewed dropping without_unread without_unread_in ruled
registrations_go_only s event inputs = (leaves_all inputs (coming_to s event) event).registrations

pub counters_go_only : (s : State) (event : Event) (inputs : Inputs) (counter : Counter) → Contains s.counters counter →
    IsStillThere (state_after s event inputs) counter
    ⊎ (IsAskedBy (coming_to s event) event counter.client (RemovesCounter (record { registration = counter.number }))
    ⊎ IsGoneBy (coming_to s event) event counter.client)
unfolding conduct renewed dropping without_unread ruled
counters_go_only s event inputs counter has =
    ⊎_elim
    (λ still. inl (record { now = still.now; stands = still.stands; same = still.same }))
    (λ goes. inr goes)
    ((leaves_all inputs (coming_to s event) event).counters counter has)

pub counters_set_only : (s : State) (event : Event) (inputs : Inputs) (counter : Counter) →
    Contains (state_after s event inputs).counters counter →
    Contains s.counters counter
    ⊎ (IsSetBy (coming_to s event) event counter ⊎ IsCounterMadeBy (coming_to s event) event counter)
unfolding conduct renewed dropping without_unread ruled
counters_set_only s event inputs = (leaves_all inputs (coming_to s event) event).values

-- an image is read or not, whether it lingers or not
unread_as_log : (pairs : List Pair) (log : LogRow) → is_unread pairs (log_of log) ≡ is_unread pairs log
unread_as_log pairs log = ap (λ (b : Bool). not b && not (has_pair pairs log)) (origin_kind log.origin)

pub unread_alike : (pairs : List Pair) (log other : LogRow) → IsSameLog log other →
    is_unread pairs log ≡ is_unread pairs other
unread_alike pairs log other same =
    sym (unread_as_log pairs log) ∙ ap (is_unread pairs) same ∙ unread_as_log pairs other

any_closes : (s : State) (event : Event) (inputs : Inputs) (log : LogRow) → DraftCloses inputs s event log →
    Closes s event inputs log
any_closes s event inputs log closes =
    ⊎_elim (λ past. inl past)
    (λ others. ⊎_elim (λ silent. inr (inl silent)) (λ ends. inr (inr (inl ends))) others)
    closes

live_or_closes : (s : State) (event : Event) (inputs : Inputs) (log : LogRow) → Contains s.streams.sources log →
    IsLive (without_unread (drafted s event inputs).after) log ⊎ Closes s event inputs log
unfolding without_unread without_unread_in pairs_of
live_or_closes s event inputs log has =
    let after : State = (drafted s event inputs).after in
    ⊎_elim
    (λ (live : IsLive after log).
    ⊎_elim
    (λ unread. inr (inr (inr (inr (sym (unread_alike (pairs_of after) live.now log live.same) ∙ unread)))))
    (λ read.
    inl (record {
      now = live.now;
      stands = passes_are_left (is_kept (pairs_of after)) after.streams.sources live.now
          (not_from_false (is_unread (pairs_of after) live.now) read) live.stands;
      same = live.same;
    }))
    (cases_Bool (is_unread (pairs_of after) live.now)))
    (λ closes. inr (any_closes s event inputs log closes))
    ((leaves_all inputs s event).logs log has)

-- what is told of is the place of a log that the event's own rule closes, or that none reads any more
told_closes : (s : State) (event : Event) (inputs : Inputs) (log : LogRow) → AreRising s → Contains s.streams.sources log →
    (is_left (drafted s event inputs).closes log ≡ false) → Closes s event inputs log
told_closes s event inputs log rises has told =
    let closes : List LogPlace = (drafted s event inputs).closes in
    let any : list_any (λ (closed : LogPlace). closed.source == log.number) closes ≡ true =
    not-false (list_any (λ (closed : LogPlace). closed.source == log.number) closes) told in
    let found : Found (λ (closed : LogPlace). closed.source == log.number) closes =
    found_of (λ (closed : LogPlace). closed.source == log.number) closes any in
    let by : IsToldIn inputs s event found.one = (leaves_all inputs s event).told found.one found.there in
    let number : by.log.number ≡ log.number =
    sym (ap (λ (place : LogPlace). place.source) by.place_is) ∙ eqb-true found.one.source log.number found.passes in
    let same : by.log ≡ log =
    rises_unique (λ (one : LogRow). one.number) 0 s.last_number s.streams.sources by.log log rises.sources by.stood has number in
    any_closes s event inputs log (subst (DraftCloses inputs s event) same by.closes)

closes_by : (s : State) (event : Event) (inputs : Inputs) (log : LogRow) → AreRising s → Contains s.streams.sources log →
    (not (is_left (drafted s event inputs).closes log) || is_unread (pairs_of (drafted s event inputs).after) log) ≡ true →
    Closes s event inputs log
closes_by s event inputs log rises has closes =
    ⊎_elim
    (λ left'.
    inr (inr (inr (or_then (is_left (drafted s event inputs).closes log)
    (is_unread (pairs_of (drafted s event inputs).after) log) left' closes))))
    (λ told. told_closes s event inputs log rises has told)
    (cases_Bool (is_left (drafted s event inputs).closes log))
  where
    or_then : (b c : Bool) → b ≡ true → (not b || c) ≡ true → c ≡ true
    or_then true c is either = either
    or_then false c is either = absurd (cc is)

told_by : (s : State) (event : Event) (inputs : Inputs) (place : LogPlace) → AreRising s →
    Contains (drawn s event inputs).outcome.closes place → IsToldBy s event inputs place
unfolding renewed dropping
told_by s event inputs place rises has =
    let goes : LogRow → Bool = is_closed (renewed s inputs (drafted s event inputs)) in
    let image = from_map place_of (filter goes s.streams.sources) place has in
    let stood : Contains s.streams.sources image.of = left_was_there goes s.streams.sources image.of image.stood in
    record {
      log = image.of;
      stood = stood;
      place_is = image.is;
      closes = closes_by s event inputs image.of rises stood (passes_test goes s.streams.sources image.of image.stood);
    }

pub logs_close_only : (s : State) (event : Event) (inputs : Inputs) → AreRising s →
    ClosesOnly (coming_to s event) event inputs (conduct s event inputs)
unfolding conduct renewed dropping ruled
logs_close_only s event inputs rises =
    let at : State = coming_to s event in
    record {
      live = live_or_closes at event inputs;
      told = λ place has. told_by at event inputs place (rising_at s (moment_told event) rises) has;
    }
