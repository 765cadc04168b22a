-- No number is drawn for two lists, but for those of a log and its registration.
use Rattle.std.proofs.Common.{◌≡◌, ℕ, ◌+◌, ◌≤◌, Bool, true, false, List, [], Ok, inl, inr, if◌then◌else◌, refl, sym, ap, ◌∙◌, ◌⊎◌, ⊎_elim, arith}
use Rattle.std.specs.List.{Contains}
use Rattle.driver_core.specs.declared.state.event.Event.{Event}
use Rattle.driver_core.specs.declared.state.event.Event.TheVariants.{Command}
use Rattle.driver_core.specs.declared.state.event.Inputs.{Inputs}
use Rattle.driver_core.specs.declared.state.peer.Peer.{Peer}
use Rattle.driver_core.specs.declared.state.settings.Settings.{Settings}
use Rattle.driver_core.specs.Conduct.{coming_to, state_after}
use Rattle.driver_core.specs.Requests.{AsksToPublish, PublicationRequest, publication_body, wanted_by}
use Rattle.driver_core.specs.State.{State, opened, ruled}
use Rattle.driver_laws.specs.Events.{AfterAnyEvents}
use Rattle.driver_laws.specs.GrantLaws.{IsCounterMadeBy, StoodBefore}
use Rattle.driver_laws.specs.NumberLaws.{AreApart, AreDrawn, AreRising, ListsShareNoNumber}
use Rattle.driver_laws.specs.PublishingLaws.{IsImageMadeBy, IsLogMadeBy, IsRegisteredBy, WasLive, source_of}
use Rattle.driver_laws.specs.SubscribingLaws.{IsMadeBy}
use Rattle.channel_uri.specs.Channel.{denotes}
use Rattle.command_codec.specs.declared.add_publication.AddPublication.{AddPublication}
use Rattle.command_codec.specs.declared.command.Body.{Body}
use Rattle.command_codec.specs.declared.command.Body.TheVariants.{AddPublication as Publishes, AddExclusivePublication as PublishesExclusively, AddSubscription as Adds, AddCounter as AddsCounter}
use Rattle.command_codec.specs.declared.command.Command.{Command as Read}
use Rattle.command_codec.specs.Command.{command_of}
use Rattle.counters.specs.declared.counter.Counter.{Counter}
use Rattle.policy_core.specs.RuleList.{Rules}
use Rattle.stream_registry.specs.declared.row.LogRow.{LogRow}
use Rattle.stream_registry.specs.declared.row.Registration.{Registration}
use Rattle.stream_registry.specs.declared.row.Subscription.{Subscription}
use Rattle.stream_registry.specs.declared.wanted.Adding.TheVariants.{Make}
use Rattle.stream_registry.specs.Adding.{adding_of}
use Rattle.driver_core.proofs.ListLemmas.{contains_none}
use Rattle.driver_laws.proofs.GrantOnlyLemmas.{counts_and_ends_only}
use Rattle.driver_laws.proofs.NewNumberLemmas.{image_number}
use Rattle.driver_laws.proofs.NumberLemmas.{are_drawn, event_rises, opened_rises}
use Rattle.driver_laws.proofs.EveryLemmas.{after_any}
use Rattle.driver_laws.proofs.PublishingOnlyLemmas.{published_only}
use Rattle.driver_laws.proofs.SubscribingOnlyLemmas.{grants_only}

-- ---- which list an event draws for

-- 1 for a registration, 2 for a subscription, 3 for a counter
abbrev list_of : Body → ℕ
list_of (Publishes fields) = 1
list_of (PublishesExclusively fields) = 1
list_of (Adds fields) = 2
list_of (AddsCounter fields) = 3
list_of other = 0

-- the event asks for a row of that list
record DrawsFor (event : Event) (list : ℕ) : Type 0 where
  moment : ℕ
  handle : ℕ
  bytes : List ℕ
  read : Read
  event_is : event ≡ Command moment handle bytes
  command : command_of bytes ≡ Ok read
  list_is : list_of read.body ≡ list

bytes_of : Event → List ℕ
bytes_of (Command moment handle bytes) = bytes
bytes_of other = []

one_list : (event : Event) (list other : ℕ) → DrawsFor event list → DrawsFor event other → list ≡ other
one_list event list other one two =
    let bytes : one.bytes ≡ two.bytes = cc (one.event_is, two.event_is) in
    let read = sym one.command ∙ ap command_of bytes ∙ two.command in
    let same : one.read ≡ two.read = cc read in
    sym one.list_is ∙ ap (λ (r : Read). list_of r.body) same ∙ two.list_is

publication_list : (request : PublicationRequest) → list_of (publication_body request) ≡ 1
publication_list request = by request.exclusive
  where
    by : (exclusive : Bool) →
        list_of (if exclusive then PublishesExclusively request.fields else Publishes request.fields) ≡ 1
    by true = refl
    by false = refl

-- the row is new: it has the next number, which was drawn for this list
record IsNew (s : State) (event : Event) (list number : ℕ) : Type 0 where
  next : number ≡ s.last_number + 1
  draws : DrawsFor event list

new_registration : (s : State) (event : Event) (row : Registration) → IsRegisteredBy s event row →
    IsNew s event 1 row.number
new_registration s event row made = record {
  next = ap (λ (r : Registration). r.number) made.made_is;
  draws = record {
    moment = made.moment;
    handle = row.client;
    bytes = made.bytes;
    read = record {
      client = row.client;
      correlation = made.request.correlation;
      body = publication_body made.request;
    };
    event_is = made.event_is;
    command = made.asks.asks.command;
    list_is = publication_list made.request;
  };
}

new_log : (s : State) (event : Event) (log : LogRow) → IsLogMadeBy s event log → IsNew s event 1 log.number
new_log s event log made = record {
  next = ap (λ (p : LogRow). p.number) made.made_is;
  draws = (new_registration s event made.registration made.registered).draws;
}

new_subscription : (s : State) (event : Event) (row : Subscription) (correlation : ℕ) →
    IsMadeBy s event correlation row → IsNew s event 2 row.number
new_subscription s event row correlation made = record {
  next = ap (λ (r : Subscription). r.number) made.made_is;
  draws = record {
    moment = made.moment;
    handle = row.client;
    bytes = made.bytes;
    read = record { client = row.client; correlation = made.request.correlation; body = Adds made.request.fields };
    event_is = made.event_is;
    command = made.asks.command;
    list_is = refl;
  };
}

new_counter : (s : State) (event : Event) (counter : Counter) → IsCounterMadeBy s event counter →
    IsNew s event 3 counter.number
new_counter s event counter made = record {
  next = ap (λ (c : Counter). c.number) made.made_is;
  draws = record {
    moment = made.moment;
    handle = counter.client;
    bytes = made.bytes;
    read = record { client = counter.client; correlation = made.correlation; body = AddsCounter made.fields };
    event_is = made.event_is;
    command = made.asks.command;
    list_is = refl;
  };
}

-- so it is in the registry before, which has drawn the same numbers
new_before : (s : State) (event : Event) (list number : ℕ) → IsNew (coming_to s event) event list number →
    IsNew s event list number
unfolding ruled
new_before s event list number new = record { next = new.next; draws = new.draws }

-- ---- two rows of two lists

-- a row that stood had a number that was drawn, and this one
record Stood (s : State) (Was : Type 0) (number : ℕ) : Type 0 where
  was : Was
  drawn : number ≤ s.last_number

apart : (s : State) (event : Event) (list other : ℕ) (Was WasOther : Type 0) (number another : ℕ) →
    (list ≡ other → ⊥) → (Was → WasOther → ¬ (number ≡ another)) →
    Stood s Was number ⊎ IsNew s event list number → Stood s WasOther another ⊎ IsNew s event other another →
    ¬ (number ≡ another)
apart s event list other Was WasOther number another differ before one two = λ same.
    ⊎_elim
    (λ (stood : Stood s Was number).
    ⊎_elim
    (λ (stood' : Stood s WasOther another). before stood.was stood'.was same)
    (λ (new' : IsNew s event other another).
    let low = stood.drawn in
    let high = new'.next in
    absurd (omega (arith, low, high, same)))
    two)
    (λ (new : IsNew s event list number).
    ⊎_elim
    (λ (stood' : Stood s WasOther another).
    let low = stood'.drawn in
    let high = new.next in
    absurd (omega (arith, low, high, same)))
    (λ (new' : IsNew s event other another). differ (one_list event list other new.draws new'.draws))
    two)
    one

-- ---- where the rows of an event come from

registration_from : (s : State) (event : Event) (inputs : Inputs) (row : Registration) → AreDrawn s →
    Contains (state_after s event inputs).streams.registrations row →
    Stood s (Contains s.streams.registrations row) row.number ⊎ IsNew s event 1 row.number
unfolding ruled
registration_from s event inputs row drawn has =
    ⊎_elim
    (λ stood. inl (record { was = stood; drawn = (drawn.registrations row stood).below }))
    (λ (made : IsRegisteredBy (coming_to s event) event row).
    inr (new_before s event 1 row.number (new_registration (coming_to s event) event row made)))
    ((published_only s event inputs).registrations row has)

subscription_from : (s : State) (event : Event) (inputs : Inputs) (row : Subscription) → AreDrawn s →
    Contains (state_after s event inputs).streams.subscriptions row →
    Stood s (Contains s.streams.subscriptions row) row.number ⊎ IsNew s event 2 row.number
unfolding ruled
subscription_from s event inputs row drawn has =
    ⊎_elim
    (λ stood. inl (record { was = stood; drawn = (drawn.subscriptions row stood).below }))
    (λ (made : (correlation : ℕ) × IsMadeBy (coming_to s event) event correlation row).
    inr (new_before s event 2 row.number (new_subscription (coming_to s event) event row made.0 made.1)))
    ((grants_only s event inputs).stands row has)

counter_from : (s : State) (event : Event) (inputs : Inputs) (counter : Counter) → AreDrawn s →
    Contains (state_after s event inputs).counters counter →
    Stood s (StoodBefore s counter) counter.number ⊎ IsNew s event 3 counter.number
unfolding ruled
counter_from s event inputs counter drawn has =
    ⊎_elim
    (λ (stood : StoodBefore (coming_to s event) counter).
    let same : counter.number ≡ stood.before.number = ap (λ (c : Counter). c.number) stood.same in
    inl (record {
      was = record { before = stood.before; stood = stood.stood; same = stood.same };
      drawn = rw same (drawn.counters stood.before stood.stood).below;
    }))
    (λ (made : IsCounterMadeBy (coming_to s event) event counter).
    inr (new_before s event 3 counter.number (new_counter (coming_to s event) event counter made)))
    ((counts_and_ends_only s event inputs).counters counter has)

-- a log was live, or a request makes it, or a SETUP
abbrev IsFrom : State → Event → LogRow → Type 0
IsFrom s event log =
    Stood s (WasLive s.streams log) log.number
    ⊎ (IsNew s event 1 log.number ⊎ IsImageMadeBy (coming_to s event) event log)

-- a SETUP asks for no row of another list
draws_none : (s : State) (event : Event) (log : LogRow) (list : ℕ) → IsImageMadeBy s event log → DrawsFor event list → ⊥
draws_none s event log list image draws =
    let never = sym image.event_is ∙ draws.event_is in
    absurd (cc never)

log_apart : (s : State) (event : Event) (log : LogRow) (other : ℕ) (WasOther : Type 0) (another : ℕ) → (1 ≡ other → ⊥) →
    (WasLive s.streams log → WasOther → ¬ (log.number ≡ another)) → IsFrom s event log →
    Stood s WasOther another ⊎ IsNew s event other another → ¬ (log.number ≡ another)
unfolding ruled
log_apart s event log other WasOther another differ before one two = λ same.
    ⊎_elim
    (λ (stood : Stood s (WasLive s.streams log) log.number).
    apart s event 1 other (WasLive s.streams log) WasOther log.number another differ before (inl stood) two same)
    (λ made.
    ⊎_elim
    (λ (new : IsNew s event 1 log.number).
    apart s event 1 other (WasLive s.streams log) WasOther log.number another differ before (inr new) two same)
    (λ (image : IsImageMadeBy (coming_to s event) event log).
    let high = image_number (coming_to s event) event log image in
    ⊎_elim
    (λ (stood : Stood s WasOther another).
    let low = stood.drawn in
    absurd (omega (arith, low, high, same)))
    (λ (new : IsNew s event other another). draws_none (coming_to s event) event log other image new.draws)
    two)
    made)
    one

log_from : (s : State) (event : Event) (inputs : Inputs) (log : LogRow) → AreDrawn s →
    Contains (state_after s event inputs).streams.sources log →
    IsFrom s event log
unfolding ruled
log_from s event inputs log drawn has =
    ⊎_elim
    (λ (stood : WasLive s.streams log).
    let same : log.number ≡ stood.before.number = ap (λ (p : LogRow). p.number) stood.same in
    inl (record { was = stood; drawn = rw same (drawn.sources stood.before stood.stood).below }))
    (λ others.
    ⊎_elim
    (λ (made : IsLogMadeBy (coming_to s event) event log).
    inr (inl (new_before s event 1 log.number (new_log (coming_to s event) event log made))))
    (λ image. inr (inr image)) others)
    ((published_only s event inputs).logs log has)

counter_number : (s : State) (counter : Counter) (stood : StoodBefore s counter) → counter.number ≡ stood.before.number
counter_number s counter stood = ap (λ (c : Counter). c.number) stood.same

log_number : (s : State) (log : LogRow) (stood : WasLive s.streams log) → log.number ≡ stood.before.number
log_number s log stood = ap (λ (p : LogRow). p.number) stood.same

-- ---- a log and the registration that made it

bodies_same : (exclusive other : Bool) (fields others : AddPublication) →
    (if exclusive then PublishesExclusively fields else Publishes fields)
    ≡ (if other then PublishesExclusively others else Publishes others) →
    (exclusive ≡ other) × (fields ≡ others)
bodies_same true true fields others same = (refl, cc same)
bodies_same true false fields others same = absurd (cc same)
bodies_same false true fields others same = absurd (cc same)
bodies_same false false fields others same = (refl, cc same)

abbrev read_by : ℕ → PublicationRequest → Read
read_by handle request =
    record { client = handle; correlation = request.correlation; body = publication_body request }

-- the same bytes ask for the same
wanted_same : (s : State) (handle another : ℕ) (bytes others : List ℕ) (one two : PublicationRequest) → bytes ≡ others →
    AsksToPublish s handle bytes one → AsksToPublish s another others two → wanted_by one ≡ wanted_by two
wanted_same s handle another bytes others one two same first second =
    let read = sym first.asks.command ∙ ap command_of same ∙ second.asks.command in
    let reads : read_by handle one ≡ read_by another two = cc read in
    let bodies : publication_body one ≡ publication_body two = ap (λ (r : Read). r.body) reads in
    let parts = bodies_same one.exclusive two.exclusive one.fields two.fields bodies in
    let exclusive : one.exclusive ≡ two.exclusive = parts.0 in
    let fields : one.fields ≡ two.fields = parts.1 in
    let channels = sym first.denotes_channel ∙ ap (λ (f : AddPublication). denotes f.channel) fields
    ∙ second.denotes_channel in
    let channel : one.channel ≡ two.channel = cc channels in
    rw (channel, fields, exclusive) refl

-- who is registered by the event that makes a log is registered with it
made_together : (s : State) (event : Event) (log : LogRow) (row : Registration) → IsLogMadeBy s event log →
    IsRegisteredBy s event row → row.source ≡ log.number
made_together s event log row made registered =
    let maker = made.registered in
    let bytes : registered.bytes ≡ maker.bytes = cc (registered.event_is, maker.event_is) in
    let wanted = wanted_same s row.client made.registration.client registered.bytes maker.bytes registered.request
    maker.request bytes registered.asks maker.asks in
    let adding = sym registered.adding_is ∙ ap (adding_of s.streams) wanted ∙ maker.adding_is in
    let makes : registered.adding ≡ Make made.session = cc (adding, made.makes) in
    let source : row.source ≡ source_of s registered.adding = ap (λ (r : Registration). r.source) registered.made_is in
    let next : source_of s registered.adding ≡ s.last_number + 1 = ap (source_of s) makes in
    let log_is : log.number ≡ s.last_number + 1 = ap (λ (p : LogRow). p.number) made.made_is in
    source ∙ next ∙ sym log_is

registered_with : (s : State) (event : Event) (inputs : Inputs) (log : LogRow) (row : Registration) → AreDrawn s →
    AreApart s → Contains (state_after s event inputs).streams.sources log →
    Contains (state_after s event inputs).streams.registrations row → log.number ≡ row.number →
    row.source ≡ log.number
unfolding ruled
registered_with s event inputs log row drawn before is_live stands same =
    let at : State = coming_to s event in
    ⊎_elim
    (λ (was : WasLive s.streams log).
    let number = log_number s log was in
    let low = (drawn.sources was.before was.stood).below in
    ⊎_elim
    (λ stood. before.logs_and_registrations was.before row was.stood stood (sym number ∙ same) ∙ sym number)
    (λ (registered : IsRegisteredBy at event row).
    let high = (new_registration at event row registered).next in
    absurd (omega (arith, number, low, high, same)))
    ((published_only s event inputs).registrations row stands))
    (λ others.
    ⊎_elim
    (λ (made : IsLogMadeBy at event log).
    ⊎_elim
    (λ stood.
    let low = (drawn.registrations row stood).below in
    let high = (new_log at event log made).next in
    absurd (omega (arith, low, high, same)))
    (λ (registered : IsRegisteredBy at event row). made_together at event log row made registered)
    ((published_only s event inputs).registrations row stands))
    (λ (image : IsImageMadeBy at event log).
    ⊎_elim
    (λ stood.
    let low = (drawn.registrations row stood).below in
    let high = image_number at event log image in
    absurd (omega (arith, low, high, same)))
    (λ (registered : IsRegisteredBy at event row).
    absurd (draws_none at event log 1 image (new_registration at event row registered).draws))
    ((published_only s event inputs).registrations row stands))
    others)
    ((published_only s event inputs).logs log is_live)

-- ---- every registry

stay_apart : (s : State) (event : Event) (inputs : Inputs) → AreDrawn s → AreApart s →
    AreApart (state_after s event inputs)
stay_apart s event inputs drawn before = record {
  registrations_and_subscriptions = λ row other has stands.
      apart s event 1 2 _ _ row.number other.number (λ same. cc same)
      (λ was stood. before.registrations_and_subscriptions row other was stood)
      (registration_from s event inputs row drawn has) (subscription_from s event inputs other drawn stands);
  registrations_and_counters = λ row other has stands.
      apart s event 1 3 _ _ row.number other.number (λ same. cc same)
      (λ was (stood : StoodBefore s other) same.
      before.registrations_and_counters row stood.before was stood.stood (same ∙ counter_number s other stood))
      (registration_from s event inputs row drawn has) (counter_from s event inputs other drawn stands);
  subscriptions_and_counters = λ row other has stands.
      apart s event 2 3 _ _ row.number other.number (λ same. cc same)
      (λ was (stood : StoodBefore s other) same.
      before.subscriptions_and_counters row stood.before was stood.stood (same ∙ counter_number s other stood))
      (subscription_from s event inputs row drawn has) (counter_from s event inputs other drawn stands);
  logs_and_subscriptions = λ log other has stands.
      log_apart s event log 2 _ other.number (λ same. cc same)
      (λ (was : WasLive s.streams log) stood same.
      before.logs_and_subscriptions was.before other was.stood stood (sym (log_number s log was) ∙ same))
      (log_from s event inputs log drawn has) (subscription_from s event inputs other drawn stands);
  logs_and_counters = λ log other has stands.
      log_apart s event log 3 _ other.number (λ same. cc same)
      (λ (was : WasLive s.streams log) (stood : StoodBefore s other) same.
      before.logs_and_counters was.before stood.before was.stood stood.stood
      (sym (log_number s log was) ∙ same ∙ counter_number s other stood))
      (log_from s event inputs log drawn has) (counter_from s event inputs other drawn stands);
  logs_and_registrations = λ log row has stands same.
      registered_with s event inputs log row drawn before has stands same;
}

opened_apart : (settings : Settings) (policy : Rules) (peers : List Peer) → AreApart (opened settings policy peers)
unfolding opened
opened_apart settings policy peers = record {
  registrations_and_subscriptions = λ row other has. absurd (contains_none row has);
  registrations_and_counters = λ row other has. absurd (contains_none row has);
  subscriptions_and_counters = λ row other has. absurd (contains_none row has);
  logs_and_subscriptions = λ log other has. absurd (contains_none log has);
  logs_and_counters = λ log other has. absurd (contains_none log has);
  logs_and_registrations = λ log row has. absurd (contains_none log has);
}

both_apart : AfterAnyEvents (λ s. AreRising s × AreApart s)
both_apart =
    after_any (λ s. AreRising s × AreApart s)
    (λ settings policy peers. (opened_rises settings policy peers, opened_apart settings policy peers))
    (λ s event inputs both.
    ((event_rises s event inputs both.0).rises, stay_apart s event inputs (are_drawn s both.0) both.1))

pub lists_apart : ListsShareNoNumber
lists_apart settings policy peers events = (both_apart settings policy peers events).1
