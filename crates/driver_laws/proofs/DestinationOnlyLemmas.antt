-- A destination comes only where it is named, or with the log that an event makes for an endpoint.
use Rattle.std.proofs.Common.{◌≡◌, ℕ, ◌+◌, ℤ, Bool, true, false, cond, List, [], ◌∷◌, filter, Option, Some, None, Result, Ok, Err, inl, inr, refl, sym, ap, subst, ◌∙◌, ◌⊎◌, ⊎_elim}
use Rattle.std.specs.List.{Contains}
use Rattle.std.proofs.lemmas.Bool.{and_parts}
use Rattle.std.proofs.lemmas.List.Elements.{Contains-push, Contains-push_cases}
use Rattle.driver_core.specs.declared.state.event.Event.{Event}
use Rattle.driver_core.specs.declared.state.event.Event.TheVariants.{Attach, Command, Reload, Setup, Tick}
use Rattle.driver_core.specs.declared.state.event.Inputs.{Inputs}
use Rattle.driver_core.specs.Attaching.{attached}
use Rattle.driver_core.specs.Closing.{close, keep_alive}
use Rattle.driver_core.specs.Commands.{at_request, heard}
use Rattle.driver_core.specs.Conduct.{coming_to, conduct, drafted, state_after}
use Rattle.driver_core.specs.Counting.{counted, uncounted, valued, with_counter}
use Rattle.driver_core.specs.Deciding.{decision_by}
use Rattle.driver_core.specs.Directing.{address_at, can_direct, destination_decision, directed, directed_by, directed_to, has_room_for_sole, is_taken, own_log, recalled, sole_address, target_of, with_destination, with_sole, without_destination}
use Rattle.driver_core.specs.Draft.{Draft, answered, refused, replied, replied_opening, told}
use Rattle.driver_core.specs.Leaving.{all_left, left}
use Rattle.driver_core.specs.Publishing.{has_place, has_room_for_publication, published, with_directed_publication, with_publication}
use Rattle.driver_core.specs.Reloading.{in_force, reloaded}
use Rattle.driver_core.specs.Renewal.{renewed}
use Rattle.driver_core.specs.Requests.{AsksToDirect, AsksToPublish, DestinationRequest, PublicationRequest, destination_question, wanted_by}
use Rattle.driver_core.specs.SettingUp.{image_made, with_image}
use Rattle.driver_core.specs.State.{State, at_moment, ruled}
use Rattle.driver_core.specs.Subscribing.{subscribed, with_subscription}
use Rattle.driver_core.specs.Terminating.{stopped_for_good, terminated}
use Rattle.driver_core.specs.Ticking.{closed_past, late, tick, ticked}
use Rattle.driver_core.specs.Unpublishing.{unpublished}
use Rattle.driver_core.specs.Unread.{dropping, without_unread}
use Rattle.driver_core.specs.Unsubscribing.{unsubscribed}
use Rattle.driver_core.specs.Verdicts.{verdict_on}
use Rattle.driver_laws.specs.DestinationLaws.{EndpointsAreSentTo, IsAllowed as MayDirect, IsEndpoint, IsNamedBy, IsSoleBy, row_next}
use Rattle.driver_laws.specs.PublishingLaws.{IsAllowed as MayPublish, IsRegisteredBy}
use Rattle.channel_uri.specs.declared.address.Address.{Address}
use Rattle.channel_uri.specs.Address.{address_of}
use Rattle.channel_uri.specs.Channel.{Shape}
use Rattle.channel_uri.specs.Place.{Spot, AtIpc, AtManual, AtControl, AtEndpoint, spot_of}
use Rattle.destinations.specs.declared.destination.Destination.{Destination}
use Rattle.destinations.specs.declared.fault.DestinationFault.{DestinationFault}
use Rattle.destinations.specs.declared.fault.DestinationFault.TheVariants as fault
use Rattle.destinations.specs.Destinations.{DestinationList, added as named, adding as naming, has, has_room, is_of_others, is_other, without as without_named, without_sources}
use Rattle.policy_core.specs.declared.verdict.Verdict.{Verdict}
use Rattle.stream_registry.specs.declared.row.Registration.{Registration}
use Rattle.stream_registry.specs.declared.wanted.Adding.{Adding}
use Rattle.stream_registry.specs.declared.wanted.Adding.TheVariants.{Join, Make}
use Rattle.stream_registry.specs.declared.wanted.Wanted.{Wanted}
use Rattle.stream_registry.specs.Adding.{adding_of}
use Rattle.driver_core.proofs.EventCases.{Cases, attach_cases, command_cases, reload_cases, set_up_cases}
use Rattle.driver_core.proofs.ListLemmas.{contains_none, left_was_there}
use Rattle.driver_core.proofs.VerdictLemmas.{by_policy}
use Rattle.driver_laws.proofs.PublishingLemmas.{adding_is, grants_is, place_is, publication_verdict, room_is}
use Rattle.driver_laws.proofs.PublishingOnlyLemmas.{asks_before, registered_by}
use Rattle.driver_laws.proofs.SubscribingLemmas.{found_number}

-- where the destinations of a registry come from
abbrev AllCome : State → Event → List Destination → Type 0
AllCome s event rows =
    (destination : Destination) → Contains rows destination →
    Contains s.destinations.rows destination ⊎ (IsNamedBy s event destination ⊎ IsSoleBy s event destination)

abbrev Comes : State → Event → Draft → Type 0
Comes s event draft = AllCome s event draft.after.destinations.rows

all_stay : (s : State) (event : Event) → AllCome s event s.destinations.rows
all_stay s event destination has = inl has

-- those that are left were there
some_stay : (s : State) (event : Event) (rows : List Destination) (test : Destination → Bool) → AllCome s event rows →
    AllCome s event (filter test rows)
some_stay s event rows test come destination has = come destination (left_was_there test rows destination has)

-- ---- one that is named

record IsFree (destinations : DestinationList) (source : ℕ) (address : Address) : Type 0 where
  new : has destinations.rows source address ≡ false
  room : has_room destinations source ≡ true

free_parts : (there room : Bool) (next number : ℕ) →
    cond there (Err fault.Conflict) (cond room (Ok next) (Err fault.Full)) ≡ Ok number → (there ≡ false) × (room ≡ true)
free_parts true room next number is = absurd (cc is)
free_parts false true next number is = (refl, refl)
free_parts false false next number is = absurd (cc is)

is_free : (destinations : DestinationList) (source : ℕ) (address : Address) (number : ℕ) →
    naming destinations source address ≡ Ok number → IsFree destinations source address
unfolding naming
is_free destinations source address number is =
    let parts =
    free_parts (has destinations.rows source address) (has_room destinations source) (destinations.last + 1) number is in
    record { new = parts.0; room = parts.1 }

target_before : (s : State) (now handle : ℕ) (bytes : List ℕ) (request : DestinationRequest) →
    AsksToDirect (at_moment s now) handle bytes request → AsksToDirect s handle bytes request
unfolding at_moment target_of own_log
target_before s now handle bytes request asks = record {
  asks = record { command = asks.asks.command; attached = asks.asks.attached };
  denotes_channel = asks.denotes_channel;
  names_target = asks.names_target;
}

verdict_before : (s : State) (now handle : ℕ) (request : DestinationRequest) →
    (destination_decision (at_request s now handle) request.client request.channel request.target).verdict
    ≡ verdict_on s (destination_question request)
unfolding decision_by heard at_moment
verdict_before s now handle request = refl

named_comes : (s : State) (now handle : ℕ) (bytes : List ℕ) (request : DestinationRequest) →
    AsksToDirect s handle bytes request → MayDirect s request → request.target.manual ≡ true →
    IsFree s.destinations request.target.source request.target.address →
    AllCome s (Command now handle bytes)
    (named s.destinations request.target.source request.target.address request.client.principal request.channel).rows
unfolding named
named_comes s now handle bytes request asks allows manual free destination has =
    ⊎_elim (λ before. inl before)
    (λ is.
    inr (inl (record {
      moment = now;
      handle = handle;
      bytes = bytes;
      request = request;
      event_is = refl;
      asks = asks;
      by = by_policy s (destination_question request);
      allowed = allows;
      by_hand = manual;
      new = free.new;
      room = free.room;
      made_is = sym is;
    })))
    (Contains-push_cases s.destinations.rows _ destination has)

-- ---- the one of a log that is made for an endpoint

endpoint_by : (request : PublicationRequest) (spot : Option Spot) (address : Address) → spot_of request.channel ≡ spot →
    address_at spot ≡ Some address → IsEndpoint request address
endpoint_by request (Some (AtEndpoint text)) address is found = record { text = text; spot_is = inl is; address_is = found }
endpoint_by request (Some (AtControl text)) address is found = record { text = text; spot_is = inr is; address_is = found }
endpoint_by request (Some AtIpc) address is found = absurd (cc found)
endpoint_by request (Some AtManual) address is found = absurd (cc found)
endpoint_by request None address is found = absurd (cc found)

sole_comes : (s : State) (event : Event) (registration : Registration) (registered : IsRegisteredBy s event registration)
    (session : ℤ) (address : Address) (found : Result ℕ DestinationFault) → registered.adding ≡ Make session →
    IsEndpoint registered.request address →
    AllCome s event
    (directed_by s.destinations (s.last_number + 1) address registered.request.client.principal registered.request.channel found).rows
unfolding named
sole_comes s event registration registered session address (Ok number) makes endpoint destination has =
    ⊎_elim (λ before. inl before)
    (λ is.
    inr (inr (record {
      registration = registration;
      registered = registered;
      session = session;
      makes = makes;
      address = address;
      endpoint = endpoint;
      made_is = sym is;
    })))
    (Contains-push_cases s.destinations.rows _ destination has)
sole_comes s event registration registered session address (Err why) makes endpoint destination has = inl has

sole_comes_by : (s : State) (event : Event) (registration : Registration) (registered : IsRegisteredBy s event registration)
    (session : ℤ) (address : Option Address) → registered.adding ≡ Make session →
    address_at (spot_of registered.request.channel) ≡ address →
    AllCome s event
    (directed_to s.destinations (s.last_number + 1) registered.request.client.principal registered.request.channel address).rows
sole_comes_by s event registration registered session None makes is = all_stay s event
sole_comes_by s event registration registered session (Some address) makes is =
    sole_comes s event registration registered session address (naming s.destinations (s.last_number + 1) address) makes
    (endpoint_by registered.request (spot_of registered.request.channel) address refl is)

publication_comes_by : (s : State) (event : Event) (registration : Registration)
    (registered : IsRegisteredBy s event registration) (adding : Adding) → registered.adding ≡ adding →
    AllCome s event (with_sole s registered.request.client.principal (wanted_by registered.request) adding).rows
unfolding with_sole sole_address
publication_comes_by s event registration registered (Join source session) is = all_stay s event
publication_comes_by s event registration registered (Make session) is =
    sole_comes_by s event registration registered session (address_at (spot_of registered.request.channel)) is refl

sole_heard : (s : State) (now handle principal : ℕ) (wanted : Wanted) (adding : Adding) →
    with_sole (at_request s now handle) principal wanted adding ≡ with_sole s principal wanted adding
unfolding with_sole heard at_moment
sole_heard s now handle principal wanted (Join source session) = refl
sole_heard s now handle principal wanted (Make session) = refl

publication_comes : (s : State) (now handle : ℕ) (bytes : List ℕ) (request : PublicationRequest) (adding : Adding) →
    AsksToPublish s handle bytes request → MayPublish s request → adding_of s.streams (wanted_by request) ≡ Ok adding →
    has_room_for_publication s request.client.number (wanted_by request) adding ≡ true →
    has_place s (wanted_by request) adding ≡ true →
    AllCome s (Command now handle bytes)
    (with_sole (at_request s now handle) request.client.principal (wanted_by request) adding).rows
unfolding registered_by
publication_comes s now handle bytes request adding asks allows is room placed =
    let own : request.client.number ≡ handle = found_number s.clients.rows handle request.client asks.asks.attached in
    let here : has_room_for_publication s handle (wanted_by request) adding ≡ true =
    subst (λ n. has_room_for_publication s n (wanted_by request) adding ≡ true) own room in
    rw (sole_heard s now handle request.client.principal (wanted_by request) adding)
    (publication_comes_by s (Command now handle bytes) _ (registered_by s now handle bytes request adding asks allows is here placed)
    adding refl)

-- ---- any event

left_come : (s between : State) (event : Event) (clients : List ℕ) → AllCome s event between.destinations.rows →
    AllCome s event (all_left between clients).destinations.rows
unfolding left
left_come s between event [] come = come
left_come s between event (client ∷ clients) come = left_come s (left between client) event clients come

command_comes : (s : State) (now handle : ℕ) (bytes : List ℕ) →
    Cases (Comes s (Command now handle bytes)) (at_moment s now) handle bytes
unfolding at_moment heard refused replied told subscribed with_subscription published with_directed_publication with_publication replied_opening unpublished unsubscribed keep_alive counted with_counter valued uncounted directed with_destination recalled without_destination without_named close left terminated stopped_for_good
command_comes s now handle bytes =
    let event : Event = Command now handle bytes in
    record {
      unheard = λ correlation refusal plain not_heard. all_stay s event;
      refusal = λ decisions client correlation refusal plain was_heard. all_stay s event;
      denial = λ client correlation act channel stream was_heard found asked denies. all_stay s event;
      subscription = λ request was_heard asks allows room. all_stay s event;
      publication = λ request adding was_heard asks allows is room placed.
          publication_comes s now handle bytes request adding (asks_before s now handle bytes request asks)
          (sym (ap (λ (v : Verdict). v.allow) (publication_verdict s now handle request)) ∙ allows)
          (sym (adding_is s now handle (wanted_by request)) ∙ is)
          (sym (room_is s now handle request.client.number (wanted_by request) adding) ∙ room)
          (sym (place_is s now handle (wanted_by request) adding) ∙ placed);
      publication_removal = λ client correlation fields was_heard asks. all_stay s event;
      removal = λ request was_heard asks. all_stay s event;
      keepalive = λ was_heard. all_stay s event;
      destination = λ request number was_heard asks allows manual is.
          named_comes s now handle bytes request (target_before s now handle bytes request asks)
          (sym (ap (λ (v : Verdict). v.allow) (verdict_before s now handle request)) ∙ allows) manual
          (is_free s.destinations request.target.source request.target.address number is);
      destination_removal = λ client correlation fields target was_heard asks is.
          some_stay s event s.destinations.rows (is_other target.source target.address) (all_stay s event);
      counter = λ client correlation fields was_heard asks allows room. all_stay s event;
      value = λ client correlation fields was_heard asks. all_stay s event;
      counter_removal = λ client correlation fields was_heard asks. all_stay s event;
      closing = λ client correlation was_heard asks. all_stay s event;
      termination = λ client correlation fields was_heard asks allows row has. absurd (contains_none row has);
    }

ticked_comes : (s between : State) (event : Event) (clients silent : List ℕ) → AllCome s event between.destinations.rows →
    Comes s event (ticked between clients silent)
unfolding ticked closed_past without_sources
ticked_comes s between event clients silent come =
    some_stay s event between.destinations.rows (is_of_others _) come

draft_comes : (s : State) (event : Event) (inputs : Inputs) → Comes s event (drafted s event inputs)
unfolding drafted at_moment answered attached reloaded in_force tick image_made with_image
draft_comes s (Attach now principal) inputs =
    let event : Event = Attach now principal in
    attach_cases (Comes s event) (at_moment s now) principal (all_stay s event) (all_stay s event) (all_stay s event)
draft_comes s (Command now handle bytes) inputs =
    command_cases (Comes s (Command now handle bytes)) s now handle bytes inputs (command_comes s now handle bytes)
draft_comes s (Reload now policy) inputs =
    let event : Event = Reload now policy in
    reload_cases (Comes s event) (at_moment s now) policy (λ room. all_stay s event) (λ full. all_stay s event)
draft_comes s (Tick now) inputs =
    ticked_comes s (all_left (at_moment s now) (late (at_moment s now))) (Tick now) (late (at_moment s now)) inputs.silent
    (left_come s (at_moment s now) (Tick now) (late (at_moment s now)) (all_stay s (Tick now)))
draft_comes s (Setup now local from setup) inputs =
    let event : Event = Setup now local from setup in
    set_up_cases (Comes s event) (at_moment s now) local from setup (λ fault. all_stay s event)
    (λ join place is set. all_stay s event)

pub destinations_come : (s : State) (event : Event) (inputs : Inputs) (destination : Destination) →
    Contains (state_after s event inputs).destinations.rows destination →
    Contains s.destinations.rows destination
    ⊎ (IsNamedBy (coming_to s event) event destination ⊎ IsSoleBy (coming_to s event) event destination)
unfolding conduct renewed dropping without_unread ruled
destinations_come s event inputs = draft_comes (coming_to s event) event inputs

-- ---- a log that is made for an endpoint has its destination

taken_names : (destinations : DestinationList) (source principal : ℕ) (address : Address) (channel : Shape)
    (found : Result ℕ DestinationFault) → is_taken found ≡ true →
    Contains (directed_by destinations source address principal channel found).rows
    (record { number = destinations.last + 1; source = source; address = address; principal = principal; channel = channel })
unfolding named
taken_names destinations source principal address channel (Ok number) is = Contains-push destinations.rows _
taken_names destinations source principal address channel (Err why) is = absurd (cc is)

sole_is_named : (s : State) (principal client : ℕ) (wanted : Wanted) (session : ℤ) (text : List ℕ) (address : Address) →
    (spot_of wanted.channel ≡ Some (AtEndpoint text)) ⊎ (spot_of wanted.channel ≡ Some (AtControl text)) → address_of text ≡ Some address →
    has_room_for_publication s client wanted (Make session) ≡ true →
    Contains (with_sole s principal wanted (Make session)).rows
    (row_next s (s.last_number + 1) address principal wanted.channel)
unfolding with_sole sole_address has_room_for_sole
sole_is_named s principal client wanted session text address is found room =
    let sole : address_at (spot_of wanted.channel) ≡ Some address =
    ⊎_elim (λ endpoint. ap address_at endpoint ∙ found) (λ control. ap address_at control ∙ found) is in
    let parts = and_parts _ _ room in
    let first = and_parts _ _ parts.0 in
    let taken : is_taken (naming s.destinations (s.last_number + 1) address) ≡ true =
    subst (λ (a : Option Address). can_direct s.destinations (s.last_number + 1) a ≡ true) sole first.1 in
    subst
    (λ (a : Option Address).
    Contains (directed_to s.destinations (s.last_number + 1) principal wanted.channel a).rows
    (row_next s (s.last_number + 1) address principal wanted.channel))
    (sym sole)
    (taken_names s.destinations (s.last_number + 1) principal address wanted.channel (naming s.destinations (s.last_number + 1) address) taken)

-- what the event's own rule makes of a registry to which it comes
endpoint_in_draft : (s : State) (event : Event) (inputs : Inputs) (registration : Registration)
    (registered : IsRegisteredBy s event registration) (session : ℤ) (address : Address) →
    registered.adding ≡ Make session → IsEndpoint registered.request address →
    Contains (drafted s event inputs).after.destinations.rows
    (row_next s (s.last_number + 1) address registered.request.client.principal registered.request.channel)
unfolding published with_directed_publication replied_opening replied told
endpoint_in_draft s event inputs registration registered session address makes endpoint =
    let now : ℕ = registered.moment in
    let handle : ℕ = registration.client in
    let request : PublicationRequest = registered.request in
    let draft : drafted s event inputs
    ≡ published (at_request s now handle) request.client request.correlation (wanted_by request) registered.adding =
    ap (λ (e : Event). drafted s e inputs) registered.event_is
    ∙ grants_is s now handle registered.bytes inputs request registered.adding registered.asks registered.allowed
    registered.adding_is registered.room registered.placed in
    let named' : (drafted s event inputs).after.destinations
    ≡ with_sole s request.client.principal (wanted_by request) (Make session) =
    ap (λ (d : Draft). d.after.destinations) draft
    ∙ ap (with_sole (at_request s now handle) request.client.principal (wanted_by request)) makes
    ∙ sole_heard s now handle request.client.principal (wanted_by request) (Make session) in
    let room : has_room_for_publication s handle (wanted_by request) (Make session) ≡ true =
    subst (λ (a : Adding). has_room_for_publication s handle (wanted_by request) a ≡ true) makes registered.room in
    subst
    (λ (d : DestinationList).
    Contains d.rows (row_next s (s.last_number + 1) address request.client.principal request.channel))
    (sym named')
    (sole_is_named s request.client.principal handle (wanted_by request) session endpoint.text address endpoint.spot_is
    endpoint.address_is room)

endpoint_is_named : (s : State) (event : Event) (inputs : Inputs) (registration : Registration)
    (registered : IsRegisteredBy (coming_to s event) event registration) (session : ℤ) (address : Address) →
    registered.adding ≡ Make session → IsEndpoint registered.request address →
    Contains (state_after s event inputs).destinations.rows
    (row_next s (s.last_number + 1) address registered.request.client.principal registered.request.channel)
unfolding conduct renewed dropping without_unread ruled
endpoint_is_named s event inputs registration registered session address makes endpoint =
    endpoint_in_draft (coming_to s event) event inputs registration registered session address makes endpoint

pub endpoints_sent : EndpointsAreSentTo
endpoints_sent settings policy peers events = endpoint_is_named _
