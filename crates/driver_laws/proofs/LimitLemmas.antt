-- No event makes a list grow past its limit.
use Rattle.std.proofs.Common.{◌≡◌, ℕ, ◌+◌, ◌<◌, ◌≤◌, max, Bool, true, List, [], ◌∷◌, ◌++◌, length, map, filter, not, Ok, refl, arith}
use Rattle.std.proofs.lemmas.Bool.{and_parts, cond_both, leb-true, ltb-true}
use Rattle.std.proofs.lemmas.List.{length-append, length-map}
use Rattle.std.proofs.lemmas.List.Filters.{length-filter_both}
use Rattle.driver_core.specs.Directing.{directed, recalled, with_destination, without_destination}
use Rattle.driver_core.specs.declared.state.event.Event.{Event}
use Rattle.driver_core.specs.declared.state.event.Event.TheVariants.{Attach, Command, Reload, Setup, Tick}
use Rattle.driver_core.specs.declared.state.event.Inputs.{Inputs}
use Rattle.driver_core.specs.declared.state.outcome.Response.{Response}
use Rattle.driver_core.specs.declared.state.peer.Peer.{Peer}
use Rattle.driver_core.specs.declared.state.refusal.Refusal.{Refusal}
use Rattle.driver_core.specs.declared.state.settings.Settings.{Settings}
use Rattle.driver_core.specs.Attaching.{attach, attached}
use Rattle.driver_core.specs.Closing.{close, keep_alive}
use Rattle.driver_core.specs.Commands.{heard, at_request}
use Rattle.driver_core.specs.Conduct.{coming_to, conduct, drafted, moment_told, state_after, state_of}
use Rattle.driver_core.specs.Counting.{counted, has_room_for_counter, uncounted, valued, with_counter}
use Rattle.driver_core.specs.Draft.{Draft, answered, refused, replied, replied_opening, told}
use Rattle.driver_core.specs.Leaving.{all_left, left}
use Rattle.driver_core.specs.Looking.{IsAtItsMoment}
use Rattle.driver_core.specs.Pairs.{is_within_pairs, prospects_of}
use Rattle.driver_core.specs.Publishing.{has_room_for_publication, published, with_directed_publication, with_publication}
use Rattle.driver_core.specs.Reloading.{has_room_for_policy, in_force, reloaded}
use Rattle.driver_core.specs.Renewal.{renewed}
use Rattle.driver_core.specs.Requests.{RemovalRequest, SubscriptionRequest, wanted_by}
use Rattle.driver_core.specs.State.{State, at_moment, opened, ruled}
use Rattle.driver_core.specs.Subscribing.{has_room_for_subscription, subscribed, with_subscription}
use Rattle.driver_core.specs.Terminating.{stopped_for_good, terminated}
use Rattle.driver_core.specs.Ticking.{closed_past, late, tick, ticked}
use Rattle.driver_core.specs.Unpublishing.{unpublished}
use Rattle.driver_core.specs.Unsubscribing.{unsubscribed}
use Rattle.driver_core.specs.SettingUp.{image_made, setting_of, with_image}
use Rattle.driver_core.specs.Unread.{dropping, without_unread}
use Rattle.driver_laws.specs.Events.{AfterAnyEvents}
use Rattle.driver_laws.specs.LimitLaws.{LimitsAreKept}
use Rattle.driver_laws.specs.OwnerLaws.{HaveTheirClients}
use Rattle.client_registry.specs.declared.client.Client.{Client}
use Rattle.client_registry.specs.Clients.{admitted, has_room, is_other, touched, without}
use Rattle.command_codec.specs.declared.add_counter.AddCounter.{AddCounter}
use Rattle.command_codec.specs.declared.set_counter.SetCounter.{SetCounter}
use Rattle.counters.specs.Counters.{is_another, is_of_another, set, set_one, without as counters_without, without_those_of}
use Rattle.policy_core.specs.declared.decision.Decision.{Decision}
use Rattle.policy_core.specs.RuleList.{Rules}
use Rattle.stream_registry.specs.declared.wanted.Adding.{Adding}
use Rattle.stream_registry.specs.Lingering.{closed}
use Rattle.stream_registry.specs.declared.wanted.Wanted.{Wanted}
use Rattle.stream_registry.specs.Adding.{adding_of}
use Rattle.stream_registry.specs.LimitLaws.{IsWithinLimits as StreamsAreWithin}
use Rattle.stream_registry.specs.Pairs.{prospects_of as prospects_on}
use Rattle.stream_registry.specs.declared.wanted.ImageWanted.{ImageWanted}
use Rattle.log_readers.specs.Unread.{is_kept, without_unread as without_unread_in}
use Rattle.stream_registry.proofs.FewLemmas.{kept_few}
use Rattle.stream_registry.proofs.LimitLemmas.{stays_within_limits}
use Rattle.driver_core.proofs.EventCases.{Cases, command_cases, reload_cases, set_up_cases}
use Rattle.driver_core.proofs.MomentLemmas.{event_timely, opened_timely}
use Rattle.driver_core.proofs.PairLemmas.{principal_heard, prospects_by}
use Rattle.driver_core.proofs.SettingLemmas.{is_set}
use Rattle.driver_laws.proofs.EveryLemmas.{after_any}
use Rattle.driver_laws.proofs.OwnerLemmas.{opened_owned, stay_owned}
use Rattle.driver_laws.proofs.PairCountLemmas.{HasNoMoreProspects, pairs_are_prospects, prospects_attached, prospects_closed, prospects_left, prospects_ruled, prospects_unread, prospects_unregistered, prospects_unsubscribed}
use Rattle.driver_laws.proofs.SourceLemmas.{AreWithin, added_within, closed_within, count_from, imaged_within, kept_within, left_within, subscribed_within, unregistered_within, unsubscribed_within}
use Rattle.driver_laws.proofs.TurningLemmas.{owned_at}

-- ---- the lists

pub record IsWithin (s : State) : Type 0 where
  pub clients : length s.clients.rows ≤ 64
  pub streams : StreamsAreWithin s.streams
  pub counters : length s.counters ≤ 1024
  pub prospects : length (prospects_of s) ≤ 4096
  pub images : AreWithin s.settings.images_per_source s.streams.sources

one_more : {A : Type 0} (rows : List A) (row : A) (limit : ℕ) → length rows < limit → length (rows ++ row ∷ []) ≤ limit
one_more rows row limit few =
    let more : length (rows ++ row ∷ []) ≡ length rows + 1 = length-append rows (row ∷ []) in
    omega (arith, more, few)

fewer : {A : Type 0} (stays : A → Bool) (rows : List A) (limit : ℕ) → length rows ≤ limit →
    length (filter stays rows) ≤ limit
fewer stays rows limit few =
    let both : length (filter stays rows) + length (filter (λ row. not (stays row)) rows) ≡ length rows =
    length-filter_both stays (λ row. not (stays row)) (λ row. refl) rows in
    omega (arith, both, few)

as_many : {A : Type 0} (change : A → A) (rows : List A) (limit : ℕ) → length rows ≤ limit →
    length (map change rows) ≤ limit
as_many change rows limit few =
    let same : length (map change rows) ≡ length rows = length-map rows change in
    omega (arith, same, few)

no_more : (s after : State) → HasNoMoreProspects s after → length (prospects_of s) ≤ 4096 →
    length (prospects_of after) ≤ 4096
no_more s after fewer' few = omega (arith, fewer', few)

within_pairs : (s : State) → is_within_pairs s ≡ true → length (prospects_of s) ≤ 4096
unfolding is_within_pairs
within_pairs s room = leb-true (length (prospects_of s)) 4096 room

-- ---- what changes no row

refusal_within : (s : State) (decisions : List Decision) (client correlation : ℕ) (refusal : Refusal) → IsWithin s →
    IsWithin (refused s decisions client correlation refusal).after
unfolding refused replied told
refusal_within s decisions client correlation refusal within = within

answer_within : (s : State) (response : Response) → IsWithin s → IsWithin (answered s response).after
unfolding answered
answer_within s response within = within

keepalive_within : (s : State) → IsWithin s → IsWithin (keep_alive s).after
unfolding keep_alive told
keepalive_within s within = within

-- ---- what comes

attached_within : (s : State) (principal : ℕ) → HaveTheirClients s → has_room s.clients ≡ true → IsWithin s →
    IsWithin (attached s principal).after
unfolding attached admitted answered
attached_within s principal owned room within = record {
  clients = one_more s.clients.rows _ 64 (ltb-true (length s.clients.rows) 64 (and_parts _ _ room).0);
  streams = within.streams;
  counters = within.counters;
  prospects = no_more s (record s { clients = admitted s.clients principal s.moment }) (prospects_attached s principal owned)
      within.prospects;
  images = within.images;
}

subscription_within : (s : State) (request : SubscriptionRequest) →
    has_room_for_subscription s request.client.number request.channel request.fields.stream ≡ true → IsWithin s →
    IsWithin (subscribed s request.client request.correlation request.channel request.fields.stream).after
unfolding subscribed has_room_for_subscription with_subscription replied told
subscription_within s request room within =
    let parts = and_parts _ _ room in
    let lists = and_parts _ _ parts.0 in
    record {
      clients = within.clients;
      streams = stays_within_limits.subscribed s.streams (s.last_number + 1) request.client.number request.channel
          request.fields.stream within.streams lists.1;
      counters = within.counters;
      prospects = within_pairs (with_subscription s request.client.number request.channel request.fields.stream) parts.1;
      images = subscribed_within s.settings.images_per_source s.streams (s.last_number + 1) request.client.number request.channel
          request.fields.stream within.images;
    }

publication_within : (s : State) (client : Client) (correlation : ℕ) (wanted : Wanted) (adding : Adding) →
    adding_of s.streams wanted ≡ Ok adding → has_room_for_publication s client.number wanted adding ≡ true → IsWithin s →
    IsWithin (published s client correlation wanted adding).after
unfolding published with_directed_publication with_publication replied_opening replied told prospects_of
publication_within s client correlation wanted adding is room within =
    let parts = and_parts _ _ room in
    record {
      clients = within.clients;
      streams = stays_within_limits.added s.streams (s.last_number + 1) client.number _ wanted adding within.streams is;
      counters = within.counters;
      prospects = within_pairs (with_publication s client.number wanted adding) parts.1;
      images = added_within s.settings.images_per_source s.streams (s.last_number + 1) client.number _ wanted adding within.images;
    }

counter_within : (s : State) (client : Client) (correlation : ℕ) (fields : AddCounter) →
    has_room_for_counter s ≡ true → IsWithin s → IsWithin (counted s client correlation fields).after
unfolding counted with_counter replied told prospects_of
counter_within s client correlation fields room within = record {
  clients = within.clients;
  streams = within.streams;
  counters = one_more s.counters _ 1024 (ltb-true (length s.counters) 1024 (and_parts _ _ room).0);
  prospects = within.prospects;
  images = within.images;
}

reloaded_within : (s : State) (policy : Rules) → has_room_for_policy s policy ≡ true → IsWithin s →
    IsWithin (reloaded s policy).after
unfolding reloaded in_force answered
reloaded_within s policy room within = record {
  clients = within.clients;
  streams = within.streams;
  counters = within.counters;
  prospects = within_pairs (in_force s policy) (and_parts _ _ room).0;
  images = within.images;
}

-- ---- what goes, or has another value

value_within : (s : State) (client : Client) (correlation : ℕ) (fields : SetCounter) → IsWithin s →
    IsWithin (valued s client correlation fields).after
unfolding valued replied told set prospects_of
value_within s client correlation fields within = record {
  clients = within.clients;
  streams = within.streams;
  counters = as_many (set_one client.number fields.registration fields.value) s.counters 1024 within.counters;
  prospects = within.prospects;
  images = within.images;
}

destination_within : (s : State) (client : Client) (correlation : ℕ) (granted : _) → IsWithin s →
    IsWithin (directed s client correlation granted).after
unfolding directed with_destination replied told prospects_of
destination_within s client correlation granted within = record {
  clients = within.clients;
  streams = within.streams;
  counters = within.counters;
  prospects = within.prospects;
  images = within.images;
}

destination_removal_within : (s : State) (client : Client) (correlation : ℕ) (target : _) → IsWithin s →
    IsWithin (recalled s client correlation target).after
unfolding recalled without_destination replied told prospects_of
destination_removal_within s client correlation target within = record {
  clients = within.clients;
  streams = within.streams;
  counters = within.counters;
  prospects = within.prospects;
  images = within.images;
}

counter_removal_within : (s : State) (client : Client) (correlation number : ℕ) → IsWithin s →
    IsWithin (uncounted s client correlation number).after
unfolding uncounted told counters_without prospects_of
counter_removal_within s client correlation number within = record {
  clients = within.clients;
  streams = within.streams;
  counters = fewer (is_another client.number number) s.counters 1024 within.counters;
  prospects = within.prospects;
  images = within.images;
}

removal_within : (s : State) (request : RemovalRequest) → IsWithin s →
    IsWithin (unsubscribed s request.client request.correlation request.fields.registration).after
unfolding unsubscribed replied told
removal_within s request within = record {
  clients = within.clients;
  streams = stays_within_limits.unsubscribed s.streams request.client.number request.fields.registration within.streams;
  counters = within.counters;
  prospects = no_more s _ (prospects_unsubscribed s request.client.number request.fields.registration) within.prospects;
  images = unsubscribed_within s.settings.images_per_source s.streams request.client.number request.fields.registration
      within.images;
}

publication_removal_within : (s : State) (client : Client) (correlation number : ℕ) → IsWithin s →
    IsWithin (unpublished s client correlation number).after
unfolding unpublished replied told
publication_removal_within s client correlation number within = record {
  clients = within.clients;
  streams = stays_within_limits.unregistered s.streams client.number number s.moment within.streams;
  counters = within.counters;
  prospects = rw (prospects_unregistered s client.number number s.moment) within.prospects;
  images = unregistered_within s.settings.images_per_source s.streams client.number number s.moment within.images;
}

one_left_within : (s : State) (client : ℕ) → IsWithin s → IsWithin (left s client)
unfolding left without without_those_of
one_left_within s client within = record {
  clients = fewer (is_other client) s.clients.rows 64 within.clients;
  streams = stays_within_limits.left s.streams client s.moment within.streams;
  counters = fewer (is_of_another client) s.counters 1024 within.counters;
  prospects = no_more s (left s client) (prospects_left s client) within.prospects;
  images = left_within s.settings.images_per_source s.streams client s.moment within.images;
}

closing_within : (s : State) (client : Client) (correlation : ℕ) → IsWithin s →
    IsWithin (close s client correlation).after
unfolding close replied told
closing_within s client correlation within = one_left_within s client.number within

all_left_within : (s : State) (clients : List ℕ) → IsWithin s → IsWithin (all_left s clients)
all_left_within s [] within = within
all_left_within s (client ∷ clients) within = all_left_within (left s client) clients (one_left_within s client within)

ticked_within : (s : State) (clients silent : List ℕ) → IsWithin s → IsWithin (ticked s clients silent).after
unfolding ticked closed_past prospects_of
ticked_within s clients silent within = record {
  clients = within.clients;
  streams = stays_within_limits.closed s.streams s.moment silent within.streams;
  counters = within.counters;
  prospects = no_more s (record s { streams = closed s.streams s.moment silent }) (prospects_closed s s.moment silent) within.prospects;
  images = closed_within s.settings.images_per_source s.streams s.moment silent within.images;
}

tick_within : (s : State) (silent : List ℕ) → IsWithin s → IsWithin (tick s silent).after
unfolding tick
tick_within s silent within = ticked_within (all_left s (late s)) (late s) silent (all_left_within s (late s) within)

image_within : (s : State) (wanted : ImageWanted) (place : ℕ) → setting_of s wanted ≡ Ok place → IsWithin s →
    IsWithin (image_made s wanted place).after
unfolding image_made with_image answered
image_within s wanted place set within =
    let parts = and_parts _ _ (is_set s wanted place set).room in
    let rest = and_parts _ _ parts.1 in
    record {
      clients = within.clients;
      streams = stays_within_limits.imaged s.streams (s.last_number + 1) _ wanted within.streams parts.0;
      counters = within.counters;
      prospects = within_pairs (with_image s wanted) (and_parts _ _ rest.1).1;
      images = imaged_within s.settings.images_per_source s.streams (s.last_number + 1) _ wanted
          (ltb-true (count_from wanted.address s.streams.sources) s.settings.images_per_source rest.0) within.images;
    }

unread_within : (s : State) → IsWithin s → IsWithin (without_unread s)
unfolding without_unread without_unread_in
unread_within s within = record {
  clients = within.clients;
  streams = record {
    logs = kept_few (is_kept _) s.streams.sources within.streams.logs;
    registrations = within.streams.registrations;
    subscriptions = within.streams.subscriptions;
  };
  counters = within.counters;
  prospects = no_more s (without_unread s) (prospects_unread s) within.prospects;
  images = kept_within s.settings.images_per_source (is_kept _) s.streams.sources within.images;
}

termination_within : (s : State) (client : Client) (correlation : ℕ) → IsWithin s →
    IsWithin (terminated s client correlation).after
unfolding terminated stopped_for_good prospects_of prospects_on
termination_within s client correlation within = record {
  clients = omega arith;
  streams = stays_within_limits.cleared s.streams within.streams;
  counters = omega arith;
  prospects = omega arith;
  images = λ from. omega arith;
}

-- ---- each event

moment_within : (s : State) (now : ℕ) → IsWithin s → IsWithin (at_moment s now)
unfolding at_moment prospects_of
moment_within s now within = record {
  clients = within.clients;
  streams = within.streams;
  counters = within.counters;
  prospects = within.prospects;
  images = within.images;
}

moment_owned : (s : State) (now : ℕ) → HaveTheirClients s → HaveTheirClients (at_moment s now)
unfolding at_moment
moment_owned s now owned = record {
  registrations = owned.registrations;
  subscriptions = owned.subscriptions;
  counters = owned.counters;
}

prospects_heard : (s : State) (now handle : ℕ) → prospects_of (at_request s now handle) ≡ prospects_of s
unfolding heard at_moment touched
prospects_heard s now handle =
    prospects_by (at_request s now handle) s refl refl refl refl (principal_heard s.clients.rows handle (max s.moment now))

prospects_at_request : (s : State) (now handle : ℕ) → length (prospects_of s) ≤ 4096 →
    length (prospects_of (at_request s now handle)) ≤ 4096
prospects_at_request s now handle few = rw (prospects_heard s now handle) few

request_within : (s : State) (now handle : ℕ) → IsWithin s → IsWithin (at_request s now handle)
unfolding heard at_moment touched
request_within s now handle within = record {
  clients = as_many _ s.clients.rows 64 within.clients;
  streams = within.streams;
  counters = within.counters;
  prospects = prospects_at_request s now handle within.prospects;
  images = within.images;
}

abbrev DraftWithin : Draft → Type 0
DraftWithin draft = IsWithin draft.after

command_within : (s : State) (now handle : ℕ) (bytes : List ℕ) → IsWithin s →
    Cases DraftWithin (at_moment s now) handle bytes
command_within s now handle bytes was_within =
    let at = at_request s now handle in
    let within : IsWithin at = request_within s now handle was_within in
    record {
      unheard = λ correlation refusal plain not_heard.
          refusal_within (at_moment s now) [] handle correlation refusal (moment_within s now was_within);
      refusal = λ decisions client correlation refusal plain was_heard.
          refusal_within at decisions client.number correlation refusal within;
      denial = λ client correlation act channel stream was_heard found asked denies.
          refusal_within at _ client.number correlation _ within;
      subscription = λ request was_heard asks allows room. subscription_within at request room within;
      publication = λ request adding was_heard asks allows is room placed.
          publication_within at request.client request.correlation (wanted_by request) adding is room within;
      publication_removal = λ client correlation fields was_heard asks.
          publication_removal_within at client correlation fields.registration within;
      removal = λ request was_heard asks. removal_within at request within;
      keepalive = λ was_heard. keepalive_within at within;
      destination = λ request number was_heard asks allows manual is.
          destination_within at request.client request.correlation _ within;
      destination_removal = λ client correlation fields target was_heard asks is.
          destination_removal_within at client correlation target within;
      counter = λ client correlation fields was_heard asks allows room.
          counter_within at client correlation fields room within;
      value = λ client correlation fields was_heard asks. value_within at client correlation fields within;
      counter_removal = λ client correlation fields was_heard asks.
          counter_removal_within at client correlation fields.registration within;
      closing = λ client correlation was_heard asks. closing_within at client correlation within;
      termination = λ client correlation fields was_heard asks allows. termination_within at client correlation within;
    }

attach_within : (s : State) (principal : ℕ) → HaveTheirClients s → IsWithin s → IsWithin (attach s principal).after
unfolding attach
attach_within s principal owned within =
    cond_both s.stopped _ _ DraftWithin (λ stopped. answer_within s _ within)
    (λ runs.
    cond_both (has_room s.clients) _ _ DraftWithin (λ room. attached_within s principal owned room within)
    (λ full. answer_within s _ within))

draft_within : (s : State) (event : Event) (inputs : Inputs) → HaveTheirClients s → IsWithin s → IsWithin (drafted s event inputs).after
unfolding drafted
draft_within s (Attach now principal) inputs owned within =
    attach_within (at_moment s now) principal (moment_owned s now owned) (moment_within s now within)
draft_within s (Command now handle bytes) inputs owned within =
    command_cases DraftWithin s now handle bytes inputs (command_within s now handle bytes within)
draft_within s (Reload now policy) inputs owned within =
    let before = at_moment s now in
    let moved : IsWithin before = moment_within s now within in
    reload_cases DraftWithin before policy
    (λ room. reloaded_within before policy room moved)
    (λ full. answer_within before _ moved)
draft_within s (Tick now) inputs owned within =
    tick_within (at_moment s now) inputs.silent (moment_within s now within)
draft_within s (Setup now local from setup) inputs owned within =
    let before = at_moment s now in
    let moved : IsWithin before = moment_within s now within in
    set_up_cases DraftWithin before local from setup (λ fault. answer_within before _ moved)
    (λ join place is set. image_within before _ place set moved)

-- a moment brings none that is not counted already
ruled_within : (s : State) (now : ℕ) → IsAtItsMoment s → IsWithin s → IsWithin (ruled s now)
unfolding ruled
ruled_within s now timely within = record {
  clients = within.clients;
  streams = within.streams;
  counters = within.counters;
  prospects = no_more s (ruled s now) (prospects_ruled s now timely) within.prospects;
  images = within.images;
}

pub event_within : (s : State) (event : Event) (inputs : Inputs) → IsAtItsMoment s → HaveTheirClients s → IsWithin s →
    IsWithin (state_after s event inputs)
unfolding conduct renewed dropping
event_within s event inputs timely owned within =
    let at : State = coming_to s event in
    unread_within (drafted at event inputs).after
    (draft_within at event inputs (owned_at s (moment_told event) owned) (ruled_within s (moment_told event) timely within))

-- ---- every registry

pub opened_within : (settings : Settings) (policy : Rules) (peers : List Peer) → IsWithin (opened settings policy peers)
unfolding opened prospects_of prospects_on
opened_within settings policy peers = record {
  clients = omega arith;
  streams = stays_within_limits.opened _ _;
  counters = omega arith;
  prospects = omega arith;
  images = λ from. omega arith;
}

-- a client that comes makes no pair, since no subscription is of one that is not there
pub all_within : AfterAnyEvents (λ s. IsAtItsMoment s × (HaveTheirClients s × IsWithin s))
all_within =
    after_any (λ s. IsAtItsMoment s × (HaveTheirClients s × IsWithin s))
    (λ settings policy peers.
    (opened_timely settings policy peers, (opened_owned settings policy peers, opened_within settings policy peers)))
    (λ s event inputs all. (
      event_timely s event inputs,
      (stay_owned s event inputs all.1.0, event_within s event inputs all.0 all.1.0 all.1.1),
    ))

pub limits_kept : LimitsAreKept
limits_kept settings policy peers events =
    let within = (all_within settings policy peers events).1.1 in
    let few = within.prospects in
    let fewer' = pairs_are_prospects (state_of (opened settings policy peers) events) in
    record {
      clients = within.clients;
      sources = within.streams.logs;
      registrations = within.streams.registrations;
      subscriptions = within.streams.subscriptions;
      counters = within.counters;
      pairs = omega (arith, few, fewer');
      prospects = few;
      images = within.images;
    }
