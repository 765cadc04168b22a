-- Each event keeps the logs sound, and opens and closes exactly those by which the lists change.
use Rattle.std.proofs.Common.{◌≡◌, ℕ, ◌+◌, ◌<◌, ◌≤◌, ℤ, Bool, true, not, ◌&&◌, List, [], ◌∷◌, ◌++◌, length, map, filter, Option, Some, None, Ok, is_some, refl, sym, ap, ap₂, ◌∙◌, arith}
use Rattle.std.specs.Prelude.{unwrap_or}
use Rattle.std.specs.List.{AllByRecursion}
use Rattle.std.proofs.lemmas.List.{append-nil, length-append, map-append}
use Rattle.std.proofs.lemmas.List.Elements.{All-filter, All-nil, All-push}
use Rattle.std.proofs.lemmas.List.Filters.{length-filter_both}
use Rattle.std.proofs.lemmas.Bool.{ltb-true, and_parts}
use Rattle.driver_core.specs.Change.{Change}
use Rattle.driver_core.specs.Draft.{Draft}
use Rattle.driver_core.specs.declared.state.event.Event.{Event}
use Rattle.driver_core.specs.declared.state.event.Event.TheVariants.{Attach, Command, Reload, Setup, Tick}
use Rattle.driver_core.specs.declared.state.event.Inputs.{Inputs}
use Rattle.driver_core.specs.declared.state.outcome.Response.{Response}
use Rattle.driver_core.specs.declared.state.peer.Peer.{Peer}
use Rattle.driver_core.specs.declared.state.refusal.Refusal.{Refusal}
use Rattle.driver_core.specs.declared.state.settings.Settings.{Settings}
use Rattle.driver_core.specs.Attaching.{attached}
use Rattle.driver_core.specs.Closing.{keep_alive, close}
use Rattle.driver_core.specs.Commands.{heard, at_request}
use Rattle.driver_core.specs.Conduct.{conduct, drafted, state_after, state_of, coming_to, moment_told}
use Rattle.driver_core.specs.Directing.{directed, recalled, with_destination, without_destination}
use Rattle.driver_core.specs.declared.rules.directing.Directed.{Directed}
use Rattle.driver_core.specs.declared.rules.directing.Target.{Target}
use Rattle.destinations.specs.Destinations.{DestinationList}
use Rattle.driver_core.specs.Counting.{counted, with_counter, valued, uncounted}
use Rattle.driver_core.specs.Draft.{answered, told, replied, replied_opening, refused}
use Rattle.driver_core.specs.Leaving.{left, all_left}
use Rattle.driver_core.specs.Pairs.{pairs_of}
use Rattle.driver_core.specs.Publishing.{has_place, opening_of, place_of_new, published, with_directed_publication, with_publication}
use Rattle.driver_core.specs.Reloading.{in_force, reloaded}
use Rattle.driver_core.specs.Renewal.{renewed}
use Rattle.driver_core.specs.Requests.{RemovalRequest, SubscriptionRequest, wanted_by}
use Rattle.driver_core.specs.SettingUp.{image_made, new_image, place_of_image, setting_of, wanted_by as image_wanted_by, with_image}
use Rattle.driver_core.specs.Soundness.{AreSettings, AreSizes, BeginsSoundly, IsSound, MovesLogs, Opens, log_of}
use Rattle.driver_core.specs.State.{State, at_moment, has_number, opened, ruled}
use Rattle.driver_core.specs.Subscribing.{has_room_for_subscription, subscribed, with_subscription}
use Rattle.driver_core.specs.Terminating.{stopped_for_good, terminated}
use Rattle.driver_core.specs.Ticking.{closed_past, late, tick, ticked}
use Rattle.driver_core.specs.Unpublishing.{unpublished}
use Rattle.driver_core.specs.Unread.{closed_from, dropping, is_closed, without_unread}
use Rattle.driver_core.specs.Unsubscribing.{unsubscribed}
use Rattle.channel_uri.specs.declared.address.Address.{Address}
use Rattle.channel_uri.specs.Channel.{Shape}
use Rattle.client_registry.specs.declared.client.Client.{Client}
use Rattle.command_codec.specs.declared.add_counter.AddCounter.{AddCounter}
use Rattle.command_codec.specs.declared.set_counter.SetCounter.{SetCounter}
use Rattle.frame_codec.specs.declared.join.Join.{Join as JoinedAt}
use Rattle.frame_codec.specs.declared.setup.Setup.{Setup as SetupFrame}
use Rattle.frame_codec.specs.Join.{join_of}
use Rattle.frame_codec.proofs.JoinLemmas.{joins_are_sound}
use Rattle.log_readers.specs.Unread.{is_kept, is_left, without_unread as without_unread_in}
use Rattle.policy_core.specs.declared.decision.Decision.{Decision}
use Rattle.policy_core.specs.RuleList.{Rules}
use Rattle.stream_registry.specs.declared.lingering.LogPlace.{LogPlace}
use Rattle.stream_registry.specs.declared.pairs.Pair.{Pair}
use Rattle.stream_registry.specs.declared.row.LogRow.{LogRow}
use Rattle.stream_registry.specs.declared.wanted.Adding.{Adding}
use Rattle.stream_registry.specs.declared.wanted.Adding.TheVariants.{Join, Make}
use Rattle.stream_registry.specs.declared.wanted.ImageWanted.{ImageWanted}
use Rattle.stream_registry.specs.declared.wanted.Wanted.{Wanted}
use Rattle.stream_registry.specs.Adding.{added, has_room_for_subscription as has_room_in, log_of as made_log, subscribed as subscribed_in}
use Rattle.stream_registry.specs.Leaving.{is_another_subscription, is_subscription_of_another, left as left_in, unregistered, unsubscribed as unsubscribed_in}
use Rattle.stream_registry.specs.Lingering.{closed, closing_of, is_closing, place_of, settled, stays_live}
use Rattle.stream_registry.specs.LogPages.{log_pages}
use Rattle.stream_registry.specs.PageLaws.{IsLaidOut}
use Rattle.stream_registry.specs.Pairs.{pairs_of as pairs_on}
use Rattle.stream_registry.specs.Streams.{Streams}
use Rattle.stream_registry.proofs.PageLawLemmas.{all_least, kept_laid_out, share_nothing}
use Rattle.driver_core.proofs.EventCases.{Cases, attach_cases, command_cases, reload_cases, set_up_cases}
use Rattle.driver_core.proofs.LogListLemmas.{all_kept, ascend_push, ascend_up_to, closed_logs, kept_ascend, none_kept, same_logs_ascend, same_logs_begins, same_logs_sizes, settled_logs}
use Rattle.driver_core.proofs.SettingLemmas.{image_is_kept, place_is_set}
use Rattle.driver_core.proofs.SizeLemmas.{sizes_of_made}
use Rattle.driver_core.proofs.UnreadLemmas.{closed_left, filter_joined, fresh_left, kept_as_logs}

-- what the draft leaves is sound, and its logs are those before it but for the ones that close, and the one that opens
record Moves (s : State) (draft : Draft) : Type 0 where
  sound : IsSound draft.after
  settings : draft.after.settings ≡ s.settings
  opened : List LogRow
  opens : Opens s draft.opens opened
  read : filter (is_kept (pairs_of draft.after)) opened ≡ opened
  fresh : AllByRecursion (λ log. s.last_number < log.number) opened
  stays : filter (is_left draft.closes) opened ≡ opened
  logs :
      map log_of draft.after.streams.sources
      ≡ filter (is_left draft.closes) (map log_of s.streams.sources) ++ opened

-- ---- what keeps the logs, but for whether they linger

record Keeps (s after : State) : Type 0 where
  settings : after.settings ≡ s.settings
  defaults : after.streams.defaults ≡ s.streams.defaults
  logs : map log_of after.streams.sources ≡ map log_of s.streams.sources
  numbers : s.last_number ≤ after.last_number
  laid_out : IsLaidOut s.settings.arena_pages after.streams
  subscriptions : length after.streams.subscriptions ≤ 512

keeps_sound : (s after : State) → IsSound s → Keeps s after → IsSound after
keeps_sound s after sound keeps = record {
  defaults = rw keeps.defaults sound.defaults;
  sizes = same_logs_sizes s.streams.sources after.streams.sources keeps.logs sound.sizes;
  numbered = ascend_up_to 0 s.last_number after.last_number after.streams.sources keeps.numbers
      (same_logs_ascend 0 s.last_number s.streams.sources after.streams.sources keeps.logs sound.numbered);
  begins = same_logs_begins s.streams.sources after.streams.sources keeps.logs sound.begins;
  laid_out = rw keeps.settings keeps.laid_out;
  subscriptions = keeps.subscriptions;
}

keeps_moves : (s : State) (draft : Draft) → IsSound s → Keeps s draft.after → draft.opens ≡ None → draft.closes ≡ [] →
    Moves s draft
keeps_moves s draft sound keeps opens closes =
    let before : List LogRow = map log_of s.streams.sources in
    record {
      sound = keeps_sound s draft.after sound keeps;
      settings = keeps.settings;
      opened = [];
      opens = rw opens refl;
      read = refl;
      fresh = tt;
      stays = refl;
      logs = rw (closes, all_kept before, append-nil before) keeps.logs;
    }

-- what leaves the streams as they are
same_streams : (s after : State) → IsSound s → after.settings ≡ s.settings → after.streams ≡ s.streams →
    s.last_number ≤ after.last_number → Keeps s after
same_streams s after sound settings streams numbers = record {
  settings = settings;
  defaults = ap (λ (t : Streams). t.defaults) streams;
  logs = ap (λ (t : Streams). map log_of t.sources) streams;
  numbers = numbers;
  laid_out = rw streams sound.laid_out;
  subscriptions = rw streams sound.subscriptions;
}

-- ---- commands that leave the streams as they are

refusal_moves : (s : State) (decisions : List Decision) (client correlation : ℕ) (refusal : Refusal) → IsSound s →
    Moves s (refused s decisions client correlation refusal)
unfolding refused replied told
refusal_moves s decisions client correlation refusal sound =
    keeps_moves s _ sound (same_streams s s sound refl refl (omega arith)) refl refl

answer_moves : (s : State) (response : Response) → IsSound s → Moves s (answered s response)
unfolding answered
answer_moves s response sound = keeps_moves s _ sound (same_streams s s sound refl refl (omega arith)) refl refl

attached_moves : (s : State) (principal : ℕ) → IsSound s → Moves s (attached s principal)
unfolding attached answered
attached_moves s principal sound =
    keeps_moves s _ sound (same_streams s _ sound refl refl (omega arith)) refl refl

reloaded_moves : (s : State) (policy : Rules) → IsSound s → Moves s (reloaded s policy)
unfolding reloaded in_force answered
reloaded_moves s policy sound = keeps_moves s _ sound (same_streams s _ sound refl refl (omega arith)) refl refl

keepalive_moves : (s : State) → IsSound s → Moves s (keep_alive s)
unfolding keep_alive told
keepalive_moves s sound = keeps_moves s _ sound (same_streams s s sound refl refl (omega arith)) refl refl

counter_moves : (s : State) (client : Client) (correlation : ℕ) (fields : AddCounter) → IsSound s →
    Moves s (counted s client correlation fields)
unfolding counted with_counter replied told
counter_moves s client correlation fields sound =
    keeps_moves s _ sound (same_streams s _ sound refl refl (omega arith)) refl refl

value_moves : (s : State) (client : Client) (correlation : ℕ) (fields : SetCounter) → IsSound s →
    Moves s (valued s client correlation fields)
unfolding valued replied told
value_moves s client correlation fields sound =
    keeps_moves s _ sound (same_streams s _ sound refl refl (omega arith)) refl refl

counter_removal_moves : (s : State) (client : Client) (correlation number : ℕ) → IsSound s →
    Moves s (uncounted s client correlation number)
unfolding uncounted told
counter_removal_moves s client correlation number sound =
    keeps_moves s _ sound (same_streams s _ sound refl refl (omega arith)) refl refl

destination_moves : (s : State) (client : Client) (correlation : ℕ) (granted : Directed) → IsSound s →
    Moves s (directed s client correlation granted)
unfolding directed with_destination replied told
destination_moves s client correlation granted sound =
    keeps_moves s _ sound (same_streams s _ sound refl refl (omega arith)) refl refl

destination_removal_moves : (s : State) (client : Client) (correlation : ℕ) (target : Target) → IsSound s →
    Moves s (recalled s client correlation target)
unfolding recalled without_destination replied told
destination_removal_moves s client correlation target sound =
    keeps_moves s _ sound (same_streams s _ sound refl refl (omega arith)) refl refl

-- ---- subscriptions

one_more : {A : Type 0} (rows : List A) (row : A) (limit : ℕ) → length rows < limit → length (rows ++ row ∷ []) ≤ limit
one_more rows row limit few =
    let more : length (rows ++ row ∷ []) ≡ length rows + 1 = length-append rows (row ∷ []) in
    omega (arith, more, few)

fewer : {A : Type 0} (stays : A → Bool) (rows : List A) (limit : ℕ) → length rows ≤ limit →
    length (filter stays rows) ≤ limit
fewer stays rows limit few =
    let both : length (filter stays rows) + length (filter (λ row. not (stays row)) rows) ≡ length rows =
    length-filter_both stays (λ row. not (stays row)) (λ row. refl) rows in
    omega (arith, both, few)

room_is : (s : State) (client : ℕ) (channel : Shape) (stream : ℤ) →
    has_room_for_subscription s client channel stream ≡ true →
    length s.streams.subscriptions < 512
unfolding has_room_for_subscription
room_is s client channel stream room =
    let both = and_parts (has_number s && has_room_in s.streams) _ room in
    ltb-true (length s.streams.subscriptions) 512 (and_parts (has_number s) (has_room_in s.streams) both.0).1

subscription_moves : (s : State) (request : SubscriptionRequest) → IsSound s →
    has_room_for_subscription s request.client.number request.channel request.fields.stream ≡ true →
    Moves s (subscribed s request.client request.correlation request.channel request.fields.stream)
unfolding subscribed with_subscription subscribed_in replied told
subscription_moves s request sound room =
    keeps_moves s _ sound (record {
      settings = refl;
      defaults = refl;
      logs = refl;
      numbers = omega arith;
      laid_out = (share_nothing s.settings.arena_pages).subscribed s.streams (s.last_number + 1) request.client.number
          request.channel request.fields.stream sound.laid_out;
      subscriptions = one_more s.streams.subscriptions _ 512
          (room_is s request.client.number request.channel request.fields.stream room);
    }) refl refl

removal_moves : (s : State) (request : RemovalRequest) → IsSound s →
    Moves s (unsubscribed s request.client request.correlation request.fields.registration)
unfolding unsubscribed unsubscribed_in replied told
removal_moves s request sound =
    let client = request.client.number in
    let number = request.fields.registration in
    keeps_moves s _ sound (record {
      settings = refl;
      defaults = refl;
      logs = refl;
      numbers = omega arith;
      laid_out = (share_nothing s.settings.arena_pages).unsubscribed s.streams client number sound.laid_out;
      subscriptions = fewer (is_another_subscription client number) s.streams.subscriptions 512 sound.subscriptions;
    }) refl refl

-- ---- registrations that go

publication_removal_moves : (s : State) (client : Client) (correlation number : ℕ) → IsSound s →
    Moves s (unpublished s client correlation number)
unfolding unpublished unregistered settled replied told
publication_removal_moves s client correlation number sound =
    keeps_moves s _ sound (record {
      settings = refl;
      defaults = refl;
      logs = settled_logs _ s.moment s.streams.sources;
      numbers = omega arith;
      laid_out = (share_nothing s.settings.arena_pages).unregistered s.streams client.number number s.moment
          sound.laid_out;
      subscriptions = sound.subscriptions;
    }) refl refl

one_left_keeps : (s : State) (client : ℕ) → IsSound s → Keeps s (left s client)
unfolding left left_in settled
one_left_keeps s client sound = record {
  settings = refl;
  defaults = refl;
  logs = settled_logs _ s.moment s.streams.sources;
  numbers = omega arith;
  laid_out = (share_nothing s.settings.arena_pages).left s.streams client s.moment sound.laid_out;
  subscriptions = fewer (is_subscription_of_another client) s.streams.subscriptions 512 sound.subscriptions;
}

closing_moves : (s : State) (client : Client) (correlation : ℕ) → IsSound s → Moves s (close s client correlation)
unfolding close replied told
closing_moves s client correlation sound =
    keeps_moves s _ sound (one_left_keeps s client.number sound) refl refl

both_keep : (s between after : State) → Keeps s between → Keeps between after → Keeps s after
both_keep s between after first second = record {
  settings = second.settings ∙ first.settings;
  defaults = second.defaults ∙ first.defaults;
  logs = second.logs ∙ first.logs;
  numbers = let low = first.numbers in let high = second.numbers in omega (arith, low, high);
  laid_out = rw (← first.settings) second.laid_out;
  subscriptions = second.subscriptions;
}

left_keep : (s : State) (clients : List ℕ) → IsSound s → Keeps s (all_left s clients)
left_keep s [] sound = same_streams s s sound refl refl (omega arith)
left_keep s (client ∷ clients) sound =
    let first = one_left_keeps s client sound in
    both_keep s (left s client) (all_left (left s client) clients) first
    (left_keep (left s client) clients (keeps_sound s (left s client) sound first))

-- ---- a publication that comes

joined_keeps : (s : State) (client : ℕ) (wanted : Wanted) (source : ℕ) (session : ℤ) → IsSound s →
    Keeps s (with_publication s client wanted (Join source session))
unfolding with_publication
joined_keeps s client wanted source session sound = record {
  settings = refl;
  defaults = refl;
  logs = refl;
  numbers = omega arith;
  laid_out = (share_nothing s.settings.arena_pages).joined s.streams (s.last_number + 1) client 0 source wanted session
      sound.laid_out;
  subscriptions = sound.subscriptions;
}

found_place : (place : Option ℕ) → is_some place ≡ true → place ≡ Some (unwrap_or place 0)
found_place None is = absurd (cc)
found_place (Some place) is = refl

added_sound : (s : State) (client : ℕ) (wanted : Wanted) (session : ℤ) (place : ℕ) → IsSound s →
    place_of_new s wanted ≡ Some place →
    IsSound (record s {
      streams = added s.streams (s.last_number + 1) client wanted place (Make session);
      last_number = s.last_number + 1;
    })
added_sound s client wanted session place sound found =
    let log : LogRow = made_log s.streams (s.last_number + 1) wanted place session in
    record {
      defaults = sound.defaults;
      sizes = All-push (λ (one : LogRow). AreSizes one.measures) s.streams.sources log sound.sizes
          (sizes_of_made s.streams.defaults wanted.channel sound.defaults);
      numbered = ascend_push 0 s.last_number (s.last_number + 1) s.streams.sources log sound.numbered
          (omega arith) (omega arith);
      begins = All-push BeginsSoundly s.streams.sources log sound.begins tt;
      laid_out = (share_nothing s.settings.arena_pages).made s.streams (s.last_number + 1) client place wanted session
          sound.laid_out found;
      subscriptions = sound.subscriptions;
    }

-- where publications are directed is nothing to the logs
directed_sound : (s : State) (destinations : DestinationList) → IsSound s →
    IsSound (record s { destinations = destinations })
directed_sound s destinations sound = record {
  defaults = sound.defaults;
  sizes = sound.sizes;
  numbered = sound.numbered;
  begins = sound.begins;
  laid_out = sound.laid_out;
  subscriptions = sound.subscriptions;
}

directed_keeps : (s after : State) (destinations : DestinationList) → Keeps s after →
    Keeps s (record after { destinations = destinations })
directed_keeps s after destinations keeps = record {
  settings = keeps.settings;
  defaults = keeps.defaults;
  logs = keeps.logs;
  numbers = keeps.numbers;
  laid_out = keeps.laid_out;
  subscriptions = keeps.subscriptions;
}

-- the log that is made, at the place for it
abbrev log_made : State → Wanted → ℤ → LogRow
log_made s wanted session =
    made_log s.streams (s.last_number + 1) wanted (unwrap_or (place_of_new s wanted) 0) session

made_sound : (s : State) (client : ℕ) (wanted : Wanted) (session : ℤ) → IsSound s →
    place_of_new s wanted ≡ Some (unwrap_or (place_of_new s wanted) 0) →
    IsSound (with_publication s client wanted (Make session))
unfolding with_publication
made_sound s client wanted session sound found =
    added_sound s client wanted session (unwrap_or (place_of_new s wanted) 0) sound found

made_settings : (s : State) (client : ℕ) (wanted : Wanted) (session : ℤ) →
    (with_publication s client wanted (Make session)).settings ≡ s.settings
unfolding with_publication
made_settings s client wanted session = refl

made_logs : (s : State) (client : ℕ) (wanted : Wanted) (session : ℤ) →
    map log_of (with_publication s client wanted (Make session)).streams.sources
    ≡ map log_of s.streams.sources ++ log_made s wanted session ∷ []
unfolding with_publication
made_logs s client wanted session = map-append log_of s.streams.sources (log_made s wanted session ∷ [])

publication_moves : (s : State) (client : Client) (correlation : ℕ) (wanted : Wanted) (adding : Adding) → IsSound s →
    has_place s wanted adding ≡ true → Moves s (published s client correlation wanted adding)
unfolding published with_directed_publication replied_opening replied told has_place opening_of
publication_moves s client correlation wanted (Join source session) sound placed =
    keeps_moves s _ sound
    (directed_keeps s (with_publication s client.number wanted (Join source session)) _
    (joined_keeps s client.number wanted source session sound)) refl refl
publication_moves s client correlation wanted (Make session) sound placed =
    let place : ℕ = unwrap_or (place_of_new s wanted) 0 in
    let found : place_of_new s wanted ≡ Some place = found_place (place_of_new s wanted) placed in
    let log : LogRow = log_made s wanted session in
    record {
      sound = directed_sound (with_publication s client.number wanted (Make session)) _
          (made_sound s client.number wanted session sound found);
      settings = made_settings s client.number wanted session;
      opened = log ∷ [];
      opens = (
        log,
        refl,
        refl,
        refl,
        all_least.vacant s.streams s.settings.arena_pages (log_pages log) place found,
        λ lower below. all_least.least s.streams s.settings.arena_pages (log_pages log) place lower found below,
      );
      read = refl;
      fresh = (omega arith, tt);
      stays = refl;
      logs = rw (all_kept (map log_of s.streams.sources)) (made_logs s client.number wanted session);
    }

-- ---- an image that comes

-- it is read, so that it stays
image_read : (s : State) (wanted : ImageWanted) (place : ℕ) → setting_of s wanted ≡ Ok place →
    filter (is_kept (pairs_of (with_image s wanted))) (new_image s wanted ∷ []) ≡ new_image s wanted ∷ []
image_read s wanted place set = rw (image_is_kept s wanted place set) refl

image_settings : (s : State) (wanted : ImageWanted) → (with_image s wanted).settings ≡ s.settings
unfolding with_image
image_settings s wanted = refl

image_logs : (s : State) (wanted : ImageWanted) →
    map log_of (with_image s wanted).streams.sources ≡ map log_of s.streams.sources ++ new_image s wanted ∷ []
unfolding with_image
image_logs s wanted = map-append log_of s.streams.sources (new_image s wanted ∷ [])

image_sound : (s : State) (local from : Address) (setup : SetupFrame) (join : JoinedAt) → IsSound s → join_of setup ≡ Some join →
    place_of_image s (image_wanted_by local from setup join) ≡ Some (unwrap_or (place_of_image s (image_wanted_by local from setup join)) 0) →
    IsSound (with_image s (image_wanted_by local from setup join))
unfolding with_image
image_sound s local from setup join sound is found =
    let wanted : ImageWanted = image_wanted_by local from setup join in
    let joins = joins_are_sound setup join is in
    record {
      defaults = sound.defaults;
      sizes = All-push (λ (one : LogRow). AreSizes one.measures) s.streams.sources (new_image s wanted) sound.sizes
          (record {
            term_low = joins.term_low;
            term_high = joins.term_high;
            term_whole = joins.term_whole;
            mtu_low = joins.mtu_low;
            mtu_high = joins.mtu_high;
            mtu_aligned = joins.mtu_aligned;
          });
      numbered = ascend_push 0 s.last_number (s.last_number + 1) s.streams.sources (new_image s wanted) sound.numbered
          (omega arith) (omega arith);
      begins = All-push BeginsSoundly s.streams.sources (new_image s wanted) sound.begins (joins.aligned, joins.below);
      laid_out = (share_nothing s.settings.arena_pages).imaged s.streams (s.last_number + 1) _ wanted sound.laid_out found;
      subscriptions = sound.subscriptions;
    }

image_moves : (s : State) (local from : Address) (setup : SetupFrame) (join : JoinedAt) (place : ℕ) → IsSound s →
    join_of setup ≡ Some join → setting_of s (image_wanted_by local from setup join) ≡ Ok place →
    Moves s (image_made s (image_wanted_by local from setup join) place)
unfolding image_made answered
image_moves s local from setup join place sound is set =
    let wanted : ImageWanted = image_wanted_by local from setup join in
    let there : place_of_image s wanted ≡ Some place = place_is_set s wanted place set in
    let found : place_of_image s wanted ≡ Some (unwrap_or (place_of_image s wanted) 0) = rw there refl in
    let log : LogRow = new_image s wanted in
    record {
      sound = image_sound s local from setup join sound is found;
      settings = image_settings s wanted;
      opened = log ∷ [];
      opens = (
        log,
        refl,
        rw there refl,
        refl,
        all_least.vacant s.streams s.settings.arena_pages (log_pages log) _ found,
        λ lower below. all_least.least s.streams s.settings.arena_pages (log_pages log) _ lower found below,
      );
      read = image_read s wanted place set;
      fresh = (omega arith, tt);
      stays = refl;
      logs = rw (all_kept (map log_of s.streams.sources)) (image_logs s wanted);
    }

-- ---- time goes on

closed_sound : (s : State) (silent : List ℕ) → IsSound s → IsSound (closed_past s silent)
unfolding closed_past closed
closed_sound s silent sound = record {
  defaults = sound.defaults;
  sizes = All-filter (stays_live s.moment silent) (λ (log : LogRow). AreSizes log.measures) s.streams.sources
      sound.sizes;
  numbered = kept_ascend (stays_live s.moment silent) 0 s.last_number s.streams.sources sound.numbered;
  begins = All-filter (stays_live s.moment silent) BeginsSoundly s.streams.sources sound.begins;
  laid_out = (share_nothing s.settings.arena_pages).closed s.streams s.moment silent sound.laid_out;
  subscriptions = sound.subscriptions;
}

ticked_logs : (s : State) (now : ℕ) (silent : List ℕ) → IsSound s →
    map log_of (closed s.streams now silent).sources
    ≡ filter (is_left (closing_of s.streams now silent)) (map log_of s.streams.sources)
unfolding closed closing_of
ticked_logs s now silent sound = closed_logs (is_closing now silent) 0 s.last_number s.streams.sources sound.numbered

ticked_moves : (s between : State) (clients silent : List ℕ) → IsSound s → Keeps s between →
    Moves s (ticked between clients silent)
unfolding ticked closed_past
ticked_moves s between clients silent sound keeps =
    let left_sound : IsSound between = keeps_sound s between sound keeps in
    let closes : List LogPlace = closing_of between.streams between.moment silent in
    record {
      sound = closed_sound between silent left_sound;
      settings = keeps.settings;
      opened = [];
      opens = refl;
      read = refl;
      fresh = tt;
      stays = refl;
      logs = rw (append-nil (filter (is_left closes) (map log_of s.streams.sources)), ← keeps.logs)
          (ticked_logs between between.moment silent left_sound);
    }

tick_moves : (s : State) (silent : List ℕ) → IsSound s → Moves s (tick s silent)
unfolding tick
tick_moves s silent sound = ticked_moves s (all_left s (late s)) (late s) silent sound (left_keep s (late s) sound)

-- ---- the end of the driver

all_close : (s : State) → IsSound s →
    filter (is_left (map place_of s.streams.sources)) (map log_of s.streams.sources) ≡ []
all_close s sound =
    let logs = s.streams.sources in
    let by = closed_logs (λ log. true) 0 s.last_number logs sound.numbered in
    sym (rw (none_kept logs, all_kept logs) at by)

termination_moves : (s : State) (client : Client) (correlation : ℕ) → IsSound s →
    Moves s (terminated s client correlation)
unfolding terminated stopped_for_good
termination_moves s client correlation sound = record {
  sound = record {
    defaults = sound.defaults;
    sizes = All-nil (λ (log : LogRow). AreSizes log.measures);
    numbered = omega arith;
    begins = All-nil BeginsSoundly;
    laid_out = (share_nothing s.settings.arena_pages).cleared s.streams sound.laid_out;
    subscriptions = omega arith;
  };
  settings = refl;
  opened = [];
  opens = refl;
  read = refl;
  fresh = tt;
  stays = refl;
  logs = rw (all_close s sound) refl;
}

-- ---- each event

-- moments are nothing to the logs
moment_sound : (s : State) (now : ℕ) → IsSound s → IsSound (at_moment s now)
unfolding at_moment
moment_sound s now sound = record {
  defaults = sound.defaults;
  sizes = sound.sizes;
  numbered = sound.numbered;
  begins = sound.begins;
  laid_out = sound.laid_out;
  subscriptions = sound.subscriptions;
}

request_sound : (s : State) (now handle : ℕ) → IsSound s → IsSound (at_request s now handle)
unfolding heard at_moment
request_sound s now handle sound = record {
  defaults = sound.defaults;
  sizes = sound.sizes;
  numbered = sound.numbered;
  begins = sound.begins;
  laid_out = sound.laid_out;
  subscriptions = sound.subscriptions;
}

moment_opens : (s : State) (now : ℕ) (opens : Option LogPlace) (logs : List LogRow) →
    Opens (at_moment s now) opens logs → Opens s opens logs
unfolding at_moment
moment_opens s now None logs opens = opens
moment_opens s now (Some place) logs opens = opens

request_opens : (s : State) (now handle : ℕ) (opens : Option LogPlace) (logs : List LogRow) →
    Opens (at_request s now handle) opens logs → Opens s opens logs
unfolding heard at_moment
request_opens s now handle None logs opens = opens
request_opens s now handle (Some place) logs opens = opens

moment_moves : (s : State) (now : ℕ) (draft : Draft) → Moves (at_moment s now) draft → Moves s draft
unfolding at_moment
moment_moves s now draft moves = record {
  sound = moves.sound;
  settings = moves.settings;
  opened = moves.opened;
  opens = moment_opens s now draft.opens moves.opened moves.opens;
  read = moves.read;
  fresh = moves.fresh;
  stays = moves.stays;
  logs = moves.logs;
}

request_moves : (s : State) (now handle : ℕ) (draft : Draft) → Moves (at_request s now handle) draft → Moves s draft
unfolding heard at_moment
request_moves s now handle draft moves = record {
  sound = moves.sound;
  settings = moves.settings;
  opened = moves.opened;
  opens = request_opens s now handle draft.opens moves.opened moves.opens;
  read = moves.read;
  fresh = moves.fresh;
  stays = moves.stays;
  logs = moves.logs;
}

command_moves : (s : State) (now handle : ℕ) (bytes : List ℕ) → IsSound s →
    Cases (Moves s) (at_moment s now) handle bytes
command_moves s now handle bytes sound =
    let before = at_moment s now in
    let at = at_request s now handle in
    let is_sound : IsSound at = request_sound s now handle sound in
    let by = request_moves s now handle in
    record {
      unheard = λ correlation refusal plain not_heard.
          moment_moves s now _ (refusal_moves before [] handle correlation refusal (moment_sound s now sound));
      refusal = λ decisions client correlation refusal plain was_heard.
          by _ (refusal_moves at decisions client.number correlation refusal is_sound);
      denial = λ client correlation act channel stream was_heard found asked denies.
          by _ (refusal_moves at _ client.number correlation _ is_sound);
      subscription = λ request was_heard asks allows room. by _ (subscription_moves at request is_sound room);
      publication = λ request adding was_heard asks allows is room placed.
          by _ (publication_moves at request.client request.correlation (wanted_by request) adding is_sound placed);
      publication_removal = λ client correlation fields was_heard asks.
          by _ (publication_removal_moves at client correlation fields.registration is_sound);
      removal = λ request was_heard asks. by _ (removal_moves at request is_sound);
      keepalive = λ was_heard. by _ (keepalive_moves at is_sound);
      destination = λ request number was_heard asks allows manual is.
          by _ (destination_moves at request.client request.correlation _ is_sound);
      destination_removal = λ client correlation fields target was_heard asks is.
          by _ (destination_removal_moves at client correlation target is_sound);
      counter = λ client correlation fields was_heard asks allows room.
          by _ (counter_moves at client correlation fields is_sound);
      value = λ client correlation fields was_heard asks. by _ (value_moves at client correlation fields is_sound);
      counter_removal = λ client correlation fields was_heard asks.
          by _ (counter_removal_moves at client correlation fields.registration is_sound);
      closing = λ client correlation was_heard asks. by _ (closing_moves at client correlation is_sound);
      termination = λ client correlation fields was_heard asks allows.
          by _ (termination_moves at client correlation is_sound);
    }

draft_moves : (s : State) (event : Event) (inputs : Inputs) → IsSound s → Moves s (drafted s event inputs)
unfolding drafted
draft_moves s (Attach now principal) inputs sound =
    let before = at_moment s now in
    let is_sound : IsSound before = moment_sound s now sound in
    let by = moment_moves s now in
    attach_cases (Moves s) before principal
    (by _ (answer_moves before _ is_sound))
    (by _ (attached_moves before principal is_sound))
    (by _ (answer_moves before _ is_sound))
draft_moves s (Command now handle bytes) inputs sound =
    command_cases (Moves s) s now handle bytes inputs (command_moves s now handle bytes sound)
draft_moves s (Reload now policy) inputs sound =
    let before = at_moment s now in
    let is_sound : IsSound before = moment_sound s now sound in
    let by = moment_moves s now in
    reload_cases (Moves s) before policy
    (λ room. by _ (reloaded_moves before policy is_sound)) (λ full. by _ (answer_moves before _ is_sound))
draft_moves s (Tick now) inputs sound =
    moment_moves s now _ (tick_moves (at_moment s now) inputs.silent (moment_sound s now sound))
draft_moves s (Setup now local from setup) inputs sound =
    let before = at_moment s now in
    let is_sound : IsSound before = moment_sound s now sound in
    let by = moment_moves s now in
    set_up_cases (Moves s) before local from setup
    (λ fault. by _ (answer_moves before _ is_sound))
    (λ join place is set. by _ (image_moves before local from setup join place is_sound is set))

-- ---- images that none reads

unread_settings : (s : State) → (without_unread s).settings ≡ s.settings
unfolding without_unread
unread_settings s = refl

unread_sound : (s : State) → IsSound s → IsSound (without_unread s)
unfolding without_unread without_unread_in
unread_sound s sound =
    let kept : LogRow → Bool = is_kept (pairs_on s.streams s.clients.rows s.policy s.epoch) in
    record {
      defaults = sound.defaults;
      sizes = All-filter kept (λ (log : LogRow). AreSizes log.measures) s.streams.sources sound.sizes;
      numbered = kept_ascend kept 0 s.last_number s.streams.sources sound.numbered;
      begins = All-filter kept BeginsSoundly s.streams.sources sound.begins;
      laid_out = kept_laid_out s.settings.arena_pages s.streams _ kept refl sound.laid_out;
      subscriptions = sound.subscriptions;
    }

dropping_moves : (s : State) (change : Change) (opened : List LogRow) → IsSound s → IsSound change.after →
    filter (is_kept (pairs_of change.after)) opened ≡ opened →
    map log_of change.after.streams.sources
    ≡ filter (is_left change.outcome.closes) (map log_of s.streams.sources) ++ opened →
    map log_of (without_unread change.after).streams.sources
    ≡ filter (is_left (closed_from s change)) (map log_of s.streams.sources) ++ opened
unfolding without_unread without_unread_in pairs_of
dropping_moves s change opened sound after read logs =
    let pairs : List Pair = pairs_on change.after.streams change.after.clients.rows change.after.policy change.after.epoch in
    kept_as_logs pairs change.after.streams.sources
    ∙ ap (filter (is_kept pairs)) logs
    ∙ filter_joined (is_kept pairs) (filter (is_left change.outcome.closes) (map log_of s.streams.sources)) opened
    ∙ ap₂ (λ (front back : List LogRow). front ++ back)
    (sym (closed_left pairs change.outcome.closes s.last_number s.streams.sources sound.numbered)) read

-- what the policy becomes at a moment leaves the logs
pub ruled_sound : (s : State) (now : ℕ) → IsSound s → IsSound (ruled s now)
unfolding ruled
ruled_sound s now sound = record {
  defaults = sound.defaults;
  sizes = sound.sizes;
  numbered = sound.numbered;
  begins = sound.begins;
  laid_out = sound.laid_out;
  subscriptions = sound.subscriptions;
}

-- renewing the pairs moves no log
pub moves_logs : (s : State) (event : Event) (inputs : Inputs) → IsSound s → MovesLogs s (conduct s event inputs)
unfolding conduct renewed dropping ruled
moves_logs s event inputs sound =
    let before : State = coming_to s event in
    let moves : Moves before (drafted before event inputs) = draft_moves before event inputs (ruled_sound s (moment_told event) sound) in
    record {
      sound = unread_sound (drafted before event inputs).after moves.sound;
      settings = unread_settings (drafted before event inputs).after ∙ moves.settings;
      opened = moves.opened;
      opens = moves.opens;
      stays = fresh_left (is_closed (renewed s inputs (drafted before event inputs))) s.last_number s.streams.sources moves.opened
          sound.numbered moves.fresh;
      logs = dropping_moves s (renewed s inputs (drafted before event inputs)) moves.opened sound moves.sound moves.read moves.logs;
    }

-- what answers the event moves the logs, where there was memory for it

-- ---- every registry

opened_sound : (settings : Settings) (policy : Rules) (peers : List Peer) → AreSettings settings →
    IsSound (opened settings policy peers)
unfolding opened
opened_sound settings policy peers sound = record {
  defaults = sound.sizes;
  sizes = All-nil (λ (log : LogRow). AreSizes log.measures);
  numbered = omega arith;
  begins = All-nil BeginsSoundly;
  laid_out = (share_nothing settings.arena_pages).opened _ settings.first_session;
  subscriptions = omega arith;
}

events_keep_sound : (s : State) (events : List (Event × Inputs)) → IsSound s → IsSound (state_of s events)
events_keep_sound s [] sound = sound
events_keep_sound s (event ∷ events) sound =
    events_keep_sound (state_after s event.0 event.1) events (moves_logs s event.0 event.1 sound).sound

pub registries_sound : (settings : Settings) (policy : Rules) (peers : List Peer) (events : List (Event × Inputs)) →
    AreSettings settings → IsSound (state_of (opened settings policy peers) events)
registries_sound settings policy peers events sound =
    events_keep_sound (opened settings policy peers) events (opened_sound settings policy peers sound)
