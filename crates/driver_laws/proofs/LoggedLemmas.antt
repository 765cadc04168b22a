-- Each event keeps the logs with which somebody is registered.
use Rattle.std.proofs.Common.{◌≡◌, ℕ, ◌+◌, ◌==◌, ◌&&◌, ℤ, Bool, true, false, max, cond, List, [], ◌∷◌, ◌++◌, map, Option, Some, None, Result, Ok, Err, refl, sym, subst, ⊎_elim}
use Rattle.std.specs.Prelude.{find, is_none}
use Rattle.std.specs.List.{Contains}
use Rattle.std.proofs.lemmas.Bool.{and_parts, eq-eqb}
use Rattle.std.proofs.lemmas.List.Elements.{Contains-append_left, Contains-append_right, Contains-push, Contains-push_cases}
use Rattle.driver_core.specs.Directing.{directed, recalled, with_destination, without_destination}
use Rattle.driver_core.specs.declared.state.event.Event.{Event}
use Rattle.driver_core.specs.declared.state.event.Event.TheVariants.{Attach, Command, Reload, Setup, Tick}
use Rattle.driver_core.specs.declared.state.event.Inputs.{Inputs}
use Rattle.driver_core.specs.declared.state.peer.Peer.{Peer}
use Rattle.driver_core.specs.declared.state.settings.Settings.{Settings}
use Rattle.driver_core.specs.Attaching.{attached}
use Rattle.driver_core.specs.Closing.{close, keep_alive}
use Rattle.driver_core.specs.Commands.{heard}
use Rattle.driver_core.specs.Conduct.{coming_to, conduct, drafted, state_after}
use Rattle.driver_core.specs.Counting.{counted, uncounted, valued, with_counter}
use Rattle.driver_core.specs.Draft.{Draft, answered, refused, replied, replied_opening, told}
use Rattle.driver_core.specs.Leaving.{all_left, left}
use Rattle.driver_core.specs.Publishing.{published, with_directed_publication, with_publication}
use Rattle.driver_core.specs.Reloading.{in_force, reloaded}
use Rattle.driver_core.specs.Renewal.{renewed}
use Rattle.driver_core.specs.Requests.{wanted_by}
use Rattle.driver_core.specs.State.{State, at_moment, opened, ruled}
use Rattle.driver_core.specs.Subscribing.{subscribed, with_subscription}
use Rattle.driver_core.specs.Terminating.{stopped_for_good, terminated}
use Rattle.driver_core.specs.Ticking.{closed_past, late, tick, ticked}
use Rattle.driver_core.specs.Unpublishing.{unpublished}
use Rattle.driver_core.specs.Unsubscribing.{unsubscribed}
use Rattle.driver_core.specs.SettingUp.{image_made, with_image}
use Rattle.driver_core.specs.Unread.{dropping, without_unread}
use Rattle.driver_laws.specs.OwnerLaws.{HasLog, HaveTheirLogs, RegistrationsHaveTheirLogs}
use Rattle.policy_core.specs.RuleList.{Rules}
use Rattle.channel_uri.specs.Channel.{Shape}
use Rattle.stream_registry.specs.declared.fault.StreamFault.{StreamFault}
use Rattle.stream_registry.specs.declared.fault.StreamFault.TheVariants.{Conflict, Full}
use Rattle.stream_registry.specs.declared.row.LogRow.{LogRow}
use Rattle.stream_registry.specs.declared.row.Registration.{Registration}
use Rattle.stream_registry.specs.declared.wanted.Adding.{Adding}
use Rattle.stream_registry.specs.declared.wanted.Adding.TheVariants.{Join, Make}
use Rattle.stream_registry.specs.declared.wanted.Wanted.{Wanted}
use Rattle.stream_registry.specs.Adding.{added, adding_by, adding_of, has_room_for_log, has_room_for_registration, joining_of, log_of, making_of, registration_of, subscribed as subscribed_in}
use Rattle.stream_registry.specs.Joining.{contradicts, is_joinable, joined_at}
use Rattle.stream_registry.specs.Leaving.{is_another_registration, is_registration_of_another, left as left_in, unregistered, unsubscribed as unsubscribed_in}
use Rattle.stream_registry.specs.Lingering.{closed, is_used, left_alone, settled, settled_one, stays_live}
use Rattle.stream_registry.specs.Origins.{is_published, lingering_since}
use Rattle.stream_registry.specs.Sessions.{is_stated_again}
use Rattle.stream_registry.specs.Streams.{Streams}
use Rattle.stream_registry.specs.declared.wanted.ImageWanted.{ImageWanted}
use Rattle.stream_registry.specs.declared.pairs.Pair.{Pair}
use Rattle.channel_uri.specs.Parameters.{stated_session_of}
use Rattle.log_readers.specs.Unread.{is_kept, without_unread as without_unread_in}
use Rattle.driver_core.proofs.EventCases.{Cases, attach_cases, command_cases, reload_cases, set_up_cases}
use Rattle.driver_core.proofs.ListLemmas.{contains_none, left_was_there, passes_are_left}
use Rattle.driver_laws.proofs.ClosingLemmas.{any_of}
use Rattle.driver_laws.proofs.LeftLemmas.{mapped}
use Rattle.driver_laws.proofs.EveryLemmas.{after_any}

-- ---- logs that stay

-- a log with which somebody is registered is as it was
used_settles : (b : Bool) (now : ℕ) (log : LogRow) → b ≡ true → cond b log (left_alone now log) ≡ log
used_settles true now log used = refl
used_settles false now log used = absurd (cc used)

settled_log : (registrations : List Registration) (now : ℕ) (logs : List LogRow) (registration : Registration) →
    Contains registrations registration → HasLog logs registration.source →
    HasLog (map (settled_one registrations now) logs) registration.source
settled_log registrations now logs registration has was =
    let used : is_used registrations was.log.number ≡ true =
    any_of (λ (r : Registration). r.source == was.log.number) registrations registration has
    (eq-eqb registration.source was.log.number (sym was.source_is)) in
    let same : settled_one registrations now was.log ≡ was.log =
    used_settles (is_used registrations was.log.number) now was.log used in
    record {
      log = was.log;
      stands = subst (Contains (map (settled_one registrations now) logs)) same
          (mapped (settled_one registrations now) logs was.log was.stands);
      source_is = was.source_is;
      published = was.published;
      in_use = was.in_use;
    }

unregistered_logged : (streams : Streams) (client number now : ℕ) → HaveTheirLogs streams →
    HaveTheirLogs (unregistered streams client number now)
unfolding unregistered settled
unregistered_logged streams client number now logged = λ registration has.
    settled_log _ now streams.sources registration has
    (logged registration
    (left_was_there (is_another_registration client number) streams.registrations registration has))

left_logged : (streams : Streams) (client now : ℕ) → HaveTheirLogs streams → HaveTheirLogs (left_in streams client now)
unfolding left_in settled
left_logged streams client now logged = λ registration has.
    settled_log _ now streams.sources registration has
    (logged registration
    (left_was_there (is_registration_of_another client) streams.registrations registration has))

not_past : (now : ℕ) (silent : List ℕ) (log : LogRow) → is_published log ≡ true → lingering_since log ≡ None →
    stays_live now silent log ≡ true
not_past now silent log published in_use = rw (in_use, published) refl

closed_logged : (streams : Streams) (now : ℕ) (silent : List ℕ) → HaveTheirLogs streams →
    HaveTheirLogs (closed streams now silent)
unfolding closed
closed_logged streams now silent logged = λ registration has.
    let was = logged registration has in
    record {
      log = was.log;
      stands = passes_are_left (stays_live now silent) streams.sources was.log
          (not_past now silent was.log was.published was.in_use) was.stands;
      source_is = was.source_is;
      published = was.published;
      in_use = was.in_use;
    }

-- ---- a log that is joined

pub record IsFound {X : Type 0} (test : X → Bool) (xs : List X) (x : X) : Type 0 where
  pub stands : Contains xs x
  pub passes : test x ≡ true

found_first : {X : Type 0} (test : X → Bool) (y x : X) (ys : List X) (b : Bool) → test y ≡ b →
    (find test ys ≡ Some x → IsFound test ys x) → cond b (Some y) (find test ys) ≡ Some x → IsFound test (y ∷ ys) x
found_first test y x ys true passes later found =
    let same : y ≡ x = cc found in
    record {
      stands = subst (Contains (y ∷ ys)) same (Contains-append_left (y ∷ []) ys y (Contains-push [] y));
      passes = subst (λ z. test z ≡ true) same passes;
    }
found_first test y x ys false passes later found =
    let rest = later found in
    record { stands = Contains-append_right (y ∷ []) ys x rest.stands; passes = rest.passes }

pub found_in : {X : Type 0} (test : X → Bool) (xs : List X) (x : X) → find test xs ≡ Some x → IsFound test xs x
found_in test [] x found = absurd (cc found)
found_in test (y ∷ ys) x found = found_first test y x ys (test y) refl (found_in test ys x) found

never_lingers : (since : Option ℕ) → is_none since ≡ true → since ≡ None
never_lingers None is = refl
never_lingers (Some since) is = absurd (cc is)

open_published : (channel : Shape) (stream : ℤ) (log : LogRow) → is_joinable channel stream log ≡ true →
    is_published log ≡ true
unfolding is_joinable
open_published channel stream log joinable =
    let first = and_parts _ _ joinable in
    let open' = and_parts _ _ first.0 in
    let shared = and_parts _ _ (and_parts _ _ open'.0).0 in
    (and_parts _ _ shared.0).0

open_in_use : (channel : Shape) (stream : ℤ) (log : LogRow) → is_joinable channel stream log ≡ true →
    lingering_since log ≡ None
unfolding is_joinable
open_in_use channel stream log joinable =
    let first = and_parts _ _ joinable in
    let open' = and_parts _ _ first.0 in
    never_lingers (lingering_since log) (and_parts _ _ open'.0).1

-- what is granted is a new log, or this one
abbrev IsGranted : List LogRow → Adding → Type 0
IsGranted logs (Join source session) = HasLog logs source
IsGranted logs (Make session) = Unit {0}

made_granted : (logs : List LogRow) (conflicts room : Bool) (session : ℤ) (adding : Adding) →
    cond {A = Result Adding StreamFault} conflicts (Err Conflict) (cond room (Ok (Make session)) (Err Full)) ≡ Ok adding →
    IsGranted logs adding
made_granted logs true room session adding is = absurd (cc is)
made_granted logs false false session adding is = absurd (cc is)
made_granted logs false true session adding is =
    let same : Make session ≡ adding = cc is in
    subst (IsGranted logs) same tt

joined_granted : (logs : List LogRow) (conflicts room : Bool) (log : LogRow) (adding : Adding) →
    HasLog logs log.number →
    cond {A = Result Adding StreamFault} conflicts (Err Conflict)
    (cond room (Ok (Join log.number log.session)) (Err Full)) ≡ Ok adding →
    IsGranted logs adding
joined_granted logs true room log adding has is = absurd (cc is)
joined_granted logs false false log adding has is = absurd (cc is)
joined_granted logs false true log adding has is =
    let same : Join log.number log.session ≡ adding = cc is in
    subst (IsGranted logs) same has

making_granted : (streams : Streams) (wanted : Wanted) (adding : Adding) → making_of streams wanted ≡ Ok adding →
    IsGranted streams.sources adding
unfolding making_of
making_granted streams wanted adding is =
    made_granted streams.sources
    (is_stated_again streams.sources wanted.channel.media wanted.stream (stated_session_of wanted.channel))
    (has_room_for_registration streams && has_room_for_log streams) _ adding is

by_granted : (streams : Streams) (wanted : Wanted) (adding : Adding) (found : Option LogRow) →
    joined_at streams.sources wanted.channel wanted.stream ≡ found → adding_by streams wanted found ≡ Ok adding →
    IsGranted streams.sources adding
unfolding joining_of
by_granted streams wanted adding None found is = making_granted streams wanted adding is
by_granted streams wanted adding (Some log) found is =
    let it = found_in (is_joinable wanted.channel wanted.stream) streams.sources log found in
    joined_granted streams.sources (contradicts streams.defaults wanted.channel log)
    (has_room_for_registration streams) log adding
    (record {
      log = log;
      stands = it.stands;
      source_is = refl;
      published = open_published wanted.channel wanted.stream log it.passes;
      in_use = open_in_use wanted.channel wanted.stream log it.passes;
    }) is

either_granted : (logs : List LogRow) (adding : Adding) (b : Bool) (one other : Result Adding StreamFault) →
    (one ≡ Ok adding → IsGranted logs adding) → (other ≡ Ok adding → IsGranted logs adding) →
    cond b one other ≡ Ok adding → IsGranted logs adding
either_granted logs adding true one other first second is = first is
either_granted logs adding false one other first second is = second is

granted : (streams : Streams) (wanted : Wanted) (adding : Adding) → adding_of streams wanted ≡ Ok adding →
    IsGranted streams.sources adding
unfolding adding_of
granted streams wanted adding is =
    either_granted streams.sources adding wanted.exclusive (making_of streams wanted)
    (adding_by streams wanted (joined_at streams.sources wanted.channel wanted.stream))
    (making_granted streams wanted adding)
    (by_granted streams wanted adding (joined_at streams.sources wanted.channel wanted.stream) refl) is

has_more : (logs : List LogRow) (log : LogRow) (source : ℕ) → HasLog logs source →
    HasLog (logs ++ log ∷ []) source
has_more logs log source was = record {
  log = was.log;
  stands = Contains-append_left logs (log ∷ []) was.log was.stands;
  source_is = was.source_is;
  published = was.published;
  in_use = was.in_use;
}

added_logged : (streams : Streams) (number client : ℕ) (wanted : Wanted) (place : ℕ) (adding : Adding) →
    IsGranted streams.sources adding → HaveTheirLogs streams →
    HaveTheirLogs (added streams number client wanted place adding)
added_logged streams number client wanted place (Join source session) has logged = λ registration stands.
    ⊎_elim (λ before. logged registration before)
    (λ is. subst (λ (r : Registration). HasLog streams.sources r.source) is has)
    (Contains-push_cases streams.registrations (registration_of number client wanted source) registration stands)
added_logged streams number client wanted place (Make session) has logged = λ registration stands.
    let log : LogRow = log_of streams number wanted place session in
    let logs : List LogRow = streams.sources ++ log ∷ [] in
    ⊎_elim (λ before. has_more streams.sources log registration.source (logged registration before))
    (λ is.
    subst (λ (r : Registration). HasLog logs r.source) is
    (record { log = log; stands = Contains-push streams.sources log; source_is = refl; published = refl; in_use = refl }))
    (Contains-push_cases streams.registrations (registration_of number client wanted number) registration stands)

-- ---- each event

abbrev Keeps : State → Draft → Type 0
Keeps s draft = HaveTheirLogs draft.after.streams

all_left_logged : (s : State) (clients : List ℕ) → HaveTheirLogs s.streams → HaveTheirLogs (all_left s clients).streams
unfolding left
all_left_logged s [] logged = logged
all_left_logged s (client ∷ clients) logged =
    all_left_logged (left s client) clients (left_logged s.streams client s.moment logged)

command_logged : (s : State) (now handle : ℕ) (bytes : List ℕ) → HaveTheirLogs s.streams →
    Cases (Keeps s) (at_moment s now) handle bytes
unfolding at_moment heard refused replied told subscribed with_subscription subscribed_in published with_directed_publication with_publication replied_opening unpublished unsubscribed unsubscribed_in keep_alive counted with_counter valued uncounted directed with_destination recalled without_destination close left terminated stopped_for_good
command_logged s now handle bytes logged = record {
  unheard = λ correlation refusal plain not_heard. logged;
  refusal = λ decisions client correlation refusal plain was_heard. logged;
  denial = λ client correlation act channel stream was_heard found asked denies. logged;
  subscription = λ request was_heard asks allows room. logged;
  publication = λ request adding was_heard asks allows is room placed.
      added_logged s.streams (s.last_number + 1) request.client.number (wanted_by request) _ adding
      (granted s.streams (wanted_by request) adding is) logged;
  publication_removal = λ client correlation fields was_heard asks.
      unregistered_logged s.streams client.number fields.registration (max s.moment now) logged;
  removal = λ request was_heard asks. logged;
  keepalive = λ was_heard. logged;
  destination = λ request number was_heard asks allows manual is.
      logged;
  destination_removal = λ client correlation fields target was_heard asks is.
      logged;
  counter = λ client correlation fields was_heard asks allows room. logged;
  value = λ client correlation fields was_heard asks. logged;
  counter_removal = λ client correlation fields was_heard asks. logged;
  closing = λ client correlation was_heard asks. left_logged s.streams client.number (max s.moment now) logged;
  termination = λ client correlation fields was_heard asks allows registration has.
      absurd (contains_none registration has);
}

ticked_logged : (s : State) (clients silent : List ℕ) → HaveTheirLogs s.streams → Keeps s (ticked s clients silent)
unfolding ticked closed_past
ticked_logged s clients silent logged = closed_logged s.streams s.moment silent logged

image_logged : (s : State) (wanted : ImageWanted) (place : ℕ) → HaveTheirLogs s.streams → Keeps s (image_made s wanted place)
unfolding image_made with_image answered
image_logged s wanted place logged = λ registration has.
    has_more s.streams.sources _ registration.source (logged registration has)

-- a publication stays, read or not
published_kept : (pairs : List Pair) (log : LogRow) → is_published log ≡ true → is_kept pairs log ≡ true
published_kept pairs log published = rw published refl

unread_logged : (s : State) → HaveTheirLogs s.streams → HaveTheirLogs (without_unread s).streams
unfolding without_unread without_unread_in
unread_logged s logged = λ registration has.
    let was = logged registration has in
    record {
      log = was.log;
      stands = passes_are_left (is_kept _) s.streams.sources was.log (published_kept _ was.log was.published) was.stands;
      source_is = was.source_is;
      published = was.published;
      in_use = was.in_use;
    }

draft_logged : (s : State) (event : Event) (inputs : Inputs) → HaveTheirLogs s.streams → Keeps s (drafted s event inputs)
unfolding drafted at_moment answered attached reloaded in_force tick
draft_logged s (Attach now principal) inputs logged = attach_cases (Keeps s) (at_moment s now) principal logged logged logged
draft_logged s (Command now handle bytes) inputs logged =
    command_cases (Keeps s) s now handle bytes inputs (command_logged s now handle bytes logged)
draft_logged s (Reload now policy) inputs logged =
    reload_cases (Keeps s) (at_moment s now) policy (λ room. logged) (λ full. logged)
draft_logged s (Tick now) inputs logged =
    ticked_logged (all_left (at_moment s now) (late (at_moment s now))) (late (at_moment s now)) inputs.silent
    (all_left_logged (at_moment s now) (late (at_moment s now)) logged)
draft_logged s (Setup now local from setup) inputs logged =
    set_up_cases (Keeps s) (at_moment s now) local from setup (λ fault. logged)
    (λ join place is set. image_logged (at_moment s now) _ place logged)

pub event_logged : (s : State) (event : Event) (inputs : Inputs) → HaveTheirLogs s.streams →
    HaveTheirLogs (state_after s event inputs).streams
unfolding conduct renewed dropping ruled
event_logged s event inputs logged =
    unread_logged (drafted (coming_to s event) event inputs).after (draft_logged (coming_to s event) event inputs logged)

-- ---- every registry

pub opened_logged : (settings : Settings) (policy : Rules) (peers : List Peer) →
    HaveTheirLogs (opened settings policy peers).streams
unfolding opened
opened_logged settings policy peers = λ registration has. absurd (contains_none registration has)

pub registrations_logged : RegistrationsHaveTheirLogs
registrations_logged = after_any (λ s. HaveTheirLogs s.streams) opened_logged event_logged
