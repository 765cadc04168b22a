-- Each event keeps registrations with publications.
use Rattle.std.proofs.Common.{◌≡◌, ℕ, ℤ, ◌+◌, ◌≤◌, Bool, true, false, ◌&&◌, cond, List, [], ◌∷◌, ◌++◌, filter, map, Option, Some, None, Result, Ok, Err, refl, ◌∙◌, subst, arith}
use Rattle.std.specs.List.{All}
use Rattle.std.proofs.lemmas.Bool.{and_parts}
use Rattle.std.proofs.lemmas.List.Elements.{All-filter, All-map, All-nil, All-push, All-weaker}
use Rattle.driver_core.proofs.SoundnessLemmas.{ruled_sound}
use Rattle.driver_core.specs.Directing.{directed, recalled, with_destination, without_destination}
use Rattle.driver_core.specs.Draft.{Draft, answered, told, replied, replied_opening, refused}
use Rattle.driver_core.specs.declared.state.event.Event.{Event}
use Rattle.driver_core.specs.declared.state.event.Event.TheVariants.{Attach, Command, Reload, Setup, Tick}
use Rattle.driver_core.specs.declared.state.event.Inputs.{Inputs}
use Rattle.driver_core.specs.declared.state.outcome.Response.{Response}
use Rattle.driver_core.specs.declared.state.refusal.Refusal.{Refusal}
use Rattle.driver_core.specs.Attaching.{attached}
use Rattle.driver_core.specs.Closing.{keep_alive, close}
use Rattle.driver_core.specs.Commands.{heard, at_request}
use Rattle.driver_core.specs.Conduct.{conduct, drafted, state_after, coming_to, moment_told}
use Rattle.driver_core.specs.Counting.{counted, with_counter, valued, uncounted}
use Rattle.driver_core.specs.Leaving.{left, all_left}
use Rattle.driver_core.specs.Publishing.{published, with_directed_publication, with_publication}
use Rattle.driver_core.specs.Reloading.{in_force, reloaded}
use Rattle.driver_core.specs.Renewal.{renewed}
use Rattle.driver_core.specs.Requests.{wanted_by}
use Rattle.driver_core.specs.SettingUp.{image_made, wanted_by as image_wanted_by, with_image}
use Rattle.driver_core.specs.Soundness.{Ascend, IsSound}
use Rattle.driver_core.specs.State.{State, at_moment, ruled}
use Rattle.driver_core.specs.Subscribing.{subscribed, with_subscription}
use Rattle.driver_core.specs.Terminating.{stopped_for_good, terminated}
use Rattle.driver_core.specs.Ticking.{closed_past, late, tick, ticked}
use Rattle.driver_core.specs.Unpublishing.{unpublished}
use Rattle.driver_core.specs.Unread.{dropping, without_unread}
use Rattle.driver_core.specs.Unsubscribing.{unsubscribed}
use Rattle.driver_core.proofs.EventCases.{Cases, attach_cases, command_cases, reload_cases, set_up_cases}
use Rattle.driver_steps.specs.Registered.{AreRegistered, IsPublishedBy, IsWith}
use Rattle.driver_steps.proofs.SourceLemmas.{Found, found_only, none_past}
use Rattle.channel_uri.specs.declared.address.Address.{Address}
use Rattle.channel_uri.specs.Channel.{Shape}
use Rattle.client_registry.specs.declared.client.Client.{Client}
use Rattle.command_codec.specs.declared.add_counter.AddCounter.{AddCounter}
use Rattle.command_codec.specs.declared.set_counter.SetCounter.{SetCounter}
use Rattle.frame_codec.specs.declared.join.Join.{Join as JoinedAt}
use Rattle.frame_codec.specs.declared.setup.Setup.{Setup as SetupFrame}
use Rattle.log_readers.specs.Unread.{is_kept, without_unread as without_unread_in}
use Rattle.policy_core.specs.declared.decision.Decision.{Decision}
use Rattle.policy_core.specs.RuleList.{Rules}
use Rattle.stream_registry.specs.declared.fault.StreamFault.{StreamFault}
use Rattle.stream_registry.specs.declared.fault.StreamFault.TheVariants.{Conflict, Full}
use Rattle.stream_registry.specs.declared.row.Origin.{Origin}
use Rattle.stream_registry.specs.declared.row.Origin.TheVariants.{Published, Remote}
use Rattle.stream_registry.specs.declared.row.Registration.{Registration}
use Rattle.stream_registry.specs.declared.row.LogRow.{LogRow}
use Rattle.stream_registry.specs.declared.wanted.Adding.{Adding}
use Rattle.stream_registry.specs.declared.wanted.Adding.TheVariants.{Join, Make}
use Rattle.stream_registry.specs.declared.wanted.Wanted.{Wanted}
use Rattle.stream_registry.specs.Adding.{adding_by, adding_of, has_room_for_log, has_room_for_registration, joining_of, making_of, subscribed as subscribed_in}
use Rattle.stream_registry.specs.Joining.{contradicts, is_joinable, joined_at}
use Rattle.stream_registry.specs.Leaving.{is_another_registration, is_registration_of_another, left as left_in, unregistered, unsubscribed as unsubscribed_in}
use Rattle.stream_registry.specs.Lingering.{closed, is_used, left_alone, settled, settled_one, stays_live}
use Rattle.stream_registry.specs.Origins.{is_published, is_published_by, left_by}
use Rattle.stream_registry.specs.Pairs.{pairs_of as pairs_on}
use Rattle.stream_registry.specs.Sessions.{is_stated_again}
use Rattle.stream_registry.specs.Streams.{Streams}

abbrev IsPublication : LogRow → Type 0
IsPublication log = is_published log ≡ true

-- ---- what one registration keeps

-- it is with a publication of other logs too, of which none is an image of that number
moves_with : (last later : ℕ) (logs others : List LogRow) (registration : Registration) → last ≤ later →
    (All (IsPublishedBy registration.source) logs → All (IsPublishedBy registration.source) others) →
    IsWith last logs registration → IsWith later others registration
moves_with last later logs others registration more keeps with = record {
  drawn = let drawn = with.drawn in omega (arith, drawn, more);
  published = keeps with.published;
}

all_move : (last later : ℕ) (logs others : List LogRow) (registrations : List Registration) → last ≤ later →
    ((number : ℕ) → number ≤ last → All (IsPublishedBy number) logs → All (IsPublishedBy number) others) →
    All (IsWith last logs) registrations → All (IsWith later others) registrations
all_move last later logs others registrations more keeps all =
    All-weaker (IsWith last logs) (IsWith later others)
    (λ registration with.
    moves_with last later logs others registration more (keeps registration.source with.drawn) with)
    registrations all

-- ---- logs that go, and that linger

kept_move : (last : ℕ) (stays : LogRow → Bool) (logs : List LogRow) (registrations : List Registration) →
    All (IsWith last logs) registrations → All (IsWith last (filter stays logs)) registrations
kept_move last stays logs registrations all =
    all_move last last logs (filter stays logs) registrations (omega arith)
    (λ number drawn published. All-filter stays (IsPublishedBy number) logs published) all

left_published : (now : ℕ) (origin : Origin) → is_published_by (left_by now origin) ≡ is_published_by origin
left_published now (Published exclusive since) = refl
left_published now (Remote address initial_term join) = refl

settled_published : (number now : ℕ) (used : Bool) (log : LogRow) → IsPublishedBy number log →
    IsPublishedBy number (cond used log (left_alone now log))
settled_published number now true log published = published
settled_published number now false log published = λ is. left_published now log.origin ∙ published is

settled_move : (last now : ℕ) (using registrations : List Registration) (logs : List LogRow) →
    All (IsWith last logs) registrations → All (IsWith last (map (settled_one using now) logs)) registrations
settled_move last now using registrations logs all =
    all_move last last logs (map (settled_one using now) logs) registrations (omega arith)
    (λ number drawn published.
    All-map (IsPublishedBy number) (settled_one using now) logs
    (All-weaker (IsPublishedBy number) (λ log. IsPublishedBy number (settled_one using now log))
    (λ log holds. settled_published number now (is_used using log.number) log holds) logs published)) all

-- ---- a log that comes, under the next number

next_moves : (last : ℕ) (log : LogRow) (logs : List LogRow) (registrations : List Registration) → log.number ≡ last + 1 →
    All (IsWith last logs) registrations → All (IsWith (last + 1) (logs ++ log ∷ [])) registrations
next_moves last log logs registrations next all =
    all_move last (last + 1) logs (logs ++ log ∷ []) registrations (omega arith)
    (λ number drawn published.
    All-push (IsPublishedBy number) logs log published (λ is. absurd (omega (arith, drawn, next, is)))) all

-- ---- a log that is joined

joinable_published : (channel : Shape) (stream : ℤ) (log : LogRow) → is_joinable channel stream log ≡ true →
    is_published log ≡ true
unfolding is_joinable
joinable_published channel stream log joinable =
    let first = and_parts _ _ joinable in
    let open' = and_parts _ _ first.0 in
    let shared = and_parts _ _ (and_parts _ _ open'.0).0 in
    (and_parts _ _ shared.0).0

-- what is granted is a new log, or one with which registrations may be
abbrev IsJoined : ℕ → List LogRow → Adding → Type 0
IsJoined last logs (Join source session) = (source ≤ last) × All (IsPublishedBy source) logs
IsJoined last logs (Make session) = Unit {0}

made_joined : (last : ℕ) (logs : List LogRow) (conflicts room : Bool) (session : ℤ) (adding : Adding) →
    cond {A = Result Adding StreamFault} conflicts (Err Conflict) (cond room (Ok (Make session)) (Err Full)) ≡ Ok adding →
    IsJoined last logs adding
made_joined last logs true room session adding is = absurd (cc is)
made_joined last logs false false session adding is = absurd (cc is)
made_joined last logs false true session adding is =
    let same : Make session ≡ adding = cc is in
    subst (IsJoined last logs) same tt

log_joined : (last : ℕ) (logs : List LogRow) (conflicts room : Bool) (log : LogRow) (adding : Adding) →
    Found IsPublication 0 last logs log →
    cond {A = Result Adding StreamFault} conflicts (Err Conflict)
    (cond room (Ok (Join log.number log.session)) (Err Full)) ≡ Ok adding →
    IsJoined last logs adding
log_joined last logs true room log adding found is = absurd (cc is)
log_joined last logs false false log adding found is = absurd (cc is)
log_joined last logs false true log adding found is =
    let same : Join log.number log.session ≡ adding = cc is in
    subst (IsJoined last logs) same (found.drawn, found.only)

making_joined : (last : ℕ) (streams : Streams) (wanted : Wanted) (adding : Adding) → making_of streams wanted ≡ Ok adding →
    IsJoined last streams.sources adding
unfolding making_of
making_joined last streams wanted adding is =
    made_joined last streams.sources
    (is_stated_again streams.sources wanted.channel.media wanted.stream _)
    (has_room_for_registration streams && has_room_for_log streams) _ adding is

by_joined : (last : ℕ) (streams : Streams) (wanted : Wanted) (adding : Adding) → Ascend 0 last streams.sources →
    (found : Option LogRow) → joined_at streams.sources wanted.channel wanted.stream ≡ found →
    adding_by streams wanted found ≡ Ok adding → IsJoined last streams.sources adding
unfolding joining_of
by_joined last streams wanted adding up None found is = making_joined last streams wanted adding is
by_joined last streams wanted adding up (Some log) found is =
    log_joined last streams.sources (contradicts streams.defaults wanted.channel log) (has_room_for_registration streams)
    log adding
    (found_only IsPublication (is_joinable wanted.channel wanted.stream) 0 last streams.sources log
    (joinable_published wanted.channel wanted.stream) up found) is

either_joined : (last : ℕ) (logs : List LogRow) (adding : Adding) (b : Bool) (one other : Result Adding StreamFault) →
    (one ≡ Ok adding → IsJoined last logs adding) → (other ≡ Ok adding → IsJoined last logs adding) →
    cond b one other ≡ Ok adding → IsJoined last logs adding
either_joined last logs adding true one other first second is = first is
either_joined last logs adding false one other first second is = second is

joined : (last : ℕ) (streams : Streams) (wanted : Wanted) (adding : Adding) → Ascend 0 last streams.sources →
    adding_of streams wanted ≡ Ok adding → IsJoined last streams.sources adding
unfolding adding_of
joined last streams wanted adding up is =
    either_joined last streams.sources adding wanted.exclusive (making_of streams wanted)
    (adding_by streams wanted (joined_at streams.sources wanted.channel wanted.stream))
    (making_joined last streams wanted adding)
    (by_joined last streams wanted adding up (joined_at streams.sources wanted.channel wanted.stream) refl) is

-- ---- drafts

-- what a draft leaves has registrations with publications
abbrev Registers : Draft → Type 0
Registers draft = AreRegistered draft.after

refusal_registers : (s : State) (decisions : List Decision) (client correlation : ℕ) (refusal : Refusal) → AreRegistered s →
    Registers (refused s decisions client correlation refusal)
unfolding refused replied told
refusal_registers s decisions client correlation refusal registered = registered

answer_registers : (s : State) (response : Response) → AreRegistered s → Registers (answered s response)
unfolding answered
answer_registers s response registered = registered

attached_registers : (s : State) (principal : ℕ) → AreRegistered s → Registers (attached s principal)
unfolding attached answered
attached_registers s principal registered = registered

reloaded_registers : (s : State) (policy : Rules) → AreRegistered s → Registers (reloaded s policy)
unfolding reloaded in_force answered
reloaded_registers s policy registered = registered

keepalive_registers : (s : State) → AreRegistered s → Registers (keep_alive s)
unfolding keep_alive told
keepalive_registers s registered = registered

-- a number is drawn, and no log comes
drawn_registers : (last : ℕ) (logs : List LogRow) (registrations : List Registration) → All (IsWith last logs) registrations →
    All (IsWith (last + 1) logs) registrations
drawn_registers last logs registrations all =
    all_move last (last + 1) logs logs registrations (omega arith) (λ number drawn published. published) all

counter_registers : (s : State) (client : Client) (correlation : ℕ) (fields : AddCounter) → AreRegistered s →
    Registers (counted s client correlation fields)
unfolding counted with_counter replied told
counter_registers s client correlation fields registered =
    drawn_registers s.last_number s.streams.sources s.streams.registrations registered

value_registers : (s : State) (client : Client) (correlation : ℕ) (fields : SetCounter) → AreRegistered s →
    Registers (valued s client correlation fields)
unfolding valued replied told
value_registers s client correlation fields registered = registered

destination_registers : (s : State) (client : Client) (correlation : ℕ) (granted : _) → AreRegistered s →
    Registers (directed s client correlation granted)
unfolding directed with_destination replied told
destination_registers s client correlation granted registered = registered

destination_removal_registers : (s : State) (client : Client) (correlation : ℕ) (target : _) → AreRegistered s →
    Registers (recalled s client correlation target)
unfolding recalled without_destination replied told
destination_removal_registers s client correlation target registered = registered

counter_removal_registers : (s : State) (client : Client) (correlation number : ℕ) → AreRegistered s →
    Registers (uncounted s client correlation number)
unfolding uncounted told
counter_removal_registers s client correlation number registered = registered

subscription_registers : (s : State) (client : Client) (correlation : ℕ) (channel : Shape) (stream : ℤ) → AreRegistered s →
    Registers (subscribed s client correlation channel stream)
unfolding subscribed with_subscription subscribed_in replied told
subscription_registers s client correlation channel stream registered =
    drawn_registers s.last_number s.streams.sources s.streams.registrations registered

removal_registers : (s : State) (client : Client) (correlation number : ℕ) → AreRegistered s →
    Registers (unsubscribed s client correlation number)
unfolding unsubscribed unsubscribed_in replied told
removal_registers s client correlation number registered = registered

publication_removal_registers : (s : State) (client : Client) (correlation number : ℕ) → AreRegistered s →
    Registers (unpublished s client correlation number)
unfolding unpublished unregistered settled replied told
publication_removal_registers s client correlation number registered =
    settled_move s.last_number s.moment _ _ s.streams.sources
    (All-filter (is_another_registration client.number number) (IsWith s.last_number s.streams.sources)
    s.streams.registrations registered)

left_registered : (s : State) (client : ℕ) → AreRegistered s → AreRegistered (left s client)
unfolding left left_in settled
left_registered s client registered =
    settled_move s.last_number s.moment _ _ s.streams.sources
    (All-filter (is_registration_of_another client) (IsWith s.last_number s.streams.sources)
    s.streams.registrations registered)

all_left_registered : (s : State) (clients : List ℕ) → AreRegistered s → AreRegistered (all_left s clients)
all_left_registered s [] registered = registered
all_left_registered s (client ∷ clients) registered =
    all_left_registered (left s client) clients (left_registered s client registered)

closing_registers : (s : State) (client : Client) (correlation : ℕ) → AreRegistered s → Registers (close s client correlation)
unfolding close replied told
closing_registers s client correlation registered = left_registered s client.number registered

termination_registers : (s : State) (client : Client) (correlation : ℕ) → Registers (terminated s client correlation)
unfolding terminated stopped_for_good
termination_registers s client correlation = All-nil _

tick_registers : (s : State) (silent : List ℕ) → AreRegistered s → Registers (tick s silent)
unfolding tick ticked closed_past closed
tick_registers s silent registered =
    let after : State = all_left s (late s) in
    kept_move after.last_number (stays_live after.moment silent) after.streams.sources after.streams.registrations
    (all_left_registered s (late s) registered)

publication_registers : (s : State) (client : Client) (correlation : ℕ) (wanted : Wanted) (adding : Adding) →
    IsJoined s.last_number s.streams.sources adding → Ascend 0 s.last_number s.streams.sources → AreRegistered s →
    Registers (published s client correlation wanted adding)
unfolding published replied_opening replied told with_directed_publication with_publication
publication_registers s client correlation wanted (Join source session) is up registered =
    All-push (IsWith (s.last_number + 1) s.streams.sources) s.streams.registrations _
    (drawn_registers s.last_number s.streams.sources s.streams.registrations registered)
    (record { drawn = let low = is.0 in omega (arith, low); published = is.1 })
publication_registers s client correlation wanted (Make session) is up registered =
    All-push (IsWith (s.last_number + 1) _) s.streams.registrations _
    (next_moves s.last_number _ s.streams.sources s.streams.registrations refl registered)
    (record {
      drawn = omega arith;
      published = All-push (IsPublishedBy (s.last_number + 1)) s.streams.sources _
          (none_past IsPublication (s.last_number + 1) 0 s.last_number s.streams.sources (omega arith) up) (λ same. refl);
    })

image_registers : (s : State) (local from : Address) (setup : SetupFrame) (join : JoinedAt) (place : ℕ) → AreRegistered s →
    Registers (image_made s (image_wanted_by local from setup join) place)
unfolding image_made answered with_image
image_registers s local from setup join place registered =
    next_moves s.last_number _ s.streams.sources s.streams.registrations refl registered

-- ---- events

moment_registered : (s : State) (now : ℕ) → AreRegistered s → AreRegistered (at_moment s now)
unfolding at_moment
moment_registered s now registered = registered

request_registered : (s : State) (now handle : ℕ) → AreRegistered s → AreRegistered (at_request s now handle)
unfolding heard at_moment
request_registered s now handle registered = registered

request_ascends : (s : State) (now handle : ℕ) → Ascend 0 s.last_number s.streams.sources →
    Ascend 0 (at_request s now handle).last_number (at_request s now handle).streams.sources
unfolding heard at_moment
request_ascends s now handle up = up

command_registers : (s : State) (now handle : ℕ) (bytes : List ℕ) → Ascend 0 s.last_number s.streams.sources →
    AreRegistered s → Cases Registers (at_moment s now) handle bytes
command_registers s now handle bytes up registered =
    let before = at_moment s now in
    let at = at_request s now handle in
    let there = request_registered s now handle registered in
    record {
      unheard = λ correlation refusal plain not_heard.
          refusal_registers before [] handle correlation refusal (moment_registered s now registered);
      refusal = λ decisions client correlation refusal plain was_heard.
          refusal_registers at decisions client.number correlation refusal there;
      denial = λ client correlation act channel stream was_heard found asked denies.
          refusal_registers at _ client.number correlation _ there;
      subscription = λ request was_heard asks allows room.
          subscription_registers at request.client request.correlation request.channel request.fields.stream there;
      publication = λ request adding was_heard asks allows is room placed.
          publication_registers at request.client request.correlation (wanted_by request) adding
          (joined at.last_number at.streams (wanted_by request) adding (request_ascends s now handle up) is)
          (request_ascends s now handle up) there;
      publication_removal = λ client correlation fields was_heard asks.
          publication_removal_registers at client correlation fields.registration there;
      removal = λ request was_heard asks.
          removal_registers at request.client request.correlation request.fields.registration there;
      keepalive = λ was_heard. keepalive_registers at there;
      destination = λ request number was_heard asks allows manual is.
          destination_registers at request.client request.correlation _ there;
      destination_removal = λ client correlation fields target was_heard asks is.
          destination_removal_registers at client correlation target there;
      counter = λ client correlation fields was_heard asks allows room.
          counter_registers at client correlation fields there;
      value = λ client correlation fields was_heard asks. value_registers at client correlation fields there;
      counter_removal = λ client correlation fields was_heard asks.
          counter_removal_registers at client correlation fields.registration there;
      closing = λ client correlation was_heard asks. closing_registers at client correlation there;
      termination = λ client correlation fields was_heard asks allows. termination_registers at client correlation;
    }

draft_registers : (s : State) (event : Event) (inputs : Inputs) → IsSound s → AreRegistered s →
    Registers (drafted s event inputs)
unfolding drafted
draft_registers s (Attach now principal) inputs sound registered =
    let before = at_moment s now in
    let there = moment_registered s now registered in
    attach_cases Registers before principal (answer_registers before _ there) (attached_registers before principal there)
    (answer_registers before _ there)
draft_registers s (Command now handle bytes) inputs sound registered =
    command_cases Registers s now handle bytes inputs (command_registers s now handle bytes sound.numbered registered)
draft_registers s (Reload now policy) inputs sound registered =
    let before = at_moment s now in
    let there = moment_registered s now registered in
    reload_cases Registers before policy
    (λ room. reloaded_registers before policy there) (λ full. answer_registers before _ there)
draft_registers s (Tick now) inputs sound registered =
    tick_registers (at_moment s now) inputs.silent (moment_registered s now registered)
draft_registers s (Setup now local from setup) inputs sound registered =
    let before = at_moment s now in
    let there = moment_registered s now registered in
    set_up_cases Registers before local from setup (λ fault. answer_registers before _ there)
    (λ join place is set. image_registers before local from setup join place there)

ruled_registered : (s : State) (now : ℕ) → AreRegistered s → AreRegistered (ruled s now)
unfolding ruled
ruled_registered s now registered = registered

-- renewing the pairs registers nobody, and only images go that none reads
pub registered_after : (s : State) (event : Event) (inputs : Inputs) → IsSound s → AreRegistered s →
    AreRegistered (state_after s event inputs)
unfolding conduct renewed dropping without_unread without_unread_in
registered_after s event inputs sound registered =
    let draft : Draft = drafted (coming_to s event) event inputs in
    kept_move draft.after.last_number
    (is_kept (pairs_on draft.after.streams draft.after.clients.rows draft.after.policy draft.after.epoch))
    draft.after.streams.sources draft.after.streams.registrations (draft_registers (coming_to s event) event inputs (ruled_sound s (moment_told event) sound) (ruled_registered s (moment_told event) registered))
