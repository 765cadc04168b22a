-- An event opens what it brings.
use Rattle.std.proofs.Common.{◌≡◌, ℕ, ℤ, ◌+◌, ◌≤◌, ◌==◌, Bool, true, false, cond, List, [], ◌∷◌, filter, Option, Some, None, refl, sym, ap, arith}
use Rattle.std.specs.List.{All}
use Rattle.std.specs.Prelude.{IfSome}
use Rattle.std.proofs.lemmas.Bool.{eqb-true}
use Rattle.std.proofs.lemmas.List.Elements.{All-cons, All-filter, All-head, All-nil, All-push, All-tail}
use Rattle.driver_core.proofs.SoundnessLemmas.{ruled_sound}
use Rattle.driver_core.specs.Directing.{directed, recalled, with_destination, without_destination}
use Rattle.driver_core.specs.Draft.{Draft, answered, told, replied, replied_opening, refused}
use Rattle.driver_core.specs.declared.state.event.Event.{Event}
use Rattle.driver_core.specs.declared.state.event.Event.TheVariants.{Attach, Command, Reload, Setup, Tick}
use Rattle.driver_core.specs.declared.state.event.Inputs.{Inputs}
use Rattle.driver_core.specs.declared.state.outcome.Response.{Response}
use Rattle.driver_core.specs.declared.state.refusal.Refusal.{Refusal}
use Rattle.driver_core.specs.Attaching.{attached}
use Rattle.driver_core.specs.Closing.{keep_alive, close}
use Rattle.driver_core.specs.Commands.{heard, at_request}
use Rattle.driver_core.specs.Conduct.{conduct, drafted, coming_to, moment_told}
use Rattle.driver_core.specs.Counting.{counted, valued, uncounted}
use Rattle.driver_core.specs.Publishing.{opening_of, published, with_directed_publication, with_publication}
use Rattle.driver_core.specs.Reloading.{reloaded}
use Rattle.driver_core.specs.Renewal.{renewed, source_at}
use Rattle.driver_core.specs.Requests.{wanted_by}
use Rattle.driver_core.specs.SettingUp.{image_made, wanted_by as image_wanted_by, with_image}
use Rattle.driver_core.specs.Soundness.{Ascend, IsSound}
use Rattle.driver_core.specs.State.{State, at_moment, ruled}
use Rattle.driver_core.specs.Subscribing.{subscribed}
use Rattle.driver_core.specs.Terminating.{terminated}
use Rattle.driver_core.specs.Ticking.{closed_past, tick, ticked}
use Rattle.driver_core.specs.Unpublishing.{unpublished}
use Rattle.driver_core.specs.Unread.{dropping, without_unread}
use Rattle.driver_core.specs.Unsubscribing.{unsubscribed}
use Rattle.driver_core.proofs.EventCases.{Cases, attach_cases, command_cases, reload_cases, set_up_cases}
use Rattle.driver_steps.specs.Bringing.{Brings, BringsAt, image_terms, terms_brought, terms_by}
use Rattle.channel_uri.specs.declared.address.Address.{Address}
use Rattle.channel_uri.specs.Channel.{Shape}
use Rattle.client_registry.specs.declared.client.Client.{Client}
use Rattle.command_codec.specs.declared.add_counter.AddCounter.{AddCounter}
use Rattle.command_codec.specs.declared.set_counter.SetCounter.{SetCounter}
use Rattle.frame_codec.specs.declared.join.Join.{Join as JoinedAt}
use Rattle.frame_codec.specs.declared.setup.Setup.{Setup as SetupFrame}
use Rattle.log_readers.specs.Unread.{is_kept, without_unread as without_unread_in}
use Rattle.policy_core.specs.declared.decision.Decision.{Decision}
use Rattle.policy_core.specs.RuleList.{Rules}
use Rattle.stream_registry.specs.declared.lingering.LogPlace.{LogPlace}
use Rattle.stream_registry.specs.declared.row.LogRow.{LogRow}
use Rattle.stream_registry.specs.declared.wanted.Adding.{Adding}
use Rattle.stream_registry.specs.declared.wanted.Adding.TheVariants.{Join, Make}
use Rattle.stream_registry.specs.declared.wanted.Wanted.{Wanted}
use Rattle.stream_registry.specs.Pairs.{pairs_of as pairs_on}

-- ---- the logs of one number

abbrev IsBrought : Event → ℕ → LogRow → Type 0
IsBrought event number log = log.number ≡ number → image_terms log ≡ terms_brought event

abbrev BroughtAt : Event → List LogRow → Option LogPlace → Type 0
BroughtAt event logs None = Unit {0}
BroughtAt event logs (Some place) = All (IsBrought event place.source) logs

-- what a draft opens is what the event brings
abbrev Brought : Event → Draft → Type 0
Brought event draft = BroughtAt event draft.after.streams.sources draft.opens

found_step : (P : LogRow → Type 0) (number : ℕ) (b : Bool) (first : LogRow) (found : Option LogRow) → (first.number == number) ≡ b →
    (first.number ≡ number → P first) → IfSome found P → IfSome (cond b (Some first) found) P
found_step P number true first found same holds rest = holds (eqb-true first.number number same)
found_step P number false first found same holds rest = rest

found_brings : (event : Event) (number : ℕ) (logs : List LogRow) → All (IsBrought event number) logs →
    IfSome (source_at logs number) (λ log. image_terms log ≡ terms_brought event)
found_brings event number [] all = tt
found_brings event number (first ∷ logs) all =
    found_step (λ log. image_terms log ≡ terms_brought event) number (first.number == number) first (source_at logs number) refl
    (All-head (IsBrought event number) first logs all)
    (found_brings event number logs (All-tail (IsBrought event number) first logs all))

-- some of the logs go
kept_brings : (event : Event) (stays : LogRow → Bool) (logs : List LogRow) (opens : Option LogPlace) → BroughtAt event logs opens →
    BringsAt event (filter stays logs) opens
kept_brings event stays logs None brought = tt
kept_brings event stays logs (Some place) brought =
    found_brings event place.source (filter stays logs) (All-filter stays (IsBrought event place.source) logs brought)

above : (before last : ℕ) (logs : List LogRow) → Ascend before last logs → before ≤ last
above before last [] up = up
above before last (log ∷ logs) up =
    let low = up.0 in
    let high = above log.number last logs up.1 in
    omega (arith, low, high)

-- no log has the next number
none_next : (event : Event) (before last : ℕ) (logs : List LogRow) → Ascend before last logs → All (IsBrought event (last + 1)) logs
none_next event before last [] up = All-nil (IsBrought event (last + 1))
none_next event before last (log ∷ logs) up =
    let high = above log.number last logs up.1 in
    All-cons (IsBrought event (last + 1)) log logs (λ is. absurd (omega (arith, high, is)))
    (none_next event log.number last logs up.1)

-- ---- drafts that open nothing

refusal_brings : (event : Event) (s : State) (decisions : List Decision) (client correlation : ℕ) (refusal : Refusal) →
    Brought event (refused s decisions client correlation refusal)
unfolding refused replied told
refusal_brings event s decisions client correlation refusal = tt

answer_brings : (event : Event) (s : State) (response : Response) → Brought event (answered s response)
unfolding answered
answer_brings event s response = tt

attached_brings : (event : Event) (s : State) (principal : ℕ) → Brought event (attached s principal)
unfolding attached answered
attached_brings event s principal = tt

reloaded_brings : (event : Event) (s : State) (policy : Rules) → Brought event (reloaded s policy)
unfolding reloaded answered
reloaded_brings event s policy = tt

keepalive_brings : (event : Event) (s : State) → Brought event (keep_alive s)
unfolding keep_alive told
keepalive_brings event s = tt

counter_brings : (event : Event) (s : State) (client : Client) (correlation : ℕ) (fields : AddCounter) →
    Brought event (counted s client correlation fields)
unfolding counted replied told
counter_brings event s client correlation fields = tt

value_brings : (event : Event) (s : State) (client : Client) (correlation : ℕ) (fields : SetCounter) →
    Brought event (valued s client correlation fields)
unfolding valued replied told
value_brings event s client correlation fields = tt

destination_brings : (event : Event) (s : State) (client : Client) (correlation : ℕ) (granted : _) →
    Brought event (directed s client correlation granted)
unfolding directed with_destination replied told
destination_brings event s client correlation granted = tt

destination_removal_brings : (event : Event) (s : State) (client : Client) (correlation : ℕ) (target : _) →
    Brought event (recalled s client correlation target)
unfolding recalled without_destination replied told
destination_removal_brings event s client correlation target = tt

counter_removal_brings : (event : Event) (s : State) (client : Client) (correlation number : ℕ) →
    Brought event (uncounted s client correlation number)
unfolding uncounted told
counter_removal_brings event s client correlation number = tt

subscription_brings : (event : Event) (s : State) (client : Client) (correlation : ℕ) (channel : Shape) (stream : ℤ) →
    Brought event (subscribed s client correlation channel stream)
unfolding subscribed replied told
subscription_brings event s client correlation channel stream = tt

removal_brings : (event : Event) (s : State) (client : Client) (correlation number : ℕ) →
    Brought event (unsubscribed s client correlation number)
unfolding unsubscribed replied told
removal_brings event s client correlation number = tt

publication_removal_brings : (event : Event) (s : State) (client : Client) (correlation number : ℕ) →
    Brought event (unpublished s client correlation number)
unfolding unpublished replied told
publication_removal_brings event s client correlation number = tt

closing_brings : (event : Event) (s : State) (client : Client) (correlation : ℕ) → Brought event (close s client correlation)
unfolding close replied told
closing_brings event s client correlation = tt

termination_brings : (event : Event) (s : State) (client : Client) (correlation : ℕ) → Brought event (terminated s client correlation)
unfolding terminated replied told
termination_brings event s client correlation = tt

tick_brings : (event : Event) (s : State) (silent : List ℕ) → Brought event (tick s silent)
unfolding tick ticked closed_past
tick_brings event s silent = tt

-- ---- drafts that open a log

publication_brings : (event : Event) (s : State) (client : Client) (correlation : ℕ) (wanted : Wanted) (adding : Adding) →
    terms_brought event ≡ None → Ascend 0 s.last_number s.streams.sources →
    Brought event (published s client correlation wanted adding)
unfolding published replied_opening replied told opening_of with_directed_publication with_publication
publication_brings event s client correlation wanted (Join source session) none up = tt
publication_brings event s client correlation wanted (Make session) none up =
    All-push (IsBrought event (s.last_number + 1)) s.streams.sources _ (none_next event 0 s.last_number s.streams.sources up)
    (λ is. sym none)

image_brings : (event : Event) (s : State) (local from : Address) (setup : SetupFrame) (join : JoinedAt) (place : ℕ) →
    terms_brought event ≡ Some join.term_length → Ascend 0 s.last_number s.streams.sources →
    Brought event (image_made s (image_wanted_by local from setup join) place)
unfolding image_made answered with_image
image_brings event s local from setup join place brought up =
    All-push (IsBrought event (s.last_number + 1)) s.streams.sources _ (none_next event 0 s.last_number s.streams.sources up)
    (λ is. sym brought)

-- ---- events

moment_ascends : (s : State) (now : ℕ) → Ascend 0 s.last_number s.streams.sources →
    Ascend 0 (at_moment s now).last_number (at_moment s now).streams.sources
unfolding at_moment
moment_ascends s now up = up

request_ascends : (s : State) (now handle : ℕ) → Ascend 0 s.last_number s.streams.sources →
    Ascend 0 (at_request s now handle).last_number (at_request s now handle).streams.sources
unfolding heard at_moment
request_ascends s now handle up = up

command_brings : (event : Event) (s : State) (now handle : ℕ) (bytes : List ℕ) → terms_brought event ≡ None →
    Ascend 0 s.last_number s.streams.sources → Cases (Brought event) (at_moment s now) handle bytes
command_brings event s now handle bytes none up =
    let before = at_moment s now in
    let at = at_request s now handle in
    record {
      unheard = λ correlation refusal plain not_heard. refusal_brings event before [] handle correlation refusal;
      refusal = λ decisions client correlation refusal plain was_heard.
          refusal_brings event at decisions client.number correlation refusal;
      denial = λ client correlation act channel stream was_heard found asked denies.
          refusal_brings event at _ client.number correlation _;
      subscription = λ request was_heard asks allows room.
          subscription_brings event at request.client request.correlation request.channel request.fields.stream;
      publication = λ request adding was_heard asks allows is room placed.
          publication_brings event at request.client request.correlation (wanted_by request) adding none
          (request_ascends s now handle up);
      publication_removal = λ client correlation fields was_heard asks.
          publication_removal_brings event at client correlation fields.registration;
      removal = λ request was_heard asks.
          removal_brings event at request.client request.correlation request.fields.registration;
      keepalive = λ was_heard. keepalive_brings event at;
      destination = λ request number was_heard asks allows manual is.
          destination_brings event at request.client request.correlation _;
      destination_removal = λ client correlation fields target was_heard asks is.
          destination_removal_brings event at client correlation target;
      counter = λ client correlation fields was_heard asks allows room. counter_brings event at client correlation fields;
      value = λ client correlation fields was_heard asks. value_brings event at client correlation fields;
      counter_removal = λ client correlation fields was_heard asks.
          counter_removal_brings event at client correlation fields.registration;
      closing = λ client correlation was_heard asks. closing_brings event at client correlation;
      termination = λ client correlation fields was_heard asks allows. termination_brings event at client correlation;
    }

draft_brings : (s : State) (event : Event) (inputs : Inputs) → IsSound s → Brought event (drafted s event inputs)
unfolding drafted
draft_brings s (Attach now principal) inputs sound =
    let event : Event = Attach now principal in
    let before = at_moment s now in
    attach_cases (Brought event) before principal (answer_brings event before _) (attached_brings event before principal)
    (answer_brings event before _)
draft_brings s (Command now handle bytes) inputs sound =
    let event : Event = Command now handle bytes in
    command_cases (Brought event) s now handle bytes inputs (command_brings event s now handle bytes refl sound.numbered)
draft_brings s (Reload now policy) inputs sound =
    let event : Event = Reload now policy in
    let before = at_moment s now in
    reload_cases (Brought event) before policy
    (λ room. reloaded_brings event before policy) (λ full. answer_brings event before _)
draft_brings s (Tick now) inputs sound = tick_brings (Tick now) (at_moment s now) inputs.silent
draft_brings s (Setup now local from setup) inputs sound =
    let event : Event = Setup now local from setup in
    let before = at_moment s now in
    set_up_cases (Brought event) before local from setup (λ fault. answer_brings event before _)
    (λ join place is set.
    image_brings event before local from setup join place (ap terms_by is) (moment_ascends s now sound.numbered))

-- renewing the pairs opens nothing, and images that none reads go
pub brings : (s : State) (event : Event) (inputs : Inputs) → IsSound s → Brings event (conduct s event inputs)
unfolding conduct renewed dropping without_unread without_unread_in
brings s event inputs sound =
    let draft : Draft = drafted (coming_to s event) event inputs in
    kept_brings event (is_kept (pairs_on draft.after.streams draft.after.clients.rows draft.after.policy draft.after.epoch))
    draft.after.streams.sources draft.opens (draft_brings (coming_to s event) event inputs (ruled_sound s (moment_told event) sound))
