-- What grants nothing changes no more than moments.
use Rattle.std.proofs.Common.{◌≡◌, ℕ, ◌==◌, ◌||◌, not, Bool, true, false, if◌then◌else◌, List, [], ◌∷◌, ◌++◌, map, refl, sym, ap, ◌∙◌, ⊎_elim}
use Rattle.std.proofs.lemmas.Bool.{cases_Bool, eq-eqb, not-true}
use Rattle.std.proofs.lemmas.List.{append-nil}
use Rattle.std.specs.List.{AllByRecursion, Contains, filter, list_any}
use Rattle.driver_core.specs.Directing.{directed, recalled, with_destination, without_destination}
use Rattle.driver_core.specs.declared.state.event.Event.{Event}
use Rattle.driver_core.specs.declared.state.event.Event.TheVariants.{Attach, Command, Reload, Setup, Tick}
use Rattle.driver_core.specs.declared.state.event.Inputs.{Inputs}
use Rattle.driver_core.specs.declared.state.outcome.Response.{Response}
use Rattle.driver_core.specs.declared.state.refusal.Refusal.{Refusal}
use Rattle.driver_core.specs.declared.state.replies.Message.{Message}
use Rattle.driver_core.specs.declared.state.replies.Reply.{Reply}
use Rattle.driver_core.specs.Attaching.{attached}
use Rattle.driver_core.specs.Closing.{keep_alive, close}
use Rattle.driver_core.specs.Commands.{heard}
use Rattle.driver_core.specs.Conduct.{coming_to, conduct, drafted, outcome_of, state_after}
use Rattle.driver_core.specs.Counting.{counted, valued, uncounted}
use Rattle.driver_core.specs.Draft.{Draft, answered, told, replied, replied_opening, refused}
use Rattle.driver_core.specs.Leaving.{all_left}
use Rattle.driver_core.specs.Publishing.{published, with_directed_publication}
use Rattle.driver_core.specs.Reloading.{reloaded}
use Rattle.driver_core.specs.Renewal.{come_to, gone_from, images_decided, images_told, renewed}
use Rattle.driver_core.specs.Requests.{is_heard, PublicationRequest, SubscriptionRequest, RemovalRequest, wanted_by}
use Rattle.driver_core.specs.State.{State, at_moment, ruled}
use Rattle.driver_core.specs.Subscribing.{subscribed}
use Rattle.driver_core.specs.Terminating.{terminated}
use Rattle.driver_core.specs.Ticking.{closed_past, late, numbers_of_closing, tick, ticked}
use Rattle.driver_core.specs.Unpublishing.{unpublished}
use Rattle.driver_core.specs.Unsubscribing.{unsubscribed}
use Rattle.driver_core.specs.Pairs.{pairs_of}
use Rattle.driver_core.specs.SettingUp.{image_made}
use Rattle.driver_core.specs.Unread.{dropping, is_closed, without_unread}
use Rattle.driver_laws.specs.RefusalLaws.{GrantsNothing, GrantsNothingItself, IsNoGrant, IsRefusal, TakesWhatTheMomentTakes, only_moments}
use Rattle.client_registry.specs.declared.client.Client.{Client}
use Rattle.command_codec.specs.declared.add_counter.AddCounter.{AddCounter}
use Rattle.command_codec.specs.declared.set_counter.SetCounter.{SetCounter}
use Rattle.policy_core.specs.declared.decision.Decision.{Decision}
use Rattle.policy_core.specs.RuleList.{Rules}
use Rattle.stream_registry.specs.declared.pairs.Pair.{Pair}
use Rattle.stream_registry.specs.declared.row.LogRow.{LogRow}
use Rattle.stream_registry.specs.declared.wanted.Adding.{Adding}
use Rattle.stream_registry.specs.Lingering.{closed, closing_of, is_closing, place_of, stays_live}
use Rattle.stream_registry.specs.Streams.{Streams}
use Rattle.stream_registry.specs.declared.lingering.LogPlace.{LogPlace}
use Rattle.stream_registry.specs.declared.wanted.ImageWanted.{ImageWanted}
use Rattle.channel_uri.specs.declared.address.Address.{Address}
use Rattle.frame_codec.specs.declared.setup.Setup.{Setup as SetupFrame}
use Rattle.destinations.specs.declared.destination.Destination.{Destination}
use Rattle.destinations.specs.Destinations.{DestinationList, is_of_others, without_sources}
use Rattle.log_readers.specs.Unread.{is_left, is_unread}
use Rattle.driver_core.proofs.ListLemmas.{passes_are_left}
use Rattle.driver_core.proofs.PairLemmas.{pairs_heard}
use Rattle.driver_laws.proofs.DroppingLemmas.{AreKept, all_pass, all_stay, is_any, none_pass, none_told}
use Rattle.driver_laws.proofs.ImageLemmas.{is_mapped}
use Rattle.driver_laws.proofs.TurningLemmas.{turns_to}
use Rattle.driver_core.proofs.EventCases.{Cases, attach_cases, command_cases, reload_cases, set_up_cases}

-- ---- where no log closes, the lists stay

live_yet : (streams : Streams) (now : ℕ) (silent : List ℕ) (log : LogRow) → Contains streams.sources log →
    is_left (map place_of (filter (is_closing now silent) streams.sources)) log ≡ true → stays_live now silent log ≡ true
live_yet streams now silent log has stays =
    ⊎_elim
    (λ closes.
    let goes : List LogRow = filter (is_closing now silent) streams.sources in
    let told : list_any (λ (closed : LogPlace). closed.source == log.number) (map place_of goes) ≡ true =
    is_any (λ (closed : LogPlace). closed.source == log.number) (map place_of goes) (place_of log)
    (is_mapped place_of goes log (passes_are_left (is_closing now silent) streams.sources log closes has))
    (eq-eqb log.number log.number refl) in
    let never : false ≡ true = sym (ap not told) ∙ stays in
    absurd (cc never))
    (λ lives. ap not lives)
    (cases_Bool (is_closing now silent log))

none_closed : (streams : Streams) (now : ℕ) (silent : List ℕ) →
    ((log : LogRow) → Contains streams.sources log → is_left (closing_of streams now silent) log ≡ true) →
    closed streams now silent ≡ streams
unfolding closing_of closed
none_closed streams now silent stays =
    ap (λ (logs : List LogRow). record streams { sources = logs })
    (all_pass (stays_live now silent) streams.sources
    (λ log has. live_yet streams now silent log has (stays log has)))

none_closing : (streams : Streams) (now : ℕ) (silent : List ℕ) →
    ((log : LogRow) → Contains streams.sources log → is_left (closing_of streams now silent) log ≡ true) →
    numbers_of_closing now silent streams.sources ≡ []
unfolding closing_of
none_closing streams now silent stays =
    ap (map (λ (log : LogRow). log.number))
    (none_pass (is_closing now silent) streams.sources
    (λ log has. not-true (is_closing now silent log) (live_yet streams now silent log has (stays log has))))

none_recalled : (destinations : DestinationList) (numbers : List ℕ) → numbers ≡ [] →
    without_sources destinations numbers ≡ destinations
unfolding without_sources
none_recalled destinations numbers none =
    rw none
    (ap (λ (rows : List Destination). record destinations { rows = rows })
    (all_pass (is_of_others []) destinations.rows (λ destination has. refl)))

-- ---- what an event's own rule makes of it

-- no reply of the draft grants anything, and none of the logs closes
record MakesNothing (after : State) (draft : Draft) : Type 0 where
  response : IsNoGrant draft.response
  stays : (log : LogRow) → Contains after.streams.sources log → is_left draft.closes log ≡ true
  replies : AllByRecursion (λ (message : Message). IsRefusal message.reply) draft.replies
  later : AllByRecursion (λ (message : Message). IsRefusal message.reply) draft.later

all_before : {X : Type 0} (P : X → Type 0) (xs ys : List X) → AllByRecursion P (xs ++ ys) → AllByRecursion P xs
all_before P [] ys all = tt
all_before P (x ∷ xs) ys all = (all.0, all_before P xs ys all.1)

all_behind : {X : Type 0} (P : X → Type 0) (xs ys : List X) → AllByRecursion P (xs ++ ys) → AllByRecursion P ys
all_behind P [] ys all = all
all_behind P (x ∷ xs) ys all = all_behind P xs ys all.1

left_of : (left unread : Bool) → (not left || unread) ≡ false → left ≡ true
left_of true unread none = refl
left_of false unread none = absurd (cc none)

read_of : (left unread : Bool) → (not left || unread) ≡ false → unread ≡ false
read_of true unread none = none
read_of false unread none = absurd (cc none)

makes_nothing : (s after : State) (inputs : Inputs) (draft : Draft) → after.streams.sources ≡ s.streams.sources →
    GrantsNothing (dropping s (renewed s inputs draft)).outcome → MakesNothing after draft
unfolding dropping renewed
makes_nothing s after inputs draft logs nothing = record {
  response = nothing.response;
  stays = λ log has.
      left_of (is_left draft.closes log) (is_unread (pairs_of draft.after) log)
      (none_told place_of (is_closed (renewed s inputs draft)) s.streams.sources nothing.closes log (rw logs at has));
  replies = all_before _ draft.replies _ nothing.replies;
  later = all_behind _ _ draft.later (all_behind _ draft.replies _ nothing.replies);
}

-- a draft that makes nothing leaves this
record Leaves (after : State) (draft : Draft) : Type 0 where
  on : MakesNothing after draft → draft.after ≡ after

refusal_leaves : (after : State) (left : State) (decisions : List Decision) (client correlation : ℕ) (refusal : Refusal) →
    left ≡ after → Leaves after (refused left decisions client correlation refusal)
unfolding refused replied told
refusal_leaves after left decisions client correlation refusal same = record { on = λ nothing. same }

grant_leaves : (after s : State) (request : SubscriptionRequest) →
    Leaves after (subscribed s request.client request.correlation request.channel request.fields.stream)
unfolding subscribed replied told
grant_leaves after s request = record { on = λ nothing. absurd nothing.replies.0 }

-- an answer to a publication refuses nothing
ready_is_grant : (exclusive : Bool) (ready other : Reply) → (IsRefusal ready → ⊥) → (IsRefusal other → ⊥) →
    IsRefusal (if exclusive then ready else other) → ⊥
ready_is_grant true ready other first second refuses = first refuses
ready_is_grant false ready other first second refuses = second refuses

publication_leaves : (after s : State) (request : PublicationRequest) (adding : Adding) →
    Leaves after (published s request.client request.correlation (wanted_by request) adding)
unfolding published with_directed_publication replied_opening replied told
publication_leaves after s request adding =
    record {
      on = λ nothing.
          absurd (ready_is_grant request.exclusive _ _ (λ refuses. refuses) (λ refuses. refuses) nothing.replies.0);
    }

publication_removal_leaves : (after s : State) (client : Client) (correlation number : ℕ) →
    Leaves after (unpublished s client correlation number)
unfolding unpublished replied told
publication_removal_leaves after s client correlation number = record { on = λ nothing. absurd nothing.replies.0 }

removal_leaves : (after s : State) (request : RemovalRequest) →
    Leaves after (unsubscribed s request.client request.correlation request.fields.registration)
unfolding unsubscribed replied told
removal_leaves after s request = record { on = λ nothing. absurd nothing.replies.0 }

reloaded_leaves : (after s : State) (policy : Rules) → Leaves after (reloaded s policy)
unfolding reloaded answered
reloaded_leaves after s policy = record { on = λ nothing. absurd nothing.response }

unheard_leaves : (s : State) (now handle : ℕ) (bytes : List ℕ) → is_heard (at_moment s now) handle bytes ≡ false →
    at_moment s now ≡ only_moments s (Command now handle bytes)
unfolding at_moment
unheard_leaves s now handle bytes unheard = rw unheard refl

heard_leaves : (s : State) (now handle : ℕ) (bytes : List ℕ) → is_heard (at_moment s now) handle bytes ≡ true →
    heard (at_moment s now) handle ≡ only_moments s (Command now handle bytes)
unfolding at_moment heard
heard_leaves s now handle bytes was_heard = rw was_heard refl

keepalive_leaves : (after left : State) → left ≡ after → Leaves after (keep_alive left)
unfolding keep_alive told
keepalive_leaves after left same = record { on = λ nothing. same }

closing_leaves : (after left : State) (client : Client) (correlation : ℕ) → Leaves after (close left client correlation)
unfolding close replied told
closing_leaves after left client correlation = record { on = λ nothing. absurd nothing.replies.0 }

counter_leaves : (after left : State) (client : Client) (correlation : ℕ) (fields : AddCounter) →
    Leaves after (counted left client correlation fields)
unfolding counted replied told
counter_leaves after left client correlation fields = record { on = λ nothing. absurd nothing.replies.0 }

value_leaves : (after left : State) (client : Client) (correlation : ℕ) (fields : SetCounter) →
    Leaves after (valued left client correlation fields)
unfolding valued replied told
value_leaves after left client correlation fields = record { on = λ nothing. absurd nothing.replies.0 }

destination_leaves : (after left : State) (client : Client) (correlation : ℕ) (granted : _) →
    Leaves after (directed left client correlation granted)
unfolding directed with_destination replied told
destination_leaves after left client correlation granted = record { on = λ nothing. absurd nothing.replies.0 }

destination_removal_leaves : (after left : State) (client : Client) (correlation : ℕ) (target : _) →
    Leaves after (recalled left client correlation target)
unfolding recalled without_destination replied told
destination_removal_leaves after left client correlation target = record { on = λ nothing. absurd nothing.replies.0 }

counter_removal_leaves : (after left : State) (client : Client) (correlation number : ℕ) →
    Leaves after (uncounted left client correlation number)
unfolding uncounted told
counter_removal_leaves after left client correlation number = record { on = λ nothing. absurd nothing.replies.0 }

termination_leaves : (after left : State) (client : Client) (correlation : ℕ) →
    Leaves after (terminated left client correlation)
unfolding terminated
termination_leaves after left client correlation = record { on = λ nothing. absurd nothing.replies.0 }

command_leaves : (s : State) (now handle : ℕ) (bytes : List ℕ) →
    Cases (Leaves (only_moments s (Command now handle bytes))) (at_moment s now) handle bytes
command_leaves s now handle bytes =
    let left = heard (at_moment s now) handle in
    record {
      unheard = λ correlation refusal plain unheard.
          refusal_leaves _ (at_moment s now) [] handle correlation refusal (unheard_leaves s now handle bytes unheard);
      refusal = λ decisions client correlation refusal plain was_heard.
          refusal_leaves _ left decisions client.number correlation refusal (heard_leaves s now handle bytes was_heard);
      denial = λ client correlation act channel stream was_heard found asked denies.
          refusal_leaves _ left _ client.number correlation _ (heard_leaves s now handle bytes was_heard);
      subscription = λ request was_heard asks allows room. grant_leaves _ left request;
      publication = λ request adding was_heard asks allows is room place. publication_leaves _ left request adding;
      publication_removal = λ client correlation fields was_heard asks.
          publication_removal_leaves _ left client correlation fields.registration;
      removal = λ request was_heard asks. removal_leaves _ left request;
      keepalive = λ was_heard. keepalive_leaves _ left (heard_leaves s now handle bytes was_heard);
      destination = λ request number was_heard asks allows manual is.
          destination_leaves _ left request.client request.correlation _;
      destination_removal = λ client correlation fields target was_heard asks is.
          destination_removal_leaves _ left client correlation target;
      counter = λ client correlation fields was_heard asks allows room. counter_leaves _ left client correlation fields;
      value = λ client correlation fields was_heard asks. value_leaves _ left client correlation fields;
      counter_removal = λ client correlation fields was_heard asks.
          counter_removal_leaves _ left client correlation fields.registration;
      closing = λ client correlation was_heard asks. closing_leaves _ left client correlation;
      termination = λ client correlation fields was_heard asks allows. termination_leaves _ left client correlation;
    }

image_leaves : (after s : State) (wanted : ImageWanted) (place : ℕ) → Leaves after (image_made s wanted place)
unfolding image_made answered
image_leaves after s wanted place = record { on = λ nothing. absurd nothing.response }

attached_leaves : (after s : State) (principal : ℕ) → Leaves after (attached s principal)
unfolding attached answered
attached_leaves after s principal = record { on = λ nothing. absurd nothing.response }

answer_leaves : (after left : State) (response : Response) → left ≡ after → Leaves after (answered left response)
unfolding answered
answer_leaves after left response same = record { on = λ nothing. same }

attach_leaves : (s : State) (now principal : ℕ) (inputs : Inputs) →
    Leaves (only_moments s (Attach now principal)) (drafted s (Attach now principal) inputs)
unfolding drafted at_moment
attach_leaves s now principal inputs =
    attach_cases (Leaves (only_moments s (Attach now principal))) (at_moment s now) principal
    (answer_leaves _ (at_moment s now) _ refl)
    (attached_leaves _ (at_moment s now) principal)
    (answer_leaves _ (at_moment s now) _ refl)

-- a tick that tells nobody takes nobody away, and no log
ticked_leaves : (s : State) (clients silent : List ℕ) → Leaves s (ticked (all_left s clients) clients silent)
unfolding ticked closed_past
ticked_leaves s [] silent = record {
  on = λ nothing.
      let streams = none_closed s.streams s.moment silent nothing.stays in
      let destinations = none_recalled s.destinations (numbers_of_closing s.moment silent s.streams.sources)
      (none_closing s.streams s.moment silent nothing.stays) in
      rw (streams, destinations) refl;
}
ticked_leaves s (client ∷ clients) silent = record { on = λ nothing. absurd nothing.later.0 }

tick_leaves : (s : State) (now : ℕ) (inputs : Inputs) → Leaves (only_moments s (Tick now)) (drafted s (Tick now) inputs)
unfolding drafted tick at_moment
tick_leaves s now inputs = ticked_leaves (at_moment s now) (late (at_moment s now)) inputs.silent

reload_leaves : (s : State) (now : ℕ) (policy : Rules) (inputs : Inputs) →
    Leaves (only_moments s (Reload now policy)) (drafted s (Reload now policy) inputs)
unfolding drafted at_moment
reload_leaves s now policy inputs =
    reload_cases (Leaves (only_moments s (Reload now policy))) (at_moment s now) policy
    (λ room. reloaded_leaves _ (at_moment s now) policy)
    (λ full. answer_leaves _ (at_moment s now) _ refl)

set_up_leaves : (s : State) (now : ℕ) (local from : Address) (setup : SetupFrame) (inputs : Inputs) →
    Leaves (only_moments s (Setup now local from setup)) (drafted s (Setup now local from setup) inputs)
unfolding drafted at_moment
set_up_leaves s now local from setup inputs =
    set_up_cases (Leaves (only_moments s (Setup now local from setup))) (at_moment s now) local from setup
    (λ fault. answer_leaves _ (at_moment s now) _ refl)
    (λ join place is set. image_leaves _ (at_moment s now) _ place)

event_leaves : (s : State) (event : Event) (inputs : Inputs) → Leaves (only_moments s event) (drafted s event inputs)
event_leaves s (Attach now principal) inputs = attach_leaves s now principal inputs
event_leaves s (Command now handle bytes) inputs =
    command_cases (Leaves (only_moments s (Command now handle bytes))) s now handle bytes inputs
    (command_leaves s now handle bytes)
event_leaves s (Reload now policy) inputs = reload_leaves s now policy inputs
event_leaves s (Tick now) inputs = tick_leaves s now inputs
event_leaves s (Setup now local from setup) inputs = set_up_leaves s now local from setup inputs

moments_logs : (s : State) (event : Event) → (only_moments s event).streams.sources ≡ s.streams.sources
moments_logs s (Attach now principal) = refl
moments_logs s (Command now handle bytes) = refl
moments_logs s (Reload now policy) = refl
moments_logs s (Tick now) = refl
moments_logs s (Setup now local from setup) = refl

-- where no log closes, each image is read behind the event
all_kept : (s : State) (inputs : Inputs) (draft : Draft) → draft.after.streams.sources ≡ s.streams.sources →
    GrantsNothing (dropping s (renewed s inputs draft)).outcome → AreKept (pairs_of draft.after) draft.after.streams.sources
unfolding dropping renewed
all_kept s inputs draft logs nothing log has =
    ap not (read_of (is_left draft.closes log) (is_unread (pairs_of draft.after) log)
    (none_told place_of (is_closed (renewed s inputs draft)) s.streams.sources nothing.closes log (rw logs at has)))

pub refusals_leave : (s : State) (event : Event) (inputs : Inputs) → GrantsNothing (outcome_of s event inputs) →
    state_after s event inputs ≡ only_moments (coming_to s event) event
unfolding conduct renewed dropping ruled
refusals_leave s event inputs nothing =
    let at : State = coming_to s event in
    let draft : Draft = drafted at event inputs in
    let same : draft.after ≡ only_moments at event =
    (event_leaves at event inputs).on (makes_nothing s (only_moments at event) inputs draft (moments_logs at event) nothing) in
    let logs : draft.after.streams.sources ≡ s.streams.sources =
    ap (λ (t : State). t.streams.sources) same ∙ moments_logs at event in
    all_stay draft.after (all_kept s inputs draft logs nothing) ∙ same

-- ---- what the moment takes

refuses_nothing : (after : State) (draft : Draft) → GrantsNothingItself draft → MakesNothing after draft
refuses_nothing after draft refuses = record {
  response = refuses.response;
  stays = λ log has. rw refuses.closes refl;
  replies = refuses.replies;
  later = rw refuses.later tt;
}

moment_pairs : (s : State) (now : ℕ) → pairs_of (at_moment s now) ≡ pairs_of s
unfolding at_moment pairs_of
moment_pairs s now = refl

-- that a client was heard of makes no difference to pairs
command_pairs : (s : State) (now handle : ℕ) (bytes : List ℕ) →
    pairs_of (only_moments s (Command now handle bytes)) ≡ pairs_of s
command_pairs s now handle bytes =
    ⊎_elim
    (λ was_heard. sym (ap pairs_of (heard_leaves s now handle bytes was_heard)) ∙ pairs_heard s now handle)
    (λ unheard. sym (ap pairs_of (unheard_leaves s now handle bytes unheard)) ∙ moment_pairs s now)
    (cases_Bool (is_heard (at_moment s now) handle bytes))

moments_pairs : (s : State) (event : Event) → pairs_of (only_moments s event) ≡ pairs_of s
unfolding pairs_of
moments_pairs s (Attach now principal) = refl
moments_pairs s (Command now handle bytes) = command_pairs s now handle bytes
moments_pairs s (Reload now policy) = refl
moments_pairs s (Tick now) = refl
moments_pairs s (Setup now local from setup) = refl

takes_by_moment : (s at : State) (event : Event) (inputs : Inputs) (draft : Draft) → GrantsNothingItself draft →
    draft.after ≡ only_moments at event → at ≡ coming_to s event →
    TakesWhatTheMomentTakes s event inputs draft (dropping s (renewed s inputs draft))
unfolding dropping renewed
takes_by_moment s at event inputs draft refuses same is =
    let gone : List Pair = gone_from s draft.after in
    let come : List Pair = come_to s draft.after in
    let left : draft.after ≡ only_moments (coming_to s event) event =
    same ∙ ap (λ (t : State). only_moments t event) is in
    record {
      after_is = ap without_unread left;
      turns = turns_to s inputs draft (coming_to s event) refuses.closes
          (ap pairs_of left ∙ moments_pairs (coming_to s event) event);
      response = refl;
      replies = ap (λ (rest : List Message). draft.replies ++ rest)
          (ap (λ (last : List Message). images_told draft.after inputs gone come ++ last) refuses.later
          ∙ append-nil _
          ∙ ap (λ (t : State). images_told t inputs gone come) left);
      decisions = ap (λ (t : State). draft.decisions ++ images_decided t gone come) left;
      opens = refuses.opens;
    }

pub refusals_take : (s : State) (event : Event) (inputs : Inputs) → GrantsNothingItself (drafted (coming_to s event) event inputs) →
    TakesWhatTheMomentTakes s event inputs (drafted (coming_to s event) event inputs) (conduct s event inputs)
unfolding conduct
refusals_take s event inputs refuses =
    let at : State = coming_to s event in
    takes_by_moment s at event inputs (drafted at event inputs) refuses
    ((event_leaves at event inputs).on (refuses_nothing (only_moments at event) (drafted at event inputs) refuses)) refl
