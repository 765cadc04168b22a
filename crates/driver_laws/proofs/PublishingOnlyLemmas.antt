-- Registrations with publications, and their logs, come only by requests that the policy in force allows.
use Rattle.std.proofs.Common.{◌≡◌, ℕ, ◌+◌, ℤ, Bool, true, false, cond, List, [], ◌∷◌, ◌++◌, map, Some, Ok, ◌⊎◌, inl, inr, refl, sym, ap, ◌∙◌, ⊎_elim}
use Rattle.std.specs.List.{AllByRecursion, Contains}
use Rattle.std.proofs.lemmas.List.Elements.{All-contains, All-contains_itself, All-map, All-weaker, Contains-push, Contains-push_cases}
use Rattle.driver_core.specs.Directing.{directed, recalled, with_destination, without_destination}
use Rattle.driver_core.specs.declared.state.event.Event.{Event}
use Rattle.driver_core.specs.declared.state.event.Event.TheVariants.{Attach, Command, Reload, Setup, Tick}
use Rattle.driver_core.specs.declared.state.event.Inputs.{Inputs}
use Rattle.driver_core.specs.declared.state.outcome.Response.{Response}
use Rattle.driver_core.specs.declared.state.refusal.Refusal.{Refusal}
use Rattle.driver_core.specs.Attaching.{attached}
use Rattle.driver_core.specs.Closing.{keep_alive, close}
use Rattle.driver_core.specs.Commands.{heard, at_request}
use Rattle.driver_core.specs.Conduct.{coming_to, conduct, drafted}
use Rattle.driver_core.specs.Counting.{counted, with_counter, valued, uncounted}
use Rattle.driver_core.specs.Draft.{Draft, answered, refused, replied, replied_opening, told}
use Rattle.driver_core.specs.Leaving.{left, all_left}
use Rattle.driver_core.specs.Publishing.{has_place, has_room_for_publication, published, ready_for, session_of, wanted_of, with_directed_publication, with_publication}
use Rattle.driver_core.specs.Reloading.{in_force, reloaded}
use Rattle.driver_core.specs.Requests.{PublicationRequest, AsksToPublish, publication_question, wanted_by}
use Rattle.driver_core.specs.State.{State, at_moment}
use Rattle.driver_core.specs.Subscribing.{subscribed, with_subscription}
use Rattle.driver_core.specs.Terminating.{stopped_for_good, terminated}
use Rattle.driver_core.specs.Ticking.{closed_past, late, tick, ticked}
use Rattle.driver_core.specs.Unpublishing.{unpublished}
use Rattle.driver_core.specs.Unsubscribing.{unsubscribed}
use Rattle.driver_core.specs.Change.{Change}
use Rattle.driver_core.specs.declared.state.replies.Message.{Message}
use Rattle.driver_core.specs.declared.state.replies.Reply.{Reply}
use Rattle.driver_core.specs.declared.state.replies.Reply.TheVariants.{AvailableImage, ClientTimeout, CounterReady, Error, ExclusivePublicationReady, OperationSuccess, PublicationReady, SubscriptionReady, UnavailableCounter, UnavailableImage}
use Rattle.driver_core.specs.Renewal.{renewed}
use Rattle.driver_core.specs.SettingUp.{image_made, setting_of, wanted_by as image_wanted_by, with_image}
use Rattle.driver_core.specs.Unread.{dropping, without_unread}
use Rattle.driver_laws.specs.ClosingLaws.{IsSameLog}
use Rattle.driver_laws.specs.PublishingLaws.{IsAllowed, IsImageMadeBy, IsLogMadeBy, IsPublicationTold, IsReadyBy, IsRegisteredBy, PublishesOnly, WasLive, source_of}
use Rattle.channel_uri.specs.Channel.{Shape}
use Rattle.channel_uri.specs.declared.address.Address.{Address}
use Rattle.client_registry.specs.declared.client.Client.{Client}
use Rattle.policy_core.specs.declared.decision.Decision.{Decision}
use Rattle.policy_core.specs.declared.verdict.Verdict.{Verdict}
use Rattle.policy_core.specs.RuleList.{Rules}
use Rattle.stream_registry.specs.declared.row.LogRow.{LogRow}
use Rattle.stream_registry.specs.declared.row.Registration.{Registration}
use Rattle.stream_registry.specs.declared.wanted.Adding.{Adding}
use Rattle.stream_registry.specs.declared.wanted.Adding.TheVariants.{Join, Make}
use Rattle.stream_registry.specs.declared.wanted.Wanted.{Wanted}
use Rattle.stream_registry.specs.Adding.{added, adding_of, log_of, registration_of, subscribed as subscribed_in}
use Rattle.stream_registry.specs.Leaving.{is_another_registration, is_registration_of_another, left as left_in, unregistered, unsubscribed as unsubscribed_in}
use Rattle.stream_registry.specs.Lingering.{closed, is_used, left_alone, settled, settled_one, stays_live}
use Rattle.stream_registry.specs.Streams.{Streams}
use Rattle.frame_codec.specs.declared.setup.Setup.{Setup as SetupFrame}
use Rattle.frame_codec.specs.declared.join.Join.{Join as JoinedAt}
use Rattle.frame_codec.specs.Join.{join_of}
use Rattle.log_readers.specs.Unread.{is_kept, without_unread as without_unread_in}
use Rattle.driver_core.proofs.EventCases.{Cases, attach_cases, command_cases, reload_cases, set_up_cases}
use Rattle.driver_core.proofs.ListLemmas.{contains_none, left_was_there}
use Rattle.driver_core.proofs.VerdictLemmas.{by_policy}
use Rattle.driver_laws.proofs.SubscribingLemmas.{found_number}
use Rattle.driver_laws.proofs.LeavingLemmas.{all_timeouts}
use Rattle.driver_laws.proofs.LeftLemmas.{same_but_alone}
use Rattle.driver_laws.proofs.PublishingLemmas.{adding_is, place_is, publication_verdict, room_is}
use Rattle.driver_laws.proofs.DroppingLemmas.{all_weaker}
use Rattle.driver_laws.proofs.RenewalLemmas.{all_replies, renewed_after}

-- what the draft leaves registered and live was so before, or is by the event, and so is what it tells
pub record DraftsOnly (s : State) (event : Event) (draft : Draft) : Type 0 where
  pub registrations :
      (registration : Registration) → Contains draft.after.streams.registrations registration →
      Contains s.streams.registrations registration ⊎ IsRegisteredBy s event registration
  pub logs :
      (log : LogRow) → Contains draft.after.streams.sources log →
      WasLive s.streams log ⊎ (IsLogMadeBy s event log ⊎ IsImageMadeBy s event log)
  pub told : AllByRecursion (λ message. IsPublicationTold s event draft.after message.client message.reply) draft.replies
  pub later : AllByRecursion (λ message. IsPublicationTold s event draft.after message.client message.reply) draft.later

-- ---- what was there

is_live : (streams : Streams) (log : LogRow) → Contains streams.sources log →
    WasLive streams log
is_live streams log has = record { before = log; stood = has; same = refl }

-- a log that lingers from now on is the same else
same_settled : (b : Bool) (now : ℕ) (log : LogRow) → IsSameLog (cond b log (left_alone now log)) log
same_settled true now log = refl
same_settled false now log = same_but_alone now log

settled_was_live : (streams : Streams) (registrations : List Registration) (now : ℕ) (log : LogRow) →
    Contains (map (settled_one registrations now) streams.sources) log → WasLive streams log
settled_was_live streams registrations now log has =
    let settle = settled_one registrations now in
    All-contains (WasLive streams) (map settle streams.sources) log
    (All-map (WasLive streams) settle streams.sources
    (All-weaker (Contains streams.sources) (λ before. WasLive streams (settle before))
    (λ before stood.
    record {
      before = before;
      stood = stood;
      same = same_settled (is_used registrations before.number) now before;
    })
    streams.sources (All-contains_itself streams.sources)))
    has

-- ---- a registration that comes, and its log

pub asks_before : (s : State) (now handle : ℕ) (bytes : List ℕ) (request : PublicationRequest) →
    AsksToPublish (at_moment s now) handle bytes request → AsksToPublish s handle bytes request
unfolding at_moment
asks_before s now handle bytes request asks = record {
  asks = record { command = asks.asks.command; attached = asks.asks.attached };
  denotes_channel = asks.denotes_channel;
  takes_channel = asks.takes_channel;
}

unfoldable pub registered_by : (s : State) (now handle : ℕ) (bytes : List ℕ) (request : PublicationRequest) (adding : Adding) →
    AsksToPublish s handle bytes request → IsAllowed s request → adding_of s.streams (wanted_by request) ≡ Ok adding →
    has_room_for_publication s handle (wanted_by request) adding ≡ true → has_place s (wanted_by request) adding ≡ true →
    IsRegisteredBy s (Command now handle bytes) (
    registration_of (s.last_number + 1) handle (wanted_by request) (source_of s adding))
registered_by s now handle bytes request adding asks allows is room placed = record {
  moment = now;
  bytes = bytes;
  request = request;
  adding = adding;
  event_is = refl;
  asks = asks;
  by = by_policy s (publication_question request);
  allowed = allows;
  adding_is = is;
  room = room;
  placed = placed;
  made_is = refl;
}

-- an ADD registers behind the others
added_at_the_end : (s : State) (client : ℕ) (wanted : Wanted) (place : ℕ) (adding : Adding) →
    (added s.streams (s.last_number + 1) client wanted place adding).registrations
    ≡ s.streams.registrations ++ registration_of (s.last_number + 1) client wanted (source_of s adding) ∷ []
added_at_the_end s client wanted place (Join source session) = refl
added_at_the_end s client wanted place (Make session) = refl

-- an ADD makes at most one log, behind the others
added_log : (s : State) (event : Event) (client : ℕ) (wanted : Wanted) (place : ℕ) (adding : Adding) →
    ((session : ℤ) → adding ≡ Make session →
    IsLogMadeBy s event (log_of s.streams (s.last_number + 1) wanted place session)) →
    (log : LogRow) →
    Contains (added s.streams (s.last_number + 1) client wanted place adding).sources log →
    WasLive s.streams log ⊎ (IsLogMadeBy s event log ⊎ IsImageMadeBy s event log)
added_log s event client wanted place (Join source session) by log has = inl (is_live s.streams log has)
added_log s event client wanted place (Make session) by log has =
    ⊎_elim
    (λ before. inl (is_live s.streams log before))
    (λ is. inr (inl (rw (← is) (by session refl))))
    (Contains-push_cases s.streams.sources (log_of s.streams (s.last_number + 1) wanted place session) log has)

ready_is_told : (s : State) (event : Event) (after : State) (client correlation number : ℕ) (session : ℤ) (channel : Shape)
    (stream : ℤ) (exclusive : Bool) → IsReadyBy s event after client correlation number session stream exclusive →
    IsPublicationTold s event after client
    (ready_for (wanted_of channel stream exclusive) correlation number session)
ready_is_told s event after client correlation number session channel stream true by = by
ready_is_told s event after client correlation number session channel stream false by = by

publication_only : (s : State) (now handle : ℕ) (bytes : List ℕ) (request : PublicationRequest) (adding : Adding) →
    AsksToPublish s handle bytes request → IsAllowed s request → adding_of s.streams (wanted_by request) ≡ Ok adding →
    has_room_for_publication s request.client.number (wanted_by request) adding ≡ true →
    has_place s (wanted_by request) adding ≡ true →
    DraftsOnly s (Command now handle bytes) (
    published (at_request s now handle) request.client request.correlation (wanted_by request) adding)
unfolding registered_by published replied_opening replied told with_directed_publication with_publication heard at_moment
publication_only s now handle bytes request adding asks allows is room placed =
    let event : Event = Command now handle bytes in
    let wanted : Wanted = wanted_by request in
    let made : Registration = registration_of (s.last_number + 1) handle wanted (source_of s adding) in
    let own : request.client.number ≡ handle = found_number s.clients.rows handle request.client asks.asks.attached in
    let by : IsRegisteredBy s event made =
    registered_by s now handle bytes request adding asks allows is (rw own at room) placed
    in
    rw own (record {
      registrations = λ registration has.
          ⊎_elim
          (λ before. inl before)
          (λ same. inr (rw (← same) by))
          (Contains-push_cases s.streams.registrations made registration
          (rw (added_at_the_end s handle wanted _ adding) at has));
      logs = added_log s event handle wanted _ adding
          (λ session makes.
          record { registration = made; registered = by; session = session; makes = makes; made_is = refl });
      told = (
        ready_is_told s event _ handle request.correlation (s.last_number + 1) (session_of adding) request.channel
            request.fields.stream request.exclusive (record {
              made = made;
              registered = by;
              stands = rw (added_at_the_end s handle wanted _ adding) (Contains-push s.streams.registrations made);
              client_is = refl;
              number_is = refl;
              correlation_is = refl;
              session_is = refl;
              stream_is = refl;
              exclusive_is = refl;
            }),
        tt,
      );
      later = tt;
    })

-- ---- what goes

one_left_was_registered : (s : State) (client : ℕ) (registration : Registration) →
    Contains (left s client).streams.registrations registration → Contains s.streams.registrations registration
unfolding left left_in settled
one_left_was_registered s client registration has =
    left_was_there (is_registration_of_another client) s.streams.registrations registration has

left_was_registered : (s : State) (clients : List ℕ) (registration : Registration) →
    Contains (all_left s clients).streams.registrations registration → Contains s.streams.registrations registration
left_was_registered s [] registration has = has
left_was_registered s (client ∷ clients) registration has =
    one_left_was_registered s client registration (left_was_registered (left s client) clients registration has)

one_left_was_live : (s : State) (client : ℕ) (log : LogRow) →
    Contains (left s client).streams.sources log → WasLive s.streams log
unfolding left left_in settled
one_left_was_live s client log has = settled_was_live s.streams _ s.moment log has

left_was_live : (s : State) (clients : List ℕ) (log : LogRow) →
    Contains (all_left s clients).streams.sources log → WasLive s.streams log
left_was_live s [] log has = is_live s.streams log has
left_was_live s (client ∷ clients) log has =
    let later = left_was_live (left s client) clients log has in
    let first = one_left_was_live s client later.before later.stood in
    record {
      before = first.before;
      stood = first.stood;
      same = later.same ∙ first.same;
    }

removal_only : (s : State) (event : Event) (now handle : ℕ) (client : Client) (correlation number : ℕ) →
    DraftsOnly s event (unpublished (at_request s now handle) client correlation number)
unfolding unpublished unregistered settled replied told heard at_moment
removal_only s event now handle client correlation number = record {
  registrations = λ registration has.
      inl (left_was_there (is_another_registration client.number number) s.streams.registrations registration has);
  logs = λ log has. inl (settled_was_live s.streams _ _ log has);
  told = (tt, tt);
  later = tt;
}

closing_only : (s : State) (event : Event) (now handle : ℕ) (client : Client) (correlation : ℕ) →
    DraftsOnly s event (close (at_request s now handle) client correlation)
unfolding close replied told heard at_moment
closing_only s event now handle client correlation = record {
  registrations = λ registration has.
      inl (one_left_was_registered (at_request s now handle) client.number registration has);
  logs = λ log has. inl (one_left_was_live (at_request s now handle) client.number log has);
  told = (tt, tt);
  later = tt;
}

-- ---- what leaves the lists as they are

same_only : (s : State) (event : Event) (draft : Draft) → draft.after.streams.registrations ≡ s.streams.registrations →
    draft.after.streams.sources ≡ s.streams.sources →
    AllByRecursion (λ message. IsPublicationTold s event draft.after message.client message.reply) draft.replies →
    AllByRecursion (λ message. IsPublicationTold s event draft.after message.client message.reply) draft.later →
    DraftsOnly s event draft
same_only s event draft registrations sources told later = record {
  registrations = λ registration has. inl (rw registrations at has);
  logs = λ log has. inl (is_live s.streams log (rw sources at has));
  told = told;
  later = later;
}

refusal_only : (s : State) (event : Event) (after : State) (decisions : List Decision) (client correlation : ℕ)
    (refusal : Refusal) → after.streams ≡ s.streams → DraftsOnly s event (refused after decisions client correlation refusal)
unfolding refused replied told
refusal_only s event after decisions client correlation refusal same =
    same_only s event _ (ap (λ (t : Streams). t.registrations) same) (ap (λ (t : Streams). t.sources) same) (tt, tt) tt

answer_only : (s : State) (event : Event) (after : State) (response : Response) → after.streams ≡ s.streams →
    DraftsOnly s event (answered after response)
unfolding answered
answer_only s event after response same =
    same_only s event _ (ap (λ (t : Streams). t.registrations) same) (ap (λ (t : Streams). t.sources) same) tt tt

-- ---- any event

command_only : (s : State) (now handle : ℕ) (bytes : List ℕ) →
    Cases (DraftsOnly s (Command now handle bytes)) (at_moment s now) handle bytes
unfolding replied told subscribed with_subscription subscribed_in unsubscribed unsubscribed_in keep_alive counted with_counter valued uncounted directed with_destination recalled without_destination terminated stopped_for_good heard at_moment
command_only s now handle bytes =
    let event : Event = Command now handle bytes in
    let left : State = at_request s now handle in
    record {
      unheard = λ correlation refusal plain not_heard.
          refusal_only s event (at_moment s now) [] handle correlation refusal refl;
      refusal = λ decisions client correlation refusal plain was_heard.
          refusal_only s event left decisions client.number correlation refusal refl;
      denial = λ client correlation act channel stream was_heard found asked denies.
          refusal_only s event left _ client.number correlation _ refl;
      subscription = λ request was_heard asks allows room. same_only s event _ refl refl (tt, tt) tt;
      publication = λ request adding was_heard asks allows is room placed.
          publication_only s now handle bytes request adding (asks_before s now handle bytes request asks)
          (sym (ap (λ (v : Verdict). v.allow) (publication_verdict s now handle request)) ∙ allows)
          (sym (adding_is s now handle (wanted_by request)) ∙ is)
          (sym (room_is s now handle request.client.number (wanted_by request) adding) ∙ room)
          (sym (place_is s now handle (wanted_by request) adding) ∙ placed);
      publication_removal = λ client correlation fields was_heard asks.
          removal_only s event now handle client correlation fields.registration;
      removal = λ request was_heard asks. same_only s event _ refl refl (tt, tt) tt;
      keepalive = λ was_heard. same_only s event _ refl refl tt tt;
      destination = λ request number was_heard asks allows manual is.
          same_only s event _ refl refl (tt, tt) tt;
      destination_removal = λ client correlation fields target was_heard asks is.
          same_only s event _ refl refl (tt, tt) tt;
      counter = λ client correlation fields was_heard asks allows room. same_only s event _ refl refl (tt, tt) tt;
      value = λ client correlation fields was_heard asks. same_only s event _ refl refl (tt, tt) tt;
      counter_removal = λ client correlation fields was_heard asks. same_only s event _ refl refl (tt, tt) (tt, tt);
      closing = λ client correlation was_heard asks. closing_only s event now handle client correlation;
      termination = λ client correlation fields was_heard asks allows.
          record {
            registrations = λ registration has. absurd (contains_none registration has);
            logs = λ log has. absurd (contains_none log has);
            told = (tt, tt);
            later = tt;
          };
    }

attach_only : (s : State) (now principal : ℕ) (inputs : Inputs) → DraftsOnly s (Attach now principal) (drafted s (Attach now principal) inputs)
unfolding drafted attached at_moment
attach_only s now principal inputs =
    attach_cases (DraftsOnly s (Attach now principal)) (at_moment s now) principal
    (answer_only s (Attach now principal) _ _ refl)
    (answer_only s (Attach now principal) _ _ refl)
    (answer_only s (Attach now principal) _ _ refl)

reload_only : (s : State) (now : ℕ) (policy : Rules) (inputs : Inputs) → DraftsOnly s (Reload now policy) (drafted s (Reload now policy) inputs)
unfolding drafted reloaded in_force at_moment
reload_only s now policy inputs =
    reload_cases (DraftsOnly s (Reload now policy)) (at_moment s now) policy
    (λ room. answer_only s (Reload now policy) _ _ refl)
    (λ full. answer_only s (Reload now policy) _ _ refl)

tick_only : (s : State) (now : ℕ) (inputs : Inputs) → DraftsOnly s (Tick now) (drafted s (Tick now) inputs)
unfolding drafted tick ticked closed_past closed at_moment
tick_only s now inputs =
    let clients : List ℕ = late (at_moment s now) in
    record {
      registrations = λ registration has. inl (left_was_registered (at_moment s now) clients registration has);
      logs = λ log has.
          inl (left_was_live (at_moment s now) clients log
          (left_was_there (stays_live _ inputs.silent) (all_left (at_moment s now) clients).streams.sources log has));
      told = tt;
      later = all_timeouts _ (λ client. tt) clients;
    }

image_only : (s : State) (now : ℕ) (local from : Address) (setup : SetupFrame) (join : JoinedAt) (place : ℕ) →
    join_of setup ≡ Some join → setting_of (at_moment s now) (image_wanted_by local from setup join) ≡ Ok place →
    DraftsOnly s (Setup now local from setup) (image_made (at_moment s now) (image_wanted_by local from setup join) place)
unfolding image_made with_image answered at_moment
image_only s now local from setup join place joins set = record {
  registrations = λ registration has. inl has;
  logs = λ log has.
      ⊎_elim
      (λ before. inl (is_live s.streams log before))
      (λ is.
      inr (inr (record {
        now = now;
        local = local;
        from = from;
        setup = setup;
        join = join;
        place = place;
        event_is = refl;
        join_is = joins;
        set = set;
        log_is = sym is;
      })))
      (Contains-push_cases s.streams.sources _ log has);
  told = tt;
  later = tt;
}

set_up_only : (s : State) (now : ℕ) (local from : Address) (setup : SetupFrame) (inputs : Inputs) →
    DraftsOnly s (Setup now local from setup) (drafted s (Setup now local from setup) inputs)
unfolding drafted at_moment
set_up_only s now local from setup inputs =
    set_up_cases (DraftsOnly s (Setup now local from setup)) (at_moment s now) local from setup
    (λ fault. answer_only s (Setup now local from setup) _ _ refl)
    (λ join place is set. image_only s now local from setup join place is set)

pub drafts_only : (s : State) (event : Event) (inputs : Inputs) → DraftsOnly s event (drafted s event inputs)
drafts_only s (Attach now principal) inputs = attach_only s now principal inputs
drafts_only s (Command now handle bytes) inputs =
    command_cases (DraftsOnly s (Command now handle bytes)) s now handle bytes inputs (command_only s now handle bytes)
drafts_only s (Reload now policy) inputs = reload_only s now policy inputs
drafts_only s (Tick now) inputs = tick_only s now inputs
drafts_only s (Setup now local from setup) inputs = set_up_only s now local from setup inputs

renewed_only : (before s : State) (event : Event) (inputs : Inputs) →
    PublishesOnly s event (renewed before inputs (drafted s event inputs))
renewed_only before s event inputs =
    let after : State = (drafted s event inputs).after in
    let only : DraftsOnly s event (drafted s event inputs) = drafts_only s event inputs in
    let same = renewed_after before inputs (drafted s event inputs) in
    rw same (record {
      registrations = only.registrations;
      logs = only.logs;
      told =
          all_replies (λ message. IsPublicationTold s event after message.client message.reply) before inputs
          (drafted s event inputs) only.told (λ client source subscription stream. tt)
          (λ client source subscription session stream position identity. tt) only.later;
    })

-- and images that go take no registration away
ready_as_before : (s : State) (event : Event) (after other : State) (client correlation number : ℕ) (session stream : ℤ)
    (exclusive : Bool) → other.streams.registrations ≡ after.streams.registrations →
    IsReadyBy s event after client correlation number session stream exclusive →
    IsReadyBy s event other client correlation number session stream exclusive
ready_as_before s event after other client correlation number session stream exclusive same ready = record {
  made = ready.made;
  registered = ready.registered;
  stands = rw same ready.stands;
  client_is = ready.client_is;
  number_is = ready.number_is;
  correlation_is = ready.correlation_is;
  session_is = ready.session_is;
  stream_is = ready.stream_is;
  exclusive_is = ready.exclusive_is;
}

told_as_before : (s : State) (event : Event) (after other : State) →
    other.streams.registrations ≡ after.streams.registrations → (client : ℕ) (reply : Reply) →
    IsPublicationTold s event after client reply → IsPublicationTold s event other client reply
told_as_before s event after other same client (PublicationReady correlation number session stream) told =
    ready_as_before s event after other client correlation number session stream false same told
told_as_before s event after other same client (ExclusivePublicationReady correlation number session stream) told =
    ready_as_before s event after other client correlation number session stream true same told
told_as_before s event after other same client (Error correlation refusal) told = tt
told_as_before s event after other same client (OperationSuccess correlation) told = tt
told_as_before s event after other same client (SubscriptionReady correlation registration) told = tt
told_as_before s event after other same client (AvailableImage source subscription session stream position identity) told = tt
told_as_before s event after other same client (UnavailableImage source subscription stream) told = tt
told_as_before s event after other same client (CounterReady correlation registration) told = tt
told_as_before s event after other same client (UnavailableCounter registration) told = tt
told_as_before s event after other same client (ClientTimeout number) told = tt

registrations_stay : (s : State) → (without_unread s).streams.registrations ≡ s.streams.registrations
unfolding without_unread without_unread_in
registrations_stay s = refl

logs_were : (s : State) (log : LogRow) → Contains (without_unread s).streams.sources log → Contains s.streams.sources log
unfolding without_unread without_unread_in
logs_were s log has = left_was_there (is_kept _) s.streams.sources log has

dropping_only : (before s : State) (event : Event) (change : Change) → PublishesOnly s event change →
    PublishesOnly s event (dropping before change)
unfolding dropping
dropping_only before s event change only = record {
  registrations = λ registration has. only.registrations registration (rw (registrations_stay change.after) at has);
  logs = λ log has. only.logs log (logs_were change.after log has);
  told = all_weaker (λ (message : Message). IsPublicationTold s event change.after message.client message.reply)
      (λ (message : Message). IsPublicationTold s event (without_unread change.after) message.client message.reply)
      (λ message told.
      told_as_before s event change.after (without_unread change.after) (registrations_stay change.after) message.client
      message.reply told) change.outcome.replies only.told;
}

pub published_only : (s : State) (event : Event) (inputs : Inputs) →
    PublishesOnly (coming_to s event) event (conduct s event inputs)
unfolding conduct
published_only s event inputs =
    let at : State = coming_to s event in
    dropping_only s at event (renewed s inputs (drafted at event inputs)) (renewed_only s at event inputs)
