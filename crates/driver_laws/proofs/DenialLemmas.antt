-- Denials name the first rule that matches, or the default.
use Rattle.std.proofs.Common.{◌≡◌, ℕ, ℤ, false, List, [], ◌∷◌, Option, Some, None, Result, Ok, Err, inl, inr, refl, sym, ap, ◌∙◌, ⊎_elim}
use Rattle.std.proofs.lemmas.Bool.{cond_both}
use Rattle.std.specs.List.{AllByRecursion}
use Rattle.driver_core.specs.Directing.{directed, recalled, target_of, with_destination, without_destination}
use Rattle.driver_core.proofs.AskingLemmas.{target_asked}
use Rattle.driver_core.specs.declared.state.event.Event.{Event}
use Rattle.driver_core.specs.declared.state.event.Event.TheVariants.{Attach, Command, Reload, Setup, Tick}
use Rattle.driver_core.specs.declared.state.event.Inputs.{Inputs}
use Rattle.driver_core.specs.declared.state.outcome.Response.{Response}
use Rattle.driver_core.specs.declared.state.refusal.Refusal.{Refusal}
use Rattle.driver_core.specs.declared.state.refusal.Refusal.TheVariants.{UnknownCommandType, MalformedCommand, WrongClient, InvalidChannel, UnknownSubscription, UnknownPublication, UnknownCounter, Denied, Conflict, Full, NoRoom}
use Rattle.driver_core.specs.declared.state.replies.Message.{Message}
use Rattle.driver_core.specs.declared.state.setup_fault.SetupFault.{SetupFault}
use Rattle.driver_core.specs.declared.state.setup_fault.SetupFault.TheVariants as fault
use Rattle.driver_core.specs.Attaching.{attached}
use Rattle.driver_core.specs.Closing.{keep_alive, close}
use Rattle.driver_core.specs.Commands.{heard, at_request}
use Rattle.driver_core.specs.Conduct.{coming_to, conduct, drafted, moment_told, outcome_of}
use Rattle.driver_core.specs.Counting.{counted, valued, uncounted}
use Rattle.driver_core.specs.Deciding.{decision_by, question_by}
use Rattle.driver_core.specs.Draft.{Draft, answered, told, replied, replied_opening, refused}
use Rattle.driver_core.specs.Publishing.{published, ready_for, with_directed_publication}
use Rattle.driver_core.specs.Reloading.{reloaded}
use Rattle.driver_core.specs.Requests.{PublicationRequest, SubscriptionRequest, RemovalRequest, IsAsked, wanted_by}
use Rattle.driver_core.specs.State.{State, at_moment}
use Rattle.driver_core.specs.Subscribing.{subscribed}
use Rattle.driver_core.specs.Terminating.{terminated}
use Rattle.driver_core.specs.Ticking.{closed_past, tick, ticked, late}
use Rattle.driver_core.specs.Unpublishing.{unpublished}
use Rattle.driver_core.specs.Unsubscribing.{unsubscribed}
use Rattle.driver_core.specs.Verdicts.{verdict_on}
use Rattle.driver_core.specs.Renewal.{renewed}
use Rattle.driver_core.specs.SettingUp.{image_made, set_by, set_up, set_up_by, setting_of, wanted_by as image_wanted_by}
use Rattle.driver_core.specs.Unread.{dropping}
use Rattle.driver_laws.specs.DenialLaws.{IsDenialNamed, IsDeniedOn, IsImageDeniedOn, IsNamedFault, IsNamedRefusal, IsResponseNamed, NamesDenials}
use Rattle.driver_laws.specs.NumberLaws.{AreRising}
use Rattle.driver_laws.specs.OwnerLaws.{HaveTheirClients}
use Rattle.driver_laws.specs.SettingLaws.{IsDeniedToAll}
use Rattle.channel_uri.specs.Channel.{Shape}
use Rattle.channel_uri.specs.declared.address.Address.{Address}
use Rattle.client_registry.specs.declared.client.Client.{Client}
use Rattle.client_registry.specs.Clients.{client_at}
use Rattle.command_codec.specs.declared.add_counter.AddCounter.{AddCounter}
use Rattle.command_codec.specs.declared.set_counter.SetCounter.{SetCounter}
use Rattle.policy_core.specs.declared.act.Act.{Act}
use Rattle.policy_core.specs.declared.decision.Decision.{Decision}
use Rattle.policy_core.specs.declared.verdict.Verdict.{Verdict}
use Rattle.policy_core.specs.Question.{Question}
use Rattle.policy_core.specs.RuleList.{Rules}
use Rattle.stream_registry.specs.declared.wanted.Adding.{Adding}
use Rattle.stream_registry.specs.declared.wanted.Wanted.{Wanted}
use Rattle.stream_registry.specs.declared.wanted.ImageWanted.{ImageWanted}
use Rattle.stream_registry.specs.Pairs.{image_question}
use Rattle.frame_codec.specs.declared.join.Join.{Join}
use Rattle.frame_codec.specs.declared.setup.Setup.{Setup as SetupFrame}
use Rattle.frame_codec.specs.Join.{join_of}
use Rattle.driver_core.proofs.EventCases.{target_heard, Cases, attach_cases, command_cases, reload_cases}
use Rattle.driver_core.proofs.RuleCases.{IsPlain}
use Rattle.driver_core.proofs.VerdictLemmas.{by_policy}
use Rattle.driver_laws.proofs.ActLemmas.{is_listed}
use Rattle.driver_laws.proofs.DenialTextLemmas.{epoch_of, denial_words, denial_is_named}
use Rattle.driver_laws.proofs.SettingUpLemmas.{denied_is, denied_to}
use Rattle.driver_laws.proofs.SubscribingLemmas.{asks_before, found_number}
use Rattle.driver_laws.proofs.LeavingLemmas.{all_timeouts}
use Rattle.driver_laws.proofs.RenewalLemmas.{all_replies}
use Rattle.driver_laws.proofs.TurningLemmas.{owned_at, rising_at}

-- ---- the cases of an event

plain_named : (s : State) (event : Event) (client correlation : ℕ) (refusal : Refusal) → IsPlain refusal →
    IsNamedRefusal s event client correlation refusal
plain_named s event client correlation (Denied verdict) plain = absurd plain
plain_named s event client correlation UnknownCommandType plain = tt
plain_named s event client correlation MalformedCommand plain = tt
plain_named s event client correlation WrongClient plain = tt
plain_named s event client correlation InvalidChannel plain = tt
plain_named s event client correlation UnknownSubscription plain = tt
plain_named s event client correlation UnknownPublication plain = tt
plain_named s event client correlation UnknownCounter plain = tt
plain_named s event client correlation Conflict plain = tt
plain_named s event client correlation Full plain = tt
plain_named s event client correlation NoRoom plain = tt

abbrev IsNamed : State → Event → Message → Type 0
IsNamed s event message = IsDenialNamed s event message.client message.reply

-- each denial among the replies of a draft is named
record Names (s : State) (event : Event) (draft : Draft) : Type 0 where
  replies : AllByRecursion (IsNamed s event) draft.replies
  later : AllByRecursion (IsNamed s event) draft.later
  response : IsResponseNamed s event draft.response

refusal_names : (s : State) (event : Event) (after : State) (decisions : List Decision) (client correlation : ℕ)
    (refusal : Refusal) → IsNamedRefusal s event client correlation refusal →
    Names s event (refused after decisions client correlation refusal)
unfolding refused replied told
refusal_names s event after decisions client correlation refusal named = record { replies = (named, tt); later = tt; response = tt }

answer_names : (s : State) (event : Event) (after : State) (response : Response) → IsResponseNamed s event response →
    Names s event (answered after response)
unfolding answered
answer_names s event after response named = record { replies = tt; later = tt; response = named }

removal_names : (s : State) (event : Event) (left : State) (request : RemovalRequest) →
    Names s event (unsubscribed left request.client request.correlation request.fields.registration)
unfolding unsubscribed replied told
removal_names s event left request = record { replies = (tt, tt); later = tt; response = tt }

unpublished_names : (s : State) (event : Event) (left : State) (client : Client) (correlation number : ℕ) →
    Names s event (unpublished left client correlation number)
unfolding unpublished replied told
unpublished_names s event left client correlation number = record { replies = (tt, tt); later = tt; response = tt }

reloaded_names : (s : State) (event : Event) (left : State) (policy : Rules) → Names s event (reloaded left policy)
unfolding reloaded answered
reloaded_names s event left policy = record { replies = tt; later = tt; response = tt }

grant_names : (s : State) (now handle : ℕ) (bytes : List ℕ) (request : SubscriptionRequest) →
    Names s (Command now handle bytes) (
    subscribed (at_request s now handle) request.client request.correlation request.channel request.fields.stream)
unfolding subscribed replied told
grant_names s now handle bytes request = record { replies = (tt, tt); later = tt; response = tt }

ready_is_named : (s : State) (event : Event) (client : ℕ) (wanted : Wanted) (correlation number : ℕ) (session : ℤ) →
    IsDenialNamed s event client (ready_for wanted correlation number session)
ready_is_named s event client wanted correlation number session =
    cond_both wanted.exclusive _ _ (IsDenialNamed s event client) (λ e. tt) (λ e. tt)

publication_names : (s : State) (event : Event) (left : State) (request : PublicationRequest) (adding : Adding) →
    Names s event (published left request.client request.correlation (wanted_by request) adding)
unfolding published with_directed_publication replied_opening replied told
publication_names s event left request adding =
    record { replies = (ready_is_named s event request.client.number (wanted_by request) _ _ _, tt); later = tt; response = tt }

keepalive_names : (s : State) (event : Event) (left : State) → Names s event (keep_alive left)
unfolding keep_alive told
keepalive_names s event left = record { replies = tt; later = tt; response = tt }

closing_names : (s : State) (event : Event) (left : State) (client : Client) (correlation : ℕ) →
    Names s event (close left client correlation)
unfolding close replied told
closing_names s event left client correlation = record { replies = (tt, tt); later = tt; response = tt }

counter_names : (s : State) (event : Event) (left : State) (client : Client) (correlation : ℕ) (fields : AddCounter) →
    Names s event (counted left client correlation fields)
unfolding counted replied told
counter_names s event left client correlation fields = record { replies = (tt, tt); later = tt; response = tt }

value_names : (s : State) (event : Event) (left : State) (client : Client) (correlation : ℕ) (fields : SetCounter) →
    Names s event (valued left client correlation fields)
unfolding valued replied told
value_names s event left client correlation fields = record { replies = (tt, tt); later = tt; response = tt }

destination_names : (s : State) (event : Event) (left : State) (client : Client) (correlation : ℕ) (granted : _) →
    Names s event (directed left client correlation granted)
unfolding directed with_destination replied told
destination_names s event left client correlation granted = record { replies = (tt, tt); later = tt; response = tt }

destination_removal_names : (s : State) (event : Event) (left : State) (client : Client) (correlation : ℕ) (target : _) →
    Names s event (recalled left client correlation target)
unfolding recalled without_destination replied told
destination_removal_names s event left client correlation target = record { replies = (tt, tt); later = tt; response = tt }

counter_removal_names : (s : State) (event : Event) (left : State) (client : Client) (correlation number : ℕ) →
    Names s event (uncounted left client correlation number)
unfolding uncounted told
counter_removal_names s event left client correlation number = record { replies = (tt, tt); later = (tt, tt); response = tt }

termination_names : (s : State) (event : Event) (left : State) (client : Client) (correlation : ℕ) →
    Names s event (terminated left client correlation)
unfolding terminated
termination_names s event left client correlation = record { replies = (tt, tt); later = tt; response = tt }

-- ---- a denial

-- a destination's target is the same at that moment
target_before : (s : State) (now handle client number : ℕ) (channel : Shape) →
    target_of s client number channel ≡ target_of (at_moment s now) client number channel
target_before s now handle client number channel =
    sym (target_asked s now handle client number channel)
    ∙ target_heard (at_moment s now) handle client number channel

pub asked_before : (s : State) (now handle : ℕ) (bytes : List ℕ) (correlation : ℕ) (question : Question) →
    IsAsked (at_moment s now) handle bytes correlation question → IsAsked s handle bytes correlation question
unfolding at_moment
asked_before s now handle bytes correlation question asked =
    ⊎_elim
    (λ by.
    inl (record {
      request = by.request;
      asks = asks_before s now handle bytes by.request by.asks;
      correlation_is = by.correlation_is;
      question_is = by.question_is;
    }))
    (λ others.
    ⊎_elim
    (λ by.
    inr (inl (record {
      client = by.client;
      fields = by.fields;
      asks = record { command = by.asks.command; attached = by.asks.attached };
      question_is = by.question_is;
    })))
    (λ further.
    ⊎_elim
    (λ by.
    inr (inr (inl (record {
      client = by.client;
      fields = by.fields;
      asks = record { command = by.asks.command; attached = by.asks.attached };
      question_is = by.question_is;
    }))))
    (λ rest.
    ⊎_elim
    (λ by.
    inr (inr (inr (inl (record {
      request = by.request;
      asks = record {
        asks = record { command = by.asks.asks.command; attached = by.asks.asks.attached };
        denotes_channel = by.asks.denotes_channel;
        takes_channel = by.asks.takes_channel;
      };
      correlation_is = by.correlation_is;
      question_is = by.question_is;
    })))))
    (λ by.
    inr (inr (inr (inr (record {
      request = by.request;
      asks = record {
        asks = record { command = by.asks.asks.command; attached = by.asks.asks.attached };
        denotes_channel = by.asks.denotes_channel;
        names_target =
            target_before s now handle by.request.client.number by.request.fields.registration by.request.channel
            ∙ by.asks.names_target;
      };
      correlation_is = by.correlation_is;
      question_is = by.question_is;
    })))))
    rest)
    further)
    others)
    asked

denied_on : (s : State) (now handle : ℕ) (bytes : List ℕ) (correlation : ℕ) (question : Question) →
    IsAsked s handle bytes correlation question → (verdict_on s question).allow ≡ false →
    IsDeniedOn s (Command now handle bytes) handle correlation (verdict_on s question)
denied_on s now handle bytes correlation question asked denies = record {
  moment = now;
  bytes = bytes;
  question = question;
  event_is = refl;
  asks = is_listed s handle bytes correlation question asked;
  verdict_is = refl;
  by = by_policy s question;
  denies = denies;
  words = denial_words (verdict_on s question);
  text = denial_is_named (verdict_on s question) s.epoch denies (epoch_of s question);
}

-- what is decided at the event is the verdict of the policy that was in force
decided_is : (s : State) (now handle : ℕ) (client : Client) (act : Act) (channel : Shape) (stream : ℤ) →
    (decision_by (at_request s now handle) client act channel stream).verdict
    ≡ verdict_on s (question_by client act channel stream)
unfolding decision_by heard at_moment
decided_is s now handle client act channel stream = refl

denial_names : (s : State) (now handle : ℕ) (bytes : List ℕ) (client : Client) (correlation : ℕ) (act : Act)
    (channel : Shape) (stream : ℤ) → client_at (at_moment s now).clients.rows handle ≡ Some client →
    IsAsked (at_moment s now) handle bytes correlation (question_by client act channel stream) →
    (decision_by (at_request s now handle) client act channel stream).verdict.allow ≡ false →
    Names s (Command now handle bytes) (
    refused (at_request s now handle) (decision_by (at_request s now handle) client act channel stream ∷ [])
    client.number correlation
    (Denied (decision_by (at_request s now handle) client act channel stream).verdict))
denial_names s now handle bytes client correlation act channel stream found asked denies =
    let question = question_by client act channel stream in
    let is = decided_is s now handle client act channel stream in
    let word = ap (λ (v : Verdict). v.allow) is in
    let own : client.number ≡ handle = found_number (at_moment s now).clients.rows handle client found in
    refusal_names s (Command now handle bytes) (at_request s now handle) _ client.number correlation
    (Denied (decision_by (at_request s now handle) client act channel stream).verdict)
    (rw (is, own)
    (denied_on s now handle bytes correlation question (asked_before s now handle bytes correlation question asked)
    (sym word ∙ denies)))

command_names : (s : State) (now handle : ℕ) (bytes : List ℕ) →
    Cases (Names s (Command now handle bytes)) (at_moment s now) handle bytes
command_names s now handle bytes =
    let event = Command now handle bytes in
    let left = at_request s now handle in
    record {
      unheard = λ correlation refusal plain not_heard.
          refusal_names s event (at_moment s now) [] handle correlation refusal
          (plain_named s event handle correlation refusal plain);
      refusal = λ decisions client correlation refusal plain was_heard.
          refusal_names s event left decisions client.number correlation refusal
          (plain_named s event client.number correlation refusal plain);
      denial = λ client correlation act channel stream was_heard found asked denies.
          denial_names s now handle bytes client correlation act channel stream found asked denies;
      subscription = λ request was_heard asks allows room. grant_names s now handle bytes request;
      publication = λ request adding was_heard asks allows is room place. publication_names s event left request adding;
      publication_removal = λ client correlation fields was_heard asks.
          unpublished_names s event left client correlation fields.registration;
      removal = λ request was_heard asks. removal_names s event left request;
      keepalive = λ was_heard. keepalive_names s event left;
      destination = λ request number was_heard asks allows manual is.
          destination_names s event left request.client request.correlation _;
      destination_removal = λ client correlation fields target was_heard asks is.
          destination_removal_names s event left client correlation target;
      counter = λ client correlation fields was_heard asks allows room.
          counter_names s event left client correlation fields;
      value = λ client correlation fields was_heard asks. value_names s event left client correlation fields;
      counter_removal = λ client correlation fields was_heard asks.
          counter_removal_names s event left client correlation fields.registration;
      closing = λ client correlation was_heard asks. closing_names s event left client correlation;
      termination = λ client correlation fields was_heard asks allows.
          termination_names s event left client correlation;
    }

attach_names : (s : State) (now principal : ℕ) (inputs : Inputs) →
    Names s (Attach now principal) (drafted s (Attach now principal) inputs)
unfolding drafted attached
attach_names s now principal inputs =
    attach_cases (Names s (Attach now principal)) (at_moment s now) principal
    (answer_names s (Attach now principal) _ _ tt)
    (answer_names s (Attach now principal) _ _ tt)
    (answer_names s (Attach now principal) _ _ tt)

tick_names : (s : State) (now : ℕ) (inputs : Inputs) → Names s (Tick now) (drafted s (Tick now) inputs)
unfolding drafted tick ticked closed_past
tick_names s now inputs = record { replies = tt; later = all_timeouts _ (λ client. tt) (late (at_moment s now)); response = tt }

reload_names : (s : State) (now : ℕ) (policy : Rules) (inputs : Inputs) →
    Names s (Reload now policy) (drafted s (Reload now policy) inputs)
unfolding drafted
reload_names s now policy inputs =
    reload_cases (Names s (Reload now policy)) (at_moment s now) policy
    (λ room. reloaded_names s (Reload now policy) _ policy)
    (λ full. answer_names s (Reload now policy) _ _ tt)

image_names : (s : State) (event : Event) (left : State) (wanted : ImageWanted) (place : ℕ) →
    Names s event (image_made left wanted place)
unfolding image_made answered
image_names s event left wanted place = record { replies = tt; later = tt; response = tt }

-- a SETUP whose image is denied to each that it fits
image_denied : (s : State) (now : ℕ) (local from : Address) (setup : SetupFrame) (join : Join) (verdict : Verdict) →
    AreRising s → HaveTheirClients s → join_of setup ≡ Some join →
    setting_of (at_moment s now) (image_wanted_by local from setup join) ≡ Err (fault.Denied verdict) →
    IsImageDeniedOn s (Setup now local from setup) verdict
image_denied s now local from setup join verdict rises owned is set =
    let wanted : ImageWanted = image_wanted_by local from setup join in
    let all : IsDeniedToAll s now wanted verdict =
    denied_to s now wanted verdict rises owned (denied_is (at_moment s now) wanted verdict set) in
    let question : Question = image_question all.principal all.first in
    let denies : verdict.allow ≡ false =
    ap (λ (v : Verdict). v.allow) all.verdict_is
    ∙ all.denies all.first all.principal all.stands all.fitting all.attached in
    let epoch : verdict.epoch ≡ s.epoch = ap (λ (v : Verdict). v.epoch) all.verdict_is ∙ epoch_of s question in
    record {
      now = now;
      local = local;
      from = from;
      setup = setup;
      join = join;
      event_is = refl;
      join_is = is;
      to_all = all;
      denies = denies;
      text = sym (denial_words verdict) ∙ denial_is_named verdict s.epoch denies epoch;
    }

fault_named : (s : State) (now : ℕ) (local from : Address) (setup : SetupFrame) (join : Join) (why : SetupFault) →
    AreRising s → HaveTheirClients s → join_of setup ≡ Some join →
    setting_of (at_moment s now) (image_wanted_by local from setup join) ≡ Err why →
    IsNamedFault s (Setup now local from setup) why
fault_named s now local from setup join (fault.Denied verdict) rises owned is set =
    image_denied s now local from setup join verdict rises owned is set
fault_named s now local from setup join fault.BadSetup rises owned is set = tt
fault_named s now local from setup join fault.Exists rises owned is set = tt
fault_named s now local from setup join fault.NoSubscription rises owned is set = tt
fault_named s now local from setup join fault.Full rises owned is set = tt
fault_named s now local from setup join fault.NoRoom rises owned is set = tt

set_names : (s : State) (now : ℕ) (local from : Address) (setup : SetupFrame) (join : Join) → AreRising s →
    HaveTheirClients s → join_of setup ≡ Some join → (found : Result ℕ SetupFault) →
    setting_of (at_moment s now) (image_wanted_by local from setup join) ≡ found →
    Names s (Setup now local from setup) (set_by (at_moment s now) (image_wanted_by local from setup join) found)
set_names s now local from setup join rises owned is (Ok place) set =
    image_names s (Setup now local from setup) (at_moment s now) _ place
set_names s now local from setup join rises owned is (Err why) set =
    answer_names s (Setup now local from setup) _ _ (fault_named s now local from setup join why rises owned is set)

joining_names : (s : State) (now : ℕ) (local from : Address) (setup : SetupFrame) → AreRising s → HaveTheirClients s →
    (found : Option Join) → join_of setup ≡ found →
    Names s (Setup now local from setup) (set_up_by (at_moment s now) local from setup found)
joining_names s now local from setup rises owned None is = answer_names s (Setup now local from setup) _ _ tt
joining_names s now local from setup rises owned (Some join) is =
    set_names s now local from setup join rises owned is _ refl

set_up_names : (s : State) (now : ℕ) (local from : Address) (setup : SetupFrame) (inputs : Inputs) → AreRising s →
    HaveTheirClients s → Names s (Setup now local from setup) (drafted s (Setup now local from setup) inputs)
unfolding drafted set_up
set_up_names s now local from setup inputs rises owned =
    joining_names s now local from setup rises owned (join_of setup) refl

draft_names : (s : State) (event : Event) (inputs : Inputs) → AreRising s → HaveTheirClients s →
    Names s event (drafted s event inputs)
draft_names s (Attach now principal) inputs rises owned = attach_names s now principal inputs
draft_names s (Command now handle bytes) inputs rises owned =
    command_cases (Names s (Command now handle bytes)) s now handle bytes inputs (command_names s now handle bytes)
draft_names s (Reload now policy) inputs rises owned = reload_names s now policy inputs
draft_names s (Tick now) inputs rises owned = tick_names s now inputs
draft_names s (Setup now local from setup) inputs rises owned = set_up_names s now local from setup inputs rises owned

-- what is told of images denies nothing
replies_named : (s : State) (event : Event) (inputs : Inputs) →
    Names (coming_to s event) event (drafted (coming_to s event) event inputs) →
    AllByRecursion (IsNamed (coming_to s event) event) (outcome_of s event inputs).replies
unfolding conduct dropping
replies_named s event inputs names =
    all_replies (IsNamed (coming_to s event) event) s inputs (drafted (coming_to s event) event inputs) names.replies
    (λ client source subscription stream. tt)
    (λ client source subscription session stream position identity. tt)
    names.later

pub denials_named : (s : State) (event : Event) (inputs : Inputs) → AreRising s → HaveTheirClients s →
    NamesDenials (coming_to s event) event (outcome_of s event inputs)
unfolding conduct dropping renewed
denials_named s event inputs rises owned =
    let names = draft_names (coming_to s event) event inputs (rising_at s (moment_told event) rises)
    (owned_at s (moment_told event) owned) in
    record {
      replies = replies_named s event inputs names;
      response = names.response;
    }
