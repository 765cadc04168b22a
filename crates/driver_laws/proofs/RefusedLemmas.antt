-- What is answered that it is refused is granted nothing by its own rule.
use Rattle.std.proofs.Common.{ℕ, Bool, true, false, if◌then◌else◌, List, [], ◌∷◌, ◌++◌, refl, ⊎_elim}
use Rattle.std.specs.List.{AllByRecursion}
use Rattle.driver_core.specs.Directing.{directed, recalled, with_destination, without_destination}
use Rattle.driver_core.specs.declared.state.event.Event.{Event}
use Rattle.driver_core.specs.declared.state.event.Event.TheVariants.{Attach, Command, Reload, Setup, Tick}
use Rattle.driver_core.specs.declared.state.event.Inputs.{Inputs}
use Rattle.driver_core.specs.declared.state.outcome.Response.{Response}
use Rattle.driver_core.specs.declared.state.outcome.Response.TheVariants as response
use Rattle.driver_core.specs.declared.state.refusal.Refusal.{Refusal}
use Rattle.driver_core.specs.declared.state.replies.Message.{Message}
use Rattle.driver_core.specs.declared.state.replies.Reply.{Reply}
use Rattle.driver_core.specs.Attaching.{attached}
use Rattle.driver_core.specs.Closing.{keep_alive, close}
use Rattle.driver_core.specs.Commands.{heard}
use Rattle.driver_core.specs.Conduct.{coming_to, conduct, drafted, outcome_of}
use Rattle.driver_core.specs.Counting.{counted, valued, uncounted}
use Rattle.driver_core.specs.Draft.{Draft, answered, told, replied, replied_opening, refused}
use Rattle.driver_core.specs.Publishing.{published, with_directed_publication}
use Rattle.driver_core.specs.Reloading.{reloaded}
use Rattle.driver_core.specs.Renewal.{come_to, gone_from, images_told, renewed}
use Rattle.driver_core.specs.Requests.{PublicationRequest, SubscriptionRequest, RemovalRequest, wanted_by}
use Rattle.driver_core.specs.SettingUp.{image_made}
use Rattle.driver_core.specs.State.{State, at_moment}
use Rattle.driver_core.specs.Subscribing.{subscribed}
use Rattle.driver_core.specs.Terminating.{terminated}
use Rattle.driver_core.specs.Ticking.{late, tick, ticked}
use Rattle.driver_core.specs.Unpublishing.{unpublished}
use Rattle.driver_core.specs.Unread.{dropping}
use Rattle.driver_core.specs.Unsubscribing.{unsubscribed}
use Rattle.driver_laws.specs.RefusalLaws.{BeginsWithError, GrantsNothingItself, IsError, IsNoGrant, IsRefused, IsRefusedBy, TakesByMomentAlone}
use Rattle.client_registry.specs.declared.client.Client.{Client}
use Rattle.command_codec.specs.declared.add_counter.AddCounter.{AddCounter}
use Rattle.command_codec.specs.declared.set_counter.SetCounter.{SetCounter}
use Rattle.policy_core.specs.declared.decision.Decision.{Decision}
use Rattle.policy_core.specs.RuleList.{Rules}
use Rattle.stream_registry.specs.declared.wanted.Adding.{Adding}
use Rattle.stream_registry.specs.declared.wanted.ImageWanted.{ImageWanted}
use Rattle.driver_core.proofs.EventCases.{Cases, attach_cases, command_cases, reload_cases, set_up_cases}
use Rattle.driver_laws.proofs.LeavingLemmas.{all_timeouts}
use Rattle.driver_laws.proofs.RefusalLemmas.{refusals_take}
use Rattle.driver_laws.proofs.RenewalLemmas.{all_append, all_images}

-- ---- what an event's own rule says

abbrev IsNoError : Message → Type 0
IsNoError message = IsError message.reply → ⊥

-- where it says that the event is refused, it grants nothing, and what it replies after the images' replies refuses nothing
record SaysSo (draft : Draft) : Type 0 where
  answer : IsRefusedBy draft.response → GrantsNothingItself draft
  reply : BeginsWithError draft.replies → GrantsNothingItself draft
  later : AllByRecursion IsNoError draft.later

refusal_says : (after : State) (decisions : List Decision) (client correlation : ℕ) (refusal : Refusal) →
    SaysSo (refused after decisions client correlation refusal)
unfolding refused replied told
refusal_says after decisions client correlation refusal = record {
  answer = λ is. absurd is;
  reply = λ is. record { response = tt; replies = (tt, tt); later = refl; opens = refl; closes = refl };
  later = tt;
}

no_grant : (answer : Response) → IsRefusedBy answer → IsNoGrant answer
no_grant response.Nothing is = tt
no_grant (response.Attached number) is = absurd is
no_grant response.Full is = tt
no_grant response.Stopped is = tt
no_grant (response.PolicyInForce epoch) is = absurd is
no_grant response.PolicyFull is = tt
no_grant (response.Imaged number) is = absurd is
no_grant (response.Dropped why) is = tt

answer_says : (after : State) (answer : Response) → SaysSo (answered after answer)
unfolding answered
answer_says after answer = record {
  answer = λ is. record { response = no_grant answer is; replies = tt; later = refl; opens = refl; closes = refl };
  reply = λ is. absurd is;
  later = tt;
}

attached_says : (s : State) (principal : ℕ) → SaysSo (attached s principal)
unfolding attached answered
attached_says s principal = record { answer = λ is. absurd is; reply = λ is. absurd is; later = tt }

reloaded_says : (s : State) (policy : Rules) → SaysSo (reloaded s policy)
unfolding reloaded answered
reloaded_says s policy = record { answer = λ is. absurd is; reply = λ is. absurd is; later = tt }

image_says : (s : State) (wanted : ImageWanted) (place : ℕ) → SaysSo (image_made s wanted place)
unfolding image_made answered
image_says s wanted place = record { answer = λ is. absurd is; reply = λ is. absurd is; later = tt }

subscription_says : (s : State) (request : SubscriptionRequest) →
    SaysSo (subscribed s request.client request.correlation request.channel request.fields.stream)
unfolding subscribed replied told
subscription_says s request = record { answer = λ is. absurd is; reply = λ is. absurd is; later = tt }

-- an answer to a publication is no error
ready_no_error : (exclusive : Bool) (ready other : Reply) → (IsError ready → ⊥) → (IsError other → ⊥) →
    IsError (if exclusive then ready else other) → ⊥
ready_no_error true ready other first second is = first is
ready_no_error false ready other first second is = second is

publication_says : (s : State) (request : PublicationRequest) (adding : Adding) →
    SaysSo (published s request.client request.correlation (wanted_by request) adding)
unfolding published with_directed_publication replied_opening replied told
publication_says s request adding = record {
  answer = λ is. absurd is;
  reply = λ is. absurd (ready_no_error request.exclusive _ _ (λ no. no) (λ no. no) is);
  later = tt;
}

publication_removal_says : (s : State) (client : Client) (correlation number : ℕ) →
    SaysSo (unpublished s client correlation number)
unfolding unpublished replied told
publication_removal_says s client correlation number =
    record { answer = λ is. absurd is; reply = λ is. absurd is; later = tt }

removal_says : (s : State) (request : RemovalRequest) →
    SaysSo (unsubscribed s request.client request.correlation request.fields.registration)
unfolding unsubscribed replied told
removal_says s request = record { answer = λ is. absurd is; reply = λ is. absurd is; later = tt }

keepalive_says : (s : State) → SaysSo (keep_alive s)
unfolding keep_alive told
keepalive_says s = record { answer = λ is. absurd is; reply = λ is. absurd is; later = tt }

closing_says : (s : State) (client : Client) (correlation : ℕ) → SaysSo (close s client correlation)
unfolding close replied told
closing_says s client correlation = record { answer = λ is. absurd is; reply = λ is. absurd is; later = tt }

counter_says : (s : State) (client : Client) (correlation : ℕ) (fields : AddCounter) →
    SaysSo (counted s client correlation fields)
unfolding counted replied told
counter_says s client correlation fields = record { answer = λ is. absurd is; reply = λ is. absurd is; later = tt }

value_says : (s : State) (client : Client) (correlation : ℕ) (fields : SetCounter) →
    SaysSo (valued s client correlation fields)
unfolding valued replied told
value_says s client correlation fields = record { answer = λ is. absurd is; reply = λ is. absurd is; later = tt }

counter_removal_says : (s : State) (client : Client) (correlation number : ℕ) →
    SaysSo (uncounted s client correlation number)
unfolding uncounted told
counter_removal_says s client correlation number =
    record { answer = λ is. absurd is; reply = λ is. absurd is; later = (λ is. is, tt) }

destination_says : (s : State) (client : Client) (correlation : ℕ) (granted : _) →
    SaysSo (directed s client correlation granted)
unfolding directed with_destination replied told
destination_says s client correlation granted =
    record { answer = λ is. absurd is; reply = λ is. absurd is; later = tt }

destination_removal_says : (s : State) (client : Client) (correlation : ℕ) (target : _) →
    SaysSo (recalled s client correlation target)
unfolding recalled without_destination replied told
destination_removal_says s client correlation target =
    record { answer = λ is. absurd is; reply = λ is. absurd is; later = tt }

termination_says : (s : State) (client : Client) (correlation : ℕ) → SaysSo (terminated s client correlation)
unfolding terminated
termination_says s client correlation = record { answer = λ is. absurd is; reply = λ is. absurd is; later = tt }

ticked_says : (s : State) (clients silent : List ℕ) → SaysSo (ticked s clients silent)
unfolding ticked
ticked_says s clients silent = record {
  answer = λ is. absurd is;
  reply = λ is. absurd is;
  later = all_timeouts IsNoError (λ client is. is) clients;
}

command_says : (s : State) (now handle : ℕ) (bytes : List ℕ) → Cases SaysSo (at_moment s now) handle bytes
command_says s now handle bytes =
    let left = heard (at_moment s now) handle in
    record {
      unheard = λ correlation refusal plain unheard. refusal_says (at_moment s now) [] handle correlation refusal;
      refusal = λ decisions client correlation refusal plain was_heard.
          refusal_says left decisions client.number correlation refusal;
      denial = λ client correlation act channel stream was_heard found asked denies.
          refusal_says left _ client.number correlation _;
      subscription = λ request was_heard asks allows room. subscription_says left request;
      publication = λ request adding was_heard asks allows is room place. publication_says left request adding;
      publication_removal = λ client correlation fields was_heard asks.
          publication_removal_says left client correlation fields.registration;
      removal = λ request was_heard asks. removal_says left request;
      keepalive = λ was_heard. keepalive_says left;
      destination = λ request number was_heard asks allows manual is.
          destination_says left request.client request.correlation _;
      destination_removal = λ client correlation fields target was_heard asks is.
          destination_removal_says left client correlation target;
      counter = λ client correlation fields was_heard asks allows room. counter_says left client correlation fields;
      value = λ client correlation fields was_heard asks. value_says left client correlation fields;
      counter_removal = λ client correlation fields was_heard asks.
          counter_removal_says left client correlation fields.registration;
      closing = λ client correlation was_heard asks. closing_says left client correlation;
      termination = λ client correlation fields was_heard asks allows. termination_says left client correlation;
    }

draft_says : (s : State) (event : Event) (inputs : Inputs) → SaysSo (drafted s event inputs)
unfolding drafted tick
draft_says s (Attach now principal) inputs =
    attach_cases SaysSo (at_moment s now) principal (answer_says (at_moment s now) _)
    (attached_says (at_moment s now) principal) (answer_says (at_moment s now) _)
draft_says s (Command now handle bytes) inputs =
    command_cases SaysSo s now handle bytes inputs (command_says s now handle bytes)
draft_says s (Reload now policy) inputs =
    reload_cases SaysSo (at_moment s now) policy (λ room. reloaded_says (at_moment s now) policy)
    (λ full. answer_says (at_moment s now) _)
draft_says s (Tick now) inputs = ticked_says _ (late (at_moment s now)) inputs.silent
draft_says s (Setup now local from setup) inputs =
    set_up_cases SaysSo (at_moment s now) local from setup (λ fault. answer_says (at_moment s now) _)
    (λ join place is set. image_says (at_moment s now) _ place)

-- ---- and so the event

-- where what comes after it is no error, the first is the event's own
begins_own : (own rest : List Message) → AllByRecursion IsNoError rest → BeginsWithError (own ++ rest) →
    BeginsWithError own
begins_own [] [] none is = is
begins_own [] (message ∷ messages) none is = absurd (none.0 is)
begins_own (message ∷ messages) rest none is = is

says_of : (s : State) (inputs : Inputs) (draft : Draft) → SaysSo draft →
    IsRefused (dropping s (renewed s inputs draft)).outcome → GrantsNothingItself draft
unfolding dropping renewed
says_of s inputs draft says is =
    let images : List Message =
    images_told draft.after inputs (gone_from s draft.after) (come_to s draft.after) in
    ⊎_elim says.answer
    (λ begins.
    says.reply
    (begins_own draft.replies (images ++ draft.later)
    (all_append IsNoError images draft.later
    (all_images IsNoError (record {
      unavailable = λ client source subscription stream no. no;
      available = λ client source subscription session stream position identity no. no;
    }) draft.after inputs _ _) says.later)
    begins))
    is

refused_so : (s : State) (event : Event) (inputs : Inputs) → IsRefused (outcome_of s event inputs) →
    GrantsNothingItself (drafted (coming_to s event) event inputs)
unfolding conduct
refused_so s event inputs is =
    says_of s inputs (drafted (coming_to s event) event inputs) (draft_says (coming_to s event) event inputs) is

pub refused_take : (s : State) (event : Event) (inputs : Inputs) →
    TakesByMomentAlone s event inputs (drafted (coming_to s event) event inputs)
refused_take s event inputs = record {
  refused = λ is. refusals_take s event inputs (refused_so s event inputs is);
  moved = refusals_take s event inputs;
}
