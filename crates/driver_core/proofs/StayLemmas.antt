-- What an event leaves was there before it, or has a number above those that were drawn.
use Rattle.std.proofs.Common.{◌≡◌, ℕ, ◌<◌, ◌≤◌, Bool, true, false, cond, List, [], ◌∷◌, ◌++◌, map, ◌⊎◌, inl, inr, ⊎_elim, refl, ap, ◌∙◌, arith}
use Rattle.std.specs.List.{Contains}
use Rattle.std.proofs.lemmas.List.Elements.{All-contains, All-contains_itself, All-map, All-weaker, Contains-push_cases}
use Rattle.driver_core.specs.Draft.{Draft}
use Rattle.driver_core.specs.declared.state.event.Event.{Event}
use Rattle.driver_core.specs.declared.state.event.Event.TheVariants.{Attach, Command, Reload, Setup, Tick}
use Rattle.driver_core.specs.declared.state.event.Inputs.{Inputs}
use Rattle.driver_core.specs.declared.state.outcome.Response.{Response}
use Rattle.driver_core.specs.declared.state.refusal.Refusal.{Refusal}
use Rattle.driver_core.specs.Attaching.{attached}
use Rattle.driver_core.specs.Closing.{keep_alive, close}
use Rattle.driver_core.specs.Commands.{heard, at_request}
use Rattle.driver_core.specs.Conduct.{coming_to, conduct, drafted, moment_told, state_after}
use Rattle.driver_core.specs.Directing.{directed, recalled, with_destination, without_destination}
use Rattle.driver_core.specs.declared.rules.directing.Directed.{Directed}
use Rattle.driver_core.specs.declared.rules.directing.Target.{Target}
use Rattle.driver_core.specs.Counting.{counted, with_counter, valued, uncounted}
use Rattle.driver_core.specs.Draft.{answered, told, replied, replied_opening, refused}
use Rattle.driver_core.specs.Leaving.{left, all_left}
use Rattle.driver_core.specs.Looking.{IsSameOrNewer}
use Rattle.driver_core.specs.Publishing.{published, with_directed_publication, with_publication}
use Rattle.driver_core.specs.Reloading.{in_force, reloaded}
use Rattle.driver_core.specs.Renewal.{renewed}
use Rattle.driver_core.specs.Requests.{RemovalRequest, SubscriptionRequest, wanted_by}
use Rattle.driver_core.specs.SettingUp.{image_made, with_image}
use Rattle.driver_core.specs.State.{State, at_moment, ruled}
use Rattle.driver_core.specs.Subscribing.{subscribed, with_subscription}
use Rattle.driver_core.specs.Terminating.{stopped_for_good, terminated}
use Rattle.driver_core.specs.Ticking.{closed_past, late, tick, ticked}
use Rattle.driver_core.specs.Unpublishing.{unpublished}
use Rattle.driver_core.specs.Unread.{dropping, without_unread}
use Rattle.driver_core.specs.Unsubscribing.{unsubscribed}
use Rattle.client_registry.specs.declared.client.Client.{Client}
use Rattle.command_codec.specs.declared.add_counter.AddCounter.{AddCounter}
use Rattle.command_codec.specs.declared.set_counter.SetCounter.{SetCounter}
use Rattle.log_readers.specs.Unread.{is_kept, without_unread as without_unread_in}
use Rattle.policy_core.specs.declared.decision.Decision.{Decision}
use Rattle.policy_core.specs.RuleList.{Rules}
use Rattle.stream_registry.specs.declared.row.LogRow.{LogRow}
use Rattle.stream_registry.specs.declared.row.Registration.{Registration}
use Rattle.stream_registry.specs.declared.row.Subscription.{Subscription}
use Rattle.stream_registry.specs.declared.wanted.Adding.{Adding}
use Rattle.stream_registry.specs.declared.wanted.Adding.TheVariants.{Join, Make}
use Rattle.stream_registry.specs.declared.wanted.ImageWanted.{ImageWanted}
use Rattle.stream_registry.specs.declared.wanted.Wanted.{Wanted}
use Rattle.stream_registry.specs.Adding.{subscribed as subscribed_in}
use Rattle.stream_registry.specs.Leaving.{is_another_registration, is_another_subscription, is_registration_of_another, is_subscription_of_another, left as left_in, unregistered, unsubscribed as unsubscribed_in}
use Rattle.stream_registry.specs.Lingering.{closed, is_used, left_alone, settled, settled_one, stays_live}
use Rattle.driver_core.proofs.EventCases.{Cases, attach_cases, command_cases, reload_cases, set_up_cases}
use Rattle.driver_core.proofs.ListLemmas.{contains_none, left_was_there}

-- a log of that source and that stream was there
pub record WasLog (logs : List LogRow) (log : LogRow) : Type 0 where
  pub before : LogRow
  pub stood : Contains logs before
  pub source_is : before.number ≡ log.number
  pub stream_is : before.stream ≡ log.stream

pub record Stays (s after : State) : Type 0 where
  pub last : s.last_number ≤ after.last_number
  pub policy : IsSameOrNewer s after
  pub registrations :
      (row : Registration) → Contains after.streams.registrations row →
      Contains s.streams.registrations row ⊎ (s.last_number < row.number)
  pub subscriptions :
      (row : Subscription) → Contains after.streams.subscriptions row →
      Contains s.streams.subscriptions row ⊎ (s.last_number < row.number)
  pub logs :
      (log : LogRow) → Contains after.streams.sources log →
      WasLog s.streams.sources log ⊎ (s.last_number < log.number)

-- ---- one list

pushed : {A : Type 0} (number_of : A → ℕ) (last : ℕ) (rows : List A) (new row : A) → last < number_of new →
    Contains (rows ++ new ∷ []) row → Contains rows row ⊎ (last < number_of row)
pushed number_of last rows new row above has =
    ⊎_elim (λ before. inl before)
    (λ (is : new ≡ row).
    let number : number_of new ≡ number_of row = ap number_of is in
    inr (omega (arith, number, above)))
    (Contains-push_cases rows new row has)

same_log : (logs : List LogRow) (log : LogRow) → Contains logs log → WasLog logs log
same_log logs log has = record { before = log; stood = has; source_is = refl; stream_is = refl }

settled_source : (b : Bool) (now : ℕ) (log : LogRow) → log.number ≡ (cond b log (left_alone now log)).number
settled_source true now log = refl
settled_source false now log = refl

settled_stream : (b : Bool) (now : ℕ) (log : LogRow) → log.stream ≡ (cond b log (left_alone now log)).stream
settled_stream true now log = refl
settled_stream false now log = refl

settled_was : (logs : List LogRow) (registrations : List Registration) (now : ℕ) (log : LogRow) →
    Contains (map (settled_one registrations now) logs) log → WasLog logs log
settled_was logs registrations now log has =
    let settle = settled_one registrations now in
    All-contains (WasLog logs) (map settle logs) log
    (All-map (WasLog logs) settle logs
    (All-weaker (Contains logs) (λ before. WasLog logs (settle before))
    (λ before stood.
    record {
      before = before;
      stood = stood;
      source_is = settled_source (is_used registrations before.number) now before;
      stream_is = settled_stream (is_used registrations before.number) now before;
    })
    logs (All-contains_itself logs)))
    has

-- ---- what changes none of these lists

same_streams : (s after : State) → after.streams ≡ s.streams → s.last_number ≤ after.last_number →
    IsSameOrNewer s after → Stays s after
same_streams s after streams last policy = record {
  last = last;
  policy = policy;
  registrations = λ row has. inl (rw (← streams) has);
  subscriptions = λ row has. inl (rw (← streams) has);
  logs = λ log has. inl (same_log s.streams.sources log (rw (← streams) has));
}

nothing_stays : (s : State) → Stays s s
nothing_stays s = same_streams s s refl (omega arith) (inl (refl, refl))

refusal_stays : (s : State) (decisions : List Decision) (client correlation : ℕ) (refusal : Refusal) →
    Stays s (refused s decisions client correlation refusal).after
unfolding refused replied told
refusal_stays s decisions client correlation refusal = nothing_stays s

answer_stays : (s : State) (response : Response) → Stays s (answered s response).after
unfolding answered
answer_stays s response = nothing_stays s

keepalive_stays : (s : State) → Stays s (keep_alive s).after
unfolding keep_alive told
keepalive_stays s = nothing_stays s

attached_stays : (s : State) (principal : ℕ) → Stays s (attached s principal).after
unfolding attached answered
attached_stays s principal = same_streams s _ refl (omega arith) (inl (refl, refl))

reloaded_stays : (s : State) (policy : Rules) → Stays s (reloaded s policy).after
unfolding reloaded in_force answered
reloaded_stays s policy = same_streams s _ refl (omega arith) (inr (omega arith))

counter_stays : (s : State) (client : Client) (correlation : ℕ) (fields : AddCounter) →
    Stays s (counted s client correlation fields).after
unfolding counted with_counter replied told
counter_stays s client correlation fields = same_streams s _ refl (omega arith) (inl (refl, refl))

value_stays : (s : State) (client : Client) (correlation : ℕ) (fields : SetCounter) →
    Stays s (valued s client correlation fields).after
unfolding valued replied told
value_stays s client correlation fields = same_streams s _ refl (omega arith) (inl (refl, refl))

counter_removal_stays : (s : State) (client : Client) (correlation number : ℕ) →
    Stays s (uncounted s client correlation number).after
unfolding uncounted told
counter_removal_stays s client correlation number = same_streams s _ refl (omega arith) (inl (refl, refl))

destination_stays : (s : State) (client : Client) (correlation : ℕ) (granted : Directed) →
    Stays s (directed s client correlation granted).after
unfolding directed with_destination replied told
destination_stays s client correlation granted = same_streams s _ refl (omega arith) (inl (refl, refl))

destination_removal_stays : (s : State) (client : Client) (correlation : ℕ) (target : Target) →
    Stays s (recalled s client correlation target).after
unfolding recalled without_destination replied told
destination_removal_stays s client correlation target = same_streams s _ refl (omega arith) (inl (refl, refl))

-- ---- what comes

subscription_stays : (s : State) (request : SubscriptionRequest) →
    Stays s (subscribed s request.client request.correlation request.channel request.fields.stream).after
unfolding subscribed with_subscription subscribed_in replied told
subscription_stays s request = record {
  last = omega arith;
  policy = inl (refl, refl);
  registrations = λ row has. inl has;
  subscriptions = λ row has.
      pushed (λ (one : Subscription). one.number) s.last_number s.streams.subscriptions _ row (omega arith) has;
  logs = λ log has. inl (same_log s.streams.sources log has);
}

publication_stays : (s : State) (client : Client) (correlation : ℕ) (wanted : Wanted) (adding : Adding) →
    Stays s (published s client correlation wanted adding).after
unfolding published with_directed_publication with_publication replied_opening replied told
publication_stays s client correlation wanted (Join source session) = record {
  last = omega arith;
  policy = inl (refl, refl);
  registrations = λ row has.
      pushed (λ (one : Registration). one.number) s.last_number s.streams.registrations _ row (omega arith) has;
  subscriptions = λ row has. inl has;
  logs = λ log has. inl (same_log s.streams.sources log has);
}
publication_stays s client correlation wanted (Make session) = record {
  last = omega arith;
  policy = inl (refl, refl);
  registrations = λ row has.
      pushed (λ (one : Registration). one.number) s.last_number s.streams.registrations _ row (omega arith) has;
  subscriptions = λ row has. inl has;
  logs = λ log has.
      ⊎_elim (λ before. inl (same_log s.streams.sources log before)) (λ new. inr new)
      (pushed (λ (one : LogRow). one.number) s.last_number s.streams.sources _ log (omega arith) has);
}

-- ---- what goes

removal_stays : (s : State) (request : RemovalRequest) →
    Stays s (unsubscribed s request.client request.correlation request.fields.registration).after
unfolding unsubscribed unsubscribed_in replied told
removal_stays s request = record {
  last = omega arith;
  policy = inl (refl, refl);
  registrations = λ row has. inl has;
  subscriptions = λ row has.
      inl (left_was_there (is_another_subscription request.client.number request.fields.registration)
      s.streams.subscriptions row has);
  logs = λ log has. inl (same_log s.streams.sources log has);
}

publication_removal_stays : (s : State) (client : Client) (correlation number : ℕ) →
    Stays s (unpublished s client correlation number).after
unfolding unpublished unregistered settled replied told
publication_removal_stays s client correlation number = record {
  last = omega arith;
  policy = inl (refl, refl);
  registrations = λ row has.
      inl (left_was_there (is_another_registration client.number number) s.streams.registrations row has);
  subscriptions = λ row has. inl has;
  logs = λ log has. inl (settled_was s.streams.sources _ s.moment log has);
}

one_left_stays : (s : State) (client : ℕ) → Stays s (left s client)
unfolding left left_in settled
one_left_stays s client = record {
  last = omega arith;
  policy = inl (refl, refl);
  registrations = λ row has.
      inl (left_was_there (is_registration_of_another client) s.streams.registrations row has);
  subscriptions = λ row has.
      inl (left_was_there (is_subscription_of_another client) s.streams.subscriptions row has);
  logs = λ log has. inl (settled_was s.streams.sources _ s.moment log has);
}

closing_stays : (s : State) (client : Client) (correlation : ℕ) → Stays s (close s client correlation).after
unfolding close replied told
closing_stays s client correlation = one_left_stays s client.number

-- ---- one after the other

policy_both : (s between after : State) → IsSameOrNewer s between → IsSameOrNewer between after → IsSameOrNewer s after
policy_both s between after first second =
    ⊎_elim
    (λ (same : (after.given ≡ between.given) × (after.epoch ≡ between.epoch)).
    ⊎_elim
    (λ (still : (between.given ≡ s.given) × (between.epoch ≡ s.epoch)). inl (same.0 ∙ still.0, same.1 ∙ still.1))
    (λ newer.
    let epoch = same.1 in
    inr (omega (arith, epoch, newer)))
    first)
    (λ newer.
    ⊎_elim
    (λ (still : (between.given ≡ s.given) × (between.epoch ≡ s.epoch)).
    let epoch = still.1 in
    inr (omega (arith, epoch, newer)))
    (λ old. inr (omega (arith, old, newer)))
    first)
    second

row_both : (There Was : Type 0) (last middle number : ℕ) → last ≤ middle → (There → Was ⊎ (last < number)) →
    There ⊎ (middle < number) → Was ⊎ (last < number)
row_both There Was last middle number low first second =
    ⊎_elim first (λ new. inr (omega (arith, low, new))) second

log_both : (s between : State) (log : LogRow) → Stays s between → WasLog between.streams.sources log →
    WasLog s.streams.sources log ⊎ (s.last_number < log.number)
log_both s between log first was =
    let source = was.source_is in
    ⊎_elim
    (λ (stood : WasLog s.streams.sources was.before).
    inl (record {
      before = stood.before;
      stood = stood.stood;
      source_is = stood.source_is ∙ was.source_is;
      stream_is = stood.stream_is ∙ was.stream_is;
    }))
    (λ new. inr (omega (arith, source, new)))
    (first.logs was.before was.stood)

both_stay : (s between after : State) → Stays s between → Stays between after → Stays s after
both_stay s between after first second = record {
  last = let low = first.last in let high = second.last in omega (arith, low, high);
  policy = policy_both s between after first.policy second.policy;
  registrations = λ row has.
      row_both _ _ s.last_number between.last_number row.number first.last (first.registrations row)
      (second.registrations row has);
  subscriptions = λ row has.
      row_both _ _ s.last_number between.last_number row.number first.last (first.subscriptions row)
      (second.subscriptions row has);
  logs = λ log has.
      row_both _ _ s.last_number between.last_number log.number first.last (log_both s between log first)
      (second.logs log has);
}

all_left_stays : (s : State) (clients : List ℕ) → Stays s (all_left s clients)
all_left_stays s [] = nothing_stays s
all_left_stays s (client ∷ clients) =
    both_stay s (left s client) (all_left (left s client) clients) (one_left_stays s client)
    (all_left_stays (left s client) clients)

-- ---- time goes on, and ends

ticked_stays : (s : State) (clients silent : List ℕ) → Stays s (ticked s clients silent).after
unfolding ticked closed_past closed
ticked_stays s clients silent = record {
  last = omega arith;
  policy = inl (refl, refl);
  registrations = λ row has. inl has;
  subscriptions = λ row has. inl has;
  logs = λ log has.
      inl (same_log s.streams.sources log (left_was_there (stays_live s.moment silent) s.streams.sources log has));
}

tick_stays : (s : State) (silent : List ℕ) → Stays s (tick s silent).after
unfolding tick
tick_stays s silent =
    both_stay s (all_left s (late s)) _ (all_left_stays s (late s)) (ticked_stays (all_left s (late s)) (late s) silent)

-- ---- an image that comes

image_stays : (s : State) (wanted : ImageWanted) (place : ℕ) → Stays s (image_made s wanted place).after
unfolding image_made with_image answered
image_stays s wanted place = record {
  last = omega arith;
  policy = inl (refl, refl);
  registrations = λ row has. inl has;
  subscriptions = λ row has. inl has;
  logs = λ log has.
      ⊎_elim (λ before. inl (same_log s.streams.sources log before)) (λ new. inr new)
      (pushed (λ (one : LogRow). one.number) s.last_number s.streams.sources _ log (omega arith) has);
}

termination_stays : (s : State) (client : Client) (correlation : ℕ) → Stays s (terminated s client correlation).after
unfolding terminated stopped_for_good
termination_stays s client correlation = record {
  last = omega arith;
  policy = inl (refl, refl);
  registrations = λ row has. absurd (contains_none row has);
  subscriptions = λ row has. absurd (contains_none row has);
  logs = λ log has. absurd (contains_none log has);
}

-- ---- each event

from_moment : (s : State) (now : ℕ) (after : State) → Stays (at_moment s now) after → Stays s after
unfolding at_moment
from_moment s now after stays = record {
  last = stays.last;
  policy = stays.policy;
  registrations = stays.registrations;
  subscriptions = stays.subscriptions;
  logs = stays.logs;
}

from_request : (s : State) (now handle : ℕ) (after : State) → Stays (at_request s now handle) after → Stays s after
unfolding heard at_moment
from_request s now handle after stays = record {
  last = stays.last;
  policy = stays.policy;
  registrations = stays.registrations;
  subscriptions = stays.subscriptions;
  logs = stays.logs;
}

abbrev DraftStays : State → Draft → Type 0
DraftStays s draft = Stays s draft.after

command_stays : (s : State) (now handle : ℕ) (bytes : List ℕ) → Cases (DraftStays s) (at_moment s now) handle bytes
command_stays s now handle bytes =
    let at = at_request s now handle in
    let by = from_request s now handle in
    record {
      unheard = λ correlation refusal plain not_heard.
          from_moment s now _ (refusal_stays (at_moment s now) [] handle correlation refusal);
      refusal = λ decisions client correlation refusal plain was_heard.
          by _ (refusal_stays at decisions client.number correlation refusal);
      denial = λ client correlation act channel stream was_heard found asked denies.
          by _ (refusal_stays at _ client.number correlation _);
      subscription = λ request was_heard asks allows room. by _ (subscription_stays at request);
      publication = λ request adding was_heard asks allows is room placed.
          by _ (publication_stays at request.client request.correlation (wanted_by request) adding);
      publication_removal = λ client correlation fields was_heard asks.
          by _ (publication_removal_stays at client correlation fields.registration);
      removal = λ request was_heard asks. by _ (removal_stays at request);
      keepalive = λ was_heard. by _ (keepalive_stays at);
      destination = λ request number was_heard asks allows manual is.
          by _ (destination_stays at request.client request.correlation _);
      destination_removal = λ client correlation fields target was_heard asks is.
          by _ (destination_removal_stays at client correlation target);
      counter = λ client correlation fields was_heard asks allows room.
          by _ (counter_stays at client correlation fields);
      value = λ client correlation fields was_heard asks. by _ (value_stays at client correlation fields);
      counter_removal = λ client correlation fields was_heard asks.
          by _ (counter_removal_stays at client correlation fields.registration);
      closing = λ client correlation was_heard asks. by _ (closing_stays at client correlation);
      termination = λ client correlation fields was_heard asks allows.
          by _ (termination_stays at client correlation);
    }

draft_stays : (s : State) (event : Event) (inputs : Inputs) → DraftStays s (drafted s event inputs)
unfolding drafted
draft_stays s (Attach now principal) inputs =
    let before = at_moment s now in
    let by = from_moment s now in
    attach_cases (DraftStays s) before principal
    (by _ (answer_stays before _)) (by _ (attached_stays before principal)) (by _ (answer_stays before _))
draft_stays s (Command now handle bytes) inputs =
    command_cases (DraftStays s) s now handle bytes inputs (command_stays s now handle bytes)
draft_stays s (Reload now policy) inputs =
    let before = at_moment s now in
    let by = from_moment s now in
    reload_cases (DraftStays s) before policy
    (λ room. by _ (reloaded_stays before policy)) (λ full. by _ (answer_stays before _))
draft_stays s (Tick now) inputs = from_moment s now _ (tick_stays (at_moment s now) inputs.silent)
draft_stays s (Setup now local from setup) inputs =
    let before = at_moment s now in
    let by = from_moment s now in
    set_up_cases (DraftStays s) before local from setup (λ fault. by _ (answer_stays before _))
    (λ join place is set. by _ (image_stays before _ place))

-- what is left where images go that none reads
unread_stays : (s after : State) → Stays s after → Stays s (without_unread after)
unfolding without_unread without_unread_in
unread_stays s after stays = record {
  last = stays.last;
  policy = stays.policy;
  registrations = stays.registrations;
  subscriptions = stays.subscriptions;
  logs = λ log has. stays.logs log (left_was_there (is_kept _) after.streams.sources log has);
}

-- what the policy becomes at a moment leaves the lists, and the policy as its text has it
ruled_stays : (s : State) (now : ℕ) (after : State) → Stays (ruled s now) after → Stays s after
unfolding ruled
ruled_stays s now after stays = record {
  last = stays.last;
  policy = stays.policy;
  registrations = stays.registrations;
  subscriptions = stays.subscriptions;
  logs = stays.logs;
}

pub event_stays : (s : State) (event : Event) (inputs : Inputs) → Stays s (state_after s event inputs)
unfolding conduct renewed dropping
event_stays s event inputs =
    let before : State = coming_to s event in
    unread_stays s (drafted before event inputs).after
    (ruled_stays s (moment_told event) (drafted before event inputs).after (draft_stays before event inputs))
