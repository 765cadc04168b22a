-- A reload closes exactly, and the newest policy is in force.
use Rattle.std.proofs.Common.{◌≡◌, ℕ, ◌+◌, true, false, List, [], map, filter, refl, sym, subst, ap, ◌∙◌}
use Rattle.std.proofs.lemmas.Bool.{cond_both}
use Rattle.std.proofs.lemmas.List.{append-nil}
use Rattle.driver_core.specs.Directing.{directed, recalled, with_destination, without_destination}
use Rattle.driver_core.specs.declared.state.event.Event.{Event}
use Rattle.driver_core.specs.declared.state.event.Event.TheVariants.{Attach, Command, Reload, Setup, Tick}
use Rattle.driver_core.specs.declared.state.event.Inputs.{Inputs}
use Rattle.driver_core.specs.declared.state.outcome.Response.{Response}
use Rattle.driver_core.specs.declared.state.outcome.Response.TheVariants.{PolicyFull}
use Rattle.driver_core.specs.declared.state.refusal.Refusal.{Refusal}
use Rattle.driver_core.specs.Attaching.{attached}
use Rattle.driver_core.specs.Closing.{keep_alive, close}
use Rattle.driver_core.specs.Commands.{heard}
use Rattle.driver_core.specs.Conduct.{coming_to, conduct, drafted, state_after}
use Rattle.driver_core.specs.Counting.{counted, with_counter, valued, uncounted}
use Rattle.driver_core.specs.Draft.{Draft, answered, told, replied, replied_opening, refused}
use Rattle.driver_core.specs.Pairs.{pairs_of, lacking}
use Rattle.driver_core.specs.Publishing.{published, with_directed_publication, with_publication}
use Rattle.driver_core.specs.Reloading.{in_force, reloaded, has_room_for_policy, reload}
use Rattle.driver_core.specs.Renewal.{renewed}
use Rattle.driver_core.specs.Requests.{PublicationRequest, SubscriptionRequest, RemovalRequest, wanted_by}
use Rattle.driver_core.specs.State.{State, at_moment, ruled}
use Rattle.driver_core.specs.Subscribing.{subscribed, with_subscription}
use Rattle.driver_core.specs.Terminating.{terminated, stopped_for_good}
use Rattle.driver_core.specs.Ticking.{closed_past, tick, ticked, late}
use Rattle.driver_core.specs.Unpublishing.{unpublished}
use Rattle.driver_core.specs.Unsubscribing.{unsubscribed}
use Rattle.driver_core.specs.SettingUp.{image_made, with_image}
use Rattle.driver_core.specs.Unread.{dropping, without_unread}
use Rattle.driver_laws.specs.ReloadLaws.{ClosesByMoment, ClosesExactly, ClosesNothing, IsReloadedExactly, Numbered, in_force_at, newest_after, reloaded_from}
use Rattle.driver_laws.specs.ImageLaws.{AreRead}
use Rattle.driver_laws.specs.NumberLaws.{AreRising}
use Rattle.client_registry.specs.declared.client.Client.{Client}
use Rattle.command_codec.specs.declared.add_counter.AddCounter.{AddCounter}
use Rattle.command_codec.specs.declared.set_counter.SetCounter.{SetCounter}
use Rattle.policy_core.specs.declared.decision.Decision.{Decision}
use Rattle.policy_core.specs.RuleList.{Rules}
use Rattle.stream_registry.specs.declared.wanted.Adding.{Adding}
use Rattle.stream_registry.specs.declared.wanted.ImageWanted.{ImageWanted}
use Rattle.stream_registry.specs.declared.pairs.Pair.{Pair}
use Rattle.stream_registry.specs.Lingering.{place_of}
use Rattle.log_readers.specs.Unread.{is_unread}
use Rattle.driver_core.proofs.EventCases.{Cases, attach_cases, command_cases, set_up_cases}
use Rattle.driver_laws.proofs.DroppingLemmas.{pairs_stay}
use Rattle.driver_laws.proofs.StayingLemmas.{DropsNothing, as_before, drops_none}
use Rattle.driver_laws.proofs.LeavingLemmas.{left_in_force, one_left_in_force}
use Rattle.driver_laws.proofs.RenewalLemmas.{unchanged}
use Rattle.driver_laws.proofs.TurningLemmas.{turns_to}

-- ---- a reload closes exactly

reload_grants : (s : State) (policy : Rules) → has_room_for_policy s policy ≡ true → reload s policy ≡ reloaded s policy
unfolding reload
reload_grants s policy room = rw room refl

reload_is_full : (s : State) (policy : Rules) → has_room_for_policy s policy ≡ false →
    reload s policy ≡ answered s PolicyFull
unfolding reload
reload_is_full s policy room = rw room refl

-- the policy that is in force until then has no part in it
room_is : (s : State) (now : ℕ) (policy : Rules) →
    has_room_for_policy (at_moment (ruled s now) now) policy ≡ has_room_for_policy (at_moment s now) policy
unfolding at_moment in_force ruled
room_is s now policy = refl

reloaded_rises : (s : State) (now : ℕ) (policy : Rules) → AreRising s → AreRising (reloaded_from s now policy)
reloaded_rises s now policy rises = record {
  clients = rises.clients;
  sources = rises.sources;
  registrations = rises.registrations;
  subscriptions = rises.subscriptions;
  counters = rises.counters;
}

reloaded_closes : (s : State) (now : ℕ) (policy : Rules) (inputs : Inputs) → AreRising s →
    ClosesExactly s now policy inputs (
    dropping s (renewed s inputs (reloaded (at_moment (ruled s now) now) policy)))
unfolding dropping renewed reloaded answered in_force at_moment ruled
reloaded_closes s now policy inputs rises =
    let after : State = reloaded_from s now policy in
    let same : pairs_of (without_unread after) ≡ pairs_of after = pairs_stay after (reloaded_rises s now policy rises) in
    record {
      after_is = refl;
      told = refl;
      gone = ap (λ (pairs : List Pair). lacking (pairs_of s) pairs) (sym same);
      come = ap (λ (pairs : List Pair). lacking pairs (pairs_of s)) (sym same);
      replies = append-nil _;
      decisions = refl;
      opens = refl;
      closes = ap (λ (pairs : List Pair). map place_of (filter (is_unread pairs) s.streams.sources)) (sym same);
    }

moment_pairs : (s : State) (now : ℕ) → pairs_of (at_moment s now) ≡ pairs_of s
unfolding at_moment pairs_of
moment_pairs s now = refl

moment_logs : (s : State) (now : ℕ) → (at_moment s now).streams.sources ≡ s.streams.sources
unfolding at_moment
moment_logs s now = refl

full_closes_by_moment : (s : State) (now : ℕ) (inputs : Inputs) →
    ClosesByMoment s now inputs (dropping s (renewed s inputs (answered (at_moment (ruled s now) now) PolicyFull)))
unfolding dropping renewed answered
full_closes_by_moment s now inputs = record {
  after_is = refl;
  told = refl;
  turns = turns_to s inputs (answered (at_moment (ruled s now) now) PolicyFull) (ruled s now) refl
      (moment_pairs (ruled s now) now);
  replies = append-nil _;
  decisions = refl;
  opens = refl;
}

full_closes_nothing : (s : State) (now : ℕ) (inputs : Inputs) →
    ClosesNothing s now (renewed s inputs (answered (at_moment s now) PolicyFull))
unfolding renewed answered
full_closes_nothing s now inputs =
    let same = unchanged s inputs (answered (at_moment s now) PolicyFull) (moment_pairs s now) in
    record {
      after_is = refl;
      told = refl;
      gone = same.gone;
      come = same.come;
      replies = same.replies;
      decisions = same.decisions;
      opens = refl;
      closes = refl;
    }

full_drops : (s : State) (now : ℕ) → AreRead s → DropsNothing s (answered (at_moment s now) PolicyFull)
unfolding answered
full_drops s now read = as_before s _ read refl (moment_logs s now) (moment_pairs s now)

-- the policy is at that moment what it was
full_so : (s : State) (now : ℕ) (inputs : Inputs) → AreRead s → ruled s now ≡ s →
    ClosesNothing s now (dropping s (renewed s inputs (answered (at_moment (ruled s now) now) PolicyFull)))
full_so s now inputs read so =
    subst (λ (t : State). ClosesNothing s now (dropping s (renewed s inputs (answered (at_moment t now) PolicyFull)))) (sym so)
    (subst (ClosesNothing s now)
    (sym (drops_none s inputs (answered (at_moment s now) PolicyFull) (full_drops s now read)))
    (full_closes_nothing s now inputs))

reload_closes : (s : State) → AreRising s → AreRead s → (now : ℕ) (policy : Rules) (inputs : Inputs) →
    IsReloadedExactly s now policy inputs (
    dropping s (renewed s inputs (reload (at_moment (ruled s now) now) policy)))
reload_closes s rises read now policy inputs = record {
  granted = λ room.
      rw (reload_grants (at_moment (ruled s now) now) policy (room_is s now policy ∙ room))
      (reloaded_closes s now policy inputs rises);
  refused = λ full.
      rw (reload_is_full (at_moment (ruled s now) now) policy (room_is s now policy ∙ full))
      (full_closes_by_moment s now inputs);
  refused_so = λ full so.
      rw (reload_is_full (at_moment (ruled s now) now) policy (room_is s now policy ∙ full))
      (full_so s now inputs read so);
}

pub reloads_close : (s : State) → AreRising s → AreRead s → (now : ℕ) (policy : Rules) (inputs : Inputs) →
    IsReloadedExactly s now policy inputs (conduct s (Reload now policy) inputs)
unfolding conduct drafted
reloads_close s rises read now policy inputs = reload_closes s rises read now policy inputs

-- ---- the newest policy is in force

-- a draft that keeps the policy in force
record Keeps (s : State) (draft : Draft) : Type 0 where
  same : in_force_at draft.after ≡ in_force_at s

refusal_keeps : (s left : State) (decisions : List Decision) (client correlation : ℕ) (refusal : Refusal) →
    in_force_at left ≡ in_force_at s → Keeps s (refused left decisions client correlation refusal)
unfolding refused replied told
refusal_keeps s left decisions client correlation refusal same = record { same = same }

answer_keeps : (s left : State) (response : Response) → in_force_at left ≡ in_force_at s → Keeps s (answered left response)
unfolding answered
answer_keeps s left response same = record { same = same }

attached_keeps : (s left : State) (principal : ℕ) → in_force_at left ≡ in_force_at s → Keeps s (attached left principal)
unfolding attached answered
attached_keeps s left principal same = record { same = same }

image_keeps : (s left : State) (wanted : ImageWanted) (place : ℕ) → in_force_at left ≡ in_force_at s →
    Keeps s (image_made left wanted place)
unfolding image_made with_image answered
image_keeps s left wanted place same = record { same = same }

grant_keeps : (s left : State) (request : SubscriptionRequest) → in_force_at left ≡ in_force_at s →
    Keeps s (subscribed left request.client request.correlation request.channel request.fields.stream)
unfolding subscribed with_subscription replied told
grant_keeps s left request same = record { same = same }

publication_keeps : (s left : State) (request : PublicationRequest) (adding : Adding) → in_force_at left ≡ in_force_at s →
    Keeps s (published left request.client request.correlation (wanted_by request) adding)
unfolding published with_directed_publication with_publication replied_opening replied told
publication_keeps s left request adding same = record { same = same }

publication_removal_keeps : (s left : State) (client : Client) (correlation number : ℕ) →
    in_force_at left ≡ in_force_at s → Keeps s (unpublished left client correlation number)
unfolding unpublished replied told
publication_removal_keeps s left client correlation number same = record { same = same }

removal_keeps : (s left : State) (request : RemovalRequest) → in_force_at left ≡ in_force_at s →
    Keeps s (unsubscribed left request.client request.correlation request.fields.registration)
unfolding unsubscribed replied told
removal_keeps s left request same = record { same = same }

keepalive_keeps : (s left : State) → in_force_at left ≡ in_force_at s → Keeps s (keep_alive left)
unfolding keep_alive told
keepalive_keeps s left same = record { same = same }

closing_keeps : (s left : State) (client : Client) (correlation : ℕ) → in_force_at left ≡ in_force_at s →
    Keeps s (close left client correlation)
unfolding close replied told
closing_keeps s left client correlation same = record { same = one_left_in_force left client.number ∙ same }

counter_keeps : (s left : State) (client : Client) (correlation : ℕ) (fields : AddCounter) →
    in_force_at left ≡ in_force_at s → Keeps s (counted left client correlation fields)
unfolding counted with_counter replied told
counter_keeps s left client correlation fields same = record { same = same }

value_keeps : (s left : State) (client : Client) (correlation : ℕ) (fields : SetCounter) →
    in_force_at left ≡ in_force_at s → Keeps s (valued left client correlation fields)
unfolding valued replied told
value_keeps s left client correlation fields same = record { same = same }

destination_keeps : (s left : State) (client : Client) (correlation : ℕ) (granted : _) →
    in_force_at left ≡ in_force_at s → Keeps s (directed left client correlation granted)
unfolding directed with_destination replied told
destination_keeps s left client correlation granted same = record { same = same }

destination_removal_keeps : (s left : State) (client : Client) (correlation : ℕ) (target : _) →
    in_force_at left ≡ in_force_at s → Keeps s (recalled left client correlation target)
unfolding recalled without_destination replied told
destination_removal_keeps s left client correlation target same = record { same = same }

counter_removal_keeps : (s left : State) (client : Client) (correlation number : ℕ) →
    in_force_at left ≡ in_force_at s → Keeps s (uncounted left client correlation number)
unfolding uncounted told
counter_removal_keeps s left client correlation number same = record { same = same }

termination_keeps : (s left : State) (client : Client) (correlation : ℕ) → in_force_at left ≡ in_force_at s →
    Keeps s (terminated left client correlation)
unfolding terminated stopped_for_good
termination_keeps s left client correlation same = record { same = same }

moment_keeps : (s : State) (now : ℕ) → in_force_at (at_moment s now) ≡ in_force_at s
unfolding at_moment
moment_keeps s now = refl

request_keeps : (s : State) (now handle : ℕ) → in_force_at (heard (at_moment s now) handle) ≡ in_force_at s
unfolding at_moment heard
request_keeps s now handle = refl

command_keeps : (s : State) (now handle : ℕ) (bytes : List ℕ) → Cases (Keeps s) (at_moment s now) handle bytes
command_keeps s now handle bytes =
    let left = heard (at_moment s now) handle in
    let same = request_keeps s now handle in
    record {
      unheard = λ correlation refusal plain not_heard.
          refusal_keeps s (at_moment s now) [] handle correlation refusal (moment_keeps s now);
      refusal = λ decisions client correlation refusal plain was_heard.
          refusal_keeps s left decisions client.number correlation refusal same;
      denial = λ client correlation act channel stream was_heard found asked denies.
          refusal_keeps s left _ client.number correlation _ same;
      subscription = λ request was_heard asks allows room. grant_keeps s left request same;
      publication = λ request adding was_heard asks allows is room place. publication_keeps s left request adding same;
      publication_removal = λ client correlation fields was_heard asks.
          publication_removal_keeps s left client correlation fields.registration same;
      removal = λ request was_heard asks. removal_keeps s left request same;
      keepalive = λ was_heard. keepalive_keeps s left same;
      destination = λ request number was_heard asks allows manual is.
          destination_keeps s left request.client request.correlation _ same;
      destination_removal = λ client correlation fields target was_heard asks is.
          destination_removal_keeps s left client correlation target same;
      counter = λ client correlation fields was_heard asks allows room. counter_keeps s left client correlation fields same;
      value = λ client correlation fields was_heard asks. value_keeps s left client correlation fields same;
      counter_removal = λ client correlation fields was_heard asks.
          counter_removal_keeps s left client correlation fields.registration same;
      closing = λ client correlation was_heard asks. closing_keeps s left client correlation same;
      termination = λ client correlation fields was_heard asks allows. termination_keeps s left client correlation same;
    }

tick_keeps : (s : State) (now : ℕ) (silent : List ℕ) → Keeps s (tick (at_moment s now) silent)
unfolding tick ticked closed_past
tick_keeps s now silent =
    record { same = left_in_force (at_moment s now) (late (at_moment s now)) ∙ moment_keeps s now }

reloaded_newest : (s : State) (now : ℕ) (policy : Rules) →
    in_force_at (reloaded (at_moment s now) policy).after ≡ record { given = policy; epoch = s.epoch + 1 }
unfolding reloaded answered in_force at_moment
reloaded_newest s now policy = refl

full_newest : (s : State) (now : ℕ) → in_force_at (answered (at_moment s now) PolicyFull).after ≡ in_force_at s
unfolding answered at_moment
full_newest s now = refl

reload_newest : (s : State) (now : ℕ) (policy : Rules) →
    in_force_at (reload (at_moment s now) policy).after ≡ newest_after s (Reload now policy)
reload_newest s now policy =
    cond_both (has_room_for_policy (at_moment s now) policy) (record { given = policy; epoch = s.epoch + 1 }) (in_force_at s)
    (λ (n : Numbered). in_force_at (reload (at_moment s now) policy).after ≡ n)
    (λ room. rw (reload_grants (at_moment s now) policy room) (reloaded_newest s now policy))
    (λ full. rw (reload_is_full (at_moment s now) policy full) (full_newest s now))

-- what the event's own rule leaves is what the event leaves
drafted_newest : (s : State) (event : Event) (inputs : Inputs) → in_force_at (drafted s event inputs).after ≡ newest_after s event
unfolding drafted
drafted_newest s (Attach now principal) inputs =
    (attach_cases (Keeps s) (at_moment s now) principal
    (answer_keeps s (at_moment s now) _ (moment_keeps s now))
    (attached_keeps s (at_moment s now) principal (moment_keeps s now))
    (answer_keeps s (at_moment s now) _ (moment_keeps s now))).same
drafted_newest s (Command now handle bytes) inputs =
    (command_cases (Keeps s) s now handle bytes inputs (command_keeps s now handle bytes)).same
drafted_newest s (Reload now policy) inputs = reload_newest s now policy
drafted_newest s (Tick now) inputs = (tick_keeps s now inputs.silent).same
drafted_newest s (Setup now local from setup) inputs =
    (set_up_cases (Keeps s) (at_moment s now) local from setup
    (λ fault. answer_keeps s (at_moment s now) _ (moment_keeps s now))
    (λ join place is set. image_keeps s (at_moment s now) _ place (moment_keeps s now))).same

-- nor has the policy in force until then a part in which comes
newest_at : (s : State) (event : Event) → newest_after (coming_to s event) event ≡ newest_after s event
unfolding ruled at_moment in_force
newest_at s (Attach now principal) = refl
newest_at s (Command now handle bytes) = refl
newest_at s (Reload now policy) = refl
newest_at s (Tick now) = refl
newest_at s (Setup now local from setup) = refl

pub newest_in_force : (s : State) (event : Event) (inputs : Inputs) →
    in_force_at (state_after s event inputs) ≡ newest_after s event
unfolding conduct renewed dropping without_unread
newest_in_force s event inputs = drafted_newest (coming_to s event) event inputs ∙ newest_at s event
