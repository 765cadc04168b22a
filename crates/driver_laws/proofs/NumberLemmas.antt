-- Each event keeps the numbers rising, and draws the next ones alone.
use Rattle.std.proofs.Common.{◌≡◌, ℕ, ◌+◌, ◌==◌, ℤ, Bool, true, false, cond, List, [], ◌∷◌, refl, ◌∙◌, arith}
use Rattle.driver_core.specs.Directing.{directed, recalled, with_destination, without_destination}
use Rattle.driver_core.specs.declared.state.event.Event.{Event}
use Rattle.driver_core.specs.declared.state.event.Event.TheVariants.{Attach, Command, Reload, Setup, Tick}
use Rattle.driver_core.specs.declared.state.event.Inputs.{Inputs}
use Rattle.driver_core.specs.declared.state.outcome.Response.{Response}
use Rattle.driver_core.specs.declared.state.peer.Peer.{Peer}
use Rattle.driver_core.specs.declared.state.refusal.Refusal.{Refusal}
use Rattle.driver_core.specs.declared.state.settings.Settings.{Settings}
use Rattle.driver_core.specs.Attaching.{attached}
use Rattle.driver_core.specs.Closing.{close, keep_alive}
use Rattle.driver_core.specs.Commands.{heard, at_request}
use Rattle.driver_core.specs.Conduct.{coming_to, conduct, drafted, state_after}
use Rattle.driver_core.specs.Counting.{counted, uncounted, valued, with_counter}
use Rattle.driver_core.specs.Draft.{Draft, answered, refused, replied, replied_opening, told}
use Rattle.driver_core.specs.Leaving.{all_left, left}
use Rattle.driver_core.specs.Publishing.{published, with_directed_publication, with_publication}
use Rattle.driver_core.specs.Reloading.{in_force, reloaded}
use Rattle.driver_core.specs.Renewal.{renewed}
use Rattle.driver_core.specs.Requests.{RemovalRequest, SubscriptionRequest, wanted_by}
use Rattle.driver_core.specs.State.{State, at_moment, opened, ruled}
use Rattle.driver_core.specs.Subscribing.{subscribed, with_subscription}
use Rattle.driver_core.specs.Terminating.{stopped_for_good, terminated}
use Rattle.driver_core.specs.Ticking.{closed_past, late, tick, ticked}
use Rattle.driver_core.specs.Unpublishing.{unpublished}
use Rattle.driver_core.specs.Unsubscribing.{unsubscribed}
use Rattle.driver_core.specs.SettingUp.{image_made, with_image}
use Rattle.driver_core.specs.Unread.{dropping, without_unread}
use Rattle.driver_laws.specs.NumberLaws.{AreDrawn, AreRising, NeverLowers, NumbersAreAtMostTheLast, LastNumbersNeverFall, NumbersAreUnique}
use Rattle.client_registry.specs.declared.client.Client.{Client}
use Rattle.client_registry.specs.Clients.{admitted, is_other, touched, without}
use Rattle.command_codec.specs.declared.add_counter.AddCounter.{AddCounter}
use Rattle.command_codec.specs.declared.set_counter.SetCounter.{SetCounter}
use Rattle.counters.specs.declared.counter.Counter.{Counter}
use Rattle.counters.specs.Counters.{is_another, is_of_another, is_own, set, set_one, without as counters_without, without_those_of}
use Rattle.policy_core.specs.declared.decision.Decision.{Decision}
use Rattle.policy_core.specs.RuleList.{Rules}
use Rattle.stream_registry.specs.declared.row.LogRow.{LogRow}
use Rattle.stream_registry.specs.declared.row.Registration.{Registration}
use Rattle.stream_registry.specs.declared.row.Subscription.{Subscription}
use Rattle.stream_registry.specs.declared.wanted.Adding.{Adding}
use Rattle.stream_registry.specs.declared.wanted.Adding.TheVariants.{Join, Make}
use Rattle.stream_registry.specs.declared.wanted.Wanted.{Wanted}
use Rattle.stream_registry.specs.Adding.{subscribed as subscribed_in}
use Rattle.stream_registry.specs.Leaving.{is_another_registration, is_another_subscription, is_registration_of_another, is_subscription_of_another, left as left_in, unregistered, unsubscribed as unsubscribed_in}
use Rattle.stream_registry.specs.Lingering.{closed, is_used, left_alone, settled, stays_live}
use Rattle.stream_registry.specs.declared.wanted.ImageWanted.{ImageWanted}
use Rattle.log_readers.specs.Unread.{is_kept, without_unread as without_unread_in}
use Rattle.driver_core.proofs.EventCases.{Cases, attach_cases, command_cases, reload_cases, set_up_cases}
use Rattle.driver_core.proofs.PairLemmas.{row_number}
use Rattle.driver_laws.proofs.EveryLemmas.{after_any}
use Rattle.driver_laws.proofs.RisingLemmas.{rises_drawn, rises_kept, rises_mapped, rises_push, rises_up_to}

-- ---- the numbers of rows

abbrev client_number : Client → ℕ
client_number client = client.number

abbrev pub source_number : LogRow → ℕ
source_number log = log.number

abbrev registration_number : Registration → ℕ
registration_number registration = registration.number

abbrev subscription_number : Subscription → ℕ
subscription_number subscription = subscription.number

abbrev counter_number : Counter → ℕ
counter_number counter = counter.number

pub settled_number : (b : Bool) (now : ℕ) (log : LogRow) → (cond b log (left_alone now log)).number ≡ log.number
settled_number true now log = refl
settled_number false now log = refl

set_number : (b : Bool) (value : ℤ) (counter : Counter) →
    (cond b (record counter { value = value }) counter).number ≡ counter.number
set_number true value counter = refl
set_number false value counter = refl

-- ---- what the draft leaves rises, and no last number fell

pub record Rising (s after : State) : Type 0 where
  pub rises : AreRising after
  pub draws : NeverLowers s after

-- nothing but the rows changes
record SameLast (s after : State) : Type 0 where
  last : after.last_number ≡ s.last_number
  last_client : after.clients.last ≡ s.clients.last
  epoch : after.epoch ≡ s.epoch

none_drawn : (s after : State) → SameLast s after → AreRising after → Rising s after
none_drawn s after same rises = record {
  rises = rises;
  draws = record {
    last = let last = same.last in omega (arith, last);
    last_client = let last = same.last_client in omega (arith, last);
    epoch = let last = same.epoch in omega (arith, last);
  };
}

stays : (s : State) → AreRising s → Rising s s
stays s rises = none_drawn s s (record { last = refl; last_client = refl; epoch = refl }) rises

-- ---- what changes no row

refusal_rises : (s : State) (decisions : List Decision) (client correlation : ℕ) (refusal : Refusal) → AreRising s →
    Rising s (refused s decisions client correlation refusal).after
unfolding refused replied told
refusal_rises s decisions client correlation refusal rises = stays s rises

answer_rises : (s : State) (response : Response) → AreRising s → Rising s (answered s response).after
unfolding answered
answer_rises s response rises = stays s rises

keepalive_rises : (s : State) → AreRising s → Rising s (keep_alive s).after
unfolding keep_alive told
keepalive_rises s rises = stays s rises

reloaded_rises : (s : State) (policy : Rules) → AreRising s → Rising s (reloaded s policy).after
unfolding reloaded in_force answered
reloaded_rises s policy rises = record {
  rises = record {
    clients = rises.clients;
    sources = rises.sources;
    registrations = rises.registrations;
    subscriptions = rises.subscriptions;
    counters = rises.counters;
  };
  draws = record { last = omega arith; last_client = omega arith; epoch = omega arith };
}

-- ---- what comes

attached_rises : (s : State) (principal : ℕ) → AreRising s → Rising s (attached s principal).after
unfolding attached admitted answered
attached_rises s principal rises = record {
  rises = record {
    clients = rises_push client_number 0 s.clients.last (s.clients.last + 1) s.clients.rows _ rises.clients
        (omega arith) (omega arith);
    sources = rises.sources;
    registrations = rises.registrations;
    subscriptions = rises.subscriptions;
    counters = rises.counters;
  };
  draws = record { last = omega arith; last_client = omega arith; epoch = omega arith };
}

subscription_rises : (s : State) (request : SubscriptionRequest) → AreRising s →
    Rising s (subscribed s request.client request.correlation request.channel request.fields.stream).after
unfolding subscribed with_subscription subscribed_in replied told
subscription_rises s request rises =
    let last = s.last_number in
    record {
      rises = record {
        clients = rises.clients;
        sources = rises_up_to source_number 0 last (last + 1) s.streams.sources (omega arith) rises.sources;
        registrations = rises_up_to registration_number 0 last (last + 1) s.streams.registrations (omega arith)
            rises.registrations;
        subscriptions = rises_push subscription_number 0 last (last + 1) s.streams.subscriptions _ rises.subscriptions
            (omega arith) (omega arith);
        counters = rises_up_to counter_number 0 last (last + 1) s.counters (omega arith) rises.counters;
      };
      draws = record { last = omega arith; last_client = omega arith; epoch = omega arith };
    }

counter_rises : (s : State) (client : Client) (correlation : ℕ) (fields : AddCounter) → AreRising s →
    Rising s (counted s client correlation fields).after
unfolding counted with_counter replied told
counter_rises s client correlation fields rises =
    let last = s.last_number in
    record {
      rises = record {
        clients = rises.clients;
        sources = rises_up_to source_number 0 last (last + 1) s.streams.sources (omega arith) rises.sources;
        registrations = rises_up_to registration_number 0 last (last + 1) s.streams.registrations (omega arith)
            rises.registrations;
        subscriptions = rises_up_to subscription_number 0 last (last + 1) s.streams.subscriptions (omega arith)
            rises.subscriptions;
        counters = rises_push counter_number 0 last (last + 1) s.counters _ rises.counters (omega arith) (omega arith);
      };
      draws = record { last = omega arith; last_client = omega arith; epoch = omega arith };
    }

publication_rises : (s : State) (client : Client) (correlation : ℕ) (wanted : Wanted) (adding : Adding) → AreRising s →
    Rising s (published s client correlation wanted adding).after
unfolding published with_directed_publication with_publication replied_opening replied told
publication_rises s client correlation wanted (Join source session) rises =
    let last = s.last_number in
    record {
      rises = record {
        clients = rises.clients;
        sources = rises_up_to source_number 0 last (last + 1) s.streams.sources (omega arith) rises.sources;
        registrations = rises_push registration_number 0 last (last + 1) s.streams.registrations _ rises.registrations
            (omega arith) (omega arith);
        subscriptions = rises_up_to subscription_number 0 last (last + 1) s.streams.subscriptions (omega arith)
            rises.subscriptions;
        counters = rises_up_to counter_number 0 last (last + 1) s.counters (omega arith) rises.counters;
      };
      draws = record { last = omega arith; last_client = omega arith; epoch = omega arith };
    }
publication_rises s client correlation wanted (Make session) rises =
    let last = s.last_number in
    record {
      rises = record {
        clients = rises.clients;
        sources = rises_push source_number 0 last (last + 1) s.streams.sources _ rises.sources
            (omega arith) (omega arith);
        registrations = rises_push registration_number 0 last (last + 1) s.streams.registrations _ rises.registrations
            (omega arith) (omega arith);
        subscriptions = rises_up_to subscription_number 0 last (last + 1) s.streams.subscriptions (omega arith)
            rises.subscriptions;
        counters = rises_up_to counter_number 0 last (last + 1) s.counters (omega arith) rises.counters;
      };
      draws = record { last = omega arith; last_client = omega arith; epoch = omega arith };
    }

image_rises : (s : State) (wanted : ImageWanted) (place : ℕ) → AreRising s → Rising s (image_made s wanted place).after
unfolding image_made with_image answered
image_rises s wanted place rises =
    let last = s.last_number in
    record {
      rises = record {
        clients = rises.clients;
        sources = rises_push source_number 0 last (last + 1) s.streams.sources _ rises.sources (omega arith) (omega arith);
        registrations = rises_up_to registration_number 0 last (last + 1) s.streams.registrations (omega arith)
            rises.registrations;
        subscriptions = rises_up_to subscription_number 0 last (last + 1) s.streams.subscriptions (omega arith)
            rises.subscriptions;
        counters = rises_up_to counter_number 0 last (last + 1) s.counters (omega arith) rises.counters;
      };
      draws = record { last = omega arith; last_client = omega arith; epoch = omega arith };
    }

-- ---- what goes, or has another value

value_rises : (s : State) (client : Client) (correlation : ℕ) (fields : SetCounter) → AreRising s →
    Rising s (valued s client correlation fields).after
unfolding valued replied told set
value_rises s client correlation fields rises =
    none_drawn s _ (record { last = refl; last_client = refl; epoch = refl }) (record {
      clients = rises.clients;
      sources = rises.sources;
      registrations = rises.registrations;
      subscriptions = rises.subscriptions;
      counters = rises_mapped counter_number (set_one client.number fields.registration fields.value) 0 s.last_number
          s.counters (λ counter. set_number (is_own client.number fields.registration counter) fields.value counter)
          rises.counters;
    })

destination_rises : (s : State) (client : Client) (correlation : ℕ) (granted : _) → AreRising s →
    Rising s (directed s client correlation granted).after
unfolding directed with_destination replied told
destination_rises s client correlation granted rises =
    none_drawn s _ (record { last = refl; last_client = refl; epoch = refl }) (record {
      clients = rises.clients;
      sources = rises.sources;
      registrations = rises.registrations;
      subscriptions = rises.subscriptions;
      counters = rises.counters;
    })

destination_removal_rises : (s : State) (client : Client) (correlation : ℕ) (target : _) → AreRising s →
    Rising s (recalled s client correlation target).after
unfolding recalled without_destination replied told
destination_removal_rises s client correlation target rises =
    none_drawn s _ (record { last = refl; last_client = refl; epoch = refl }) (record {
      clients = rises.clients;
      sources = rises.sources;
      registrations = rises.registrations;
      subscriptions = rises.subscriptions;
      counters = rises.counters;
    })

counter_removal_rises : (s : State) (client : Client) (correlation number : ℕ) → AreRising s →
    Rising s (uncounted s client correlation number).after
unfolding uncounted told counters_without
counter_removal_rises s client correlation number rises =
    none_drawn s _ (record { last = refl; last_client = refl; epoch = refl }) (record {
      clients = rises.clients;
      sources = rises.sources;
      registrations = rises.registrations;
      subscriptions = rises.subscriptions;
      counters = rises_kept counter_number (is_another client.number number) 0 s.last_number s.counters rises.counters;
    })

pub removal_rises : (s : State) (request : RemovalRequest) → AreRising s →
    Rising s (unsubscribed s request.client request.correlation request.fields.registration).after
unfolding unsubscribed unsubscribed_in replied told
removal_rises s request rises =
    none_drawn s _ (record { last = refl; last_client = refl; epoch = refl }) (record {
      clients = rises.clients;
      sources = rises.sources;
      registrations = rises.registrations;
      subscriptions = rises_kept subscription_number
          (is_another_subscription request.client.number request.fields.registration) 0 s.last_number
          s.streams.subscriptions rises.subscriptions;
      counters = rises.counters;
    })

publication_removal_rises : (s : State) (client : Client) (correlation number : ℕ) → AreRising s →
    Rising s (unpublished s client correlation number).after
unfolding unpublished unregistered settled replied told
publication_removal_rises s client correlation number rises =
    none_drawn s _ (record { last = refl; last_client = refl; epoch = refl }) (record {
      clients = rises.clients;
      sources = rises_mapped source_number _ 0 s.last_number s.streams.sources
          (λ log. settled_number (is_used _ log.number) s.moment log) rises.sources;
      registrations = rises_kept registration_number (is_another_registration client.number number) 0 s.last_number
          s.streams.registrations rises.registrations;
      subscriptions = rises.subscriptions;
      counters = rises.counters;
    })

one_left_rises : (s : State) (client : ℕ) → AreRising s → AreRising (left s client)
unfolding left left_in settled without without_those_of
one_left_rises s client rises = record {
  clients = rises_kept client_number (is_other client) 0 s.clients.last s.clients.rows rises.clients;
  sources = rises_mapped source_number _ 0 s.last_number s.streams.sources
      (λ log. settled_number (is_used _ log.number) s.moment log) rises.sources;
  registrations = rises_kept registration_number (is_registration_of_another client) 0 s.last_number
      s.streams.registrations rises.registrations;
  subscriptions = rises_kept subscription_number (is_subscription_of_another client) 0 s.last_number
      s.streams.subscriptions rises.subscriptions;
  counters = rises_kept counter_number (is_of_another client) 0 s.last_number s.counters rises.counters;
}

one_left_same : (s : State) (client : ℕ) → SameLast s (left s client)
unfolding left without
one_left_same s client = record { last = refl; last_client = refl; epoch = refl }

closing_rises : (s : State) (client : Client) (correlation : ℕ) → AreRising s →
    Rising s (close s client correlation).after
unfolding close replied told
closing_rises s client correlation rises =
    none_drawn s _ (one_left_same s client.number) (one_left_rises s client.number rises)

same_both : (s between after : State) → SameLast s between → SameLast between after → SameLast s after
same_both s between after first second = record {
  last = second.last ∙ first.last;
  last_client = second.last_client ∙ first.last_client;
  epoch = second.epoch ∙ first.epoch;
}

all_left_same : (s : State) (clients : List ℕ) → SameLast s (all_left s clients)
all_left_same s [] = record { last = refl; last_client = refl; epoch = refl }
all_left_same s (client ∷ clients) =
    same_both s (left s client) (all_left (left s client) clients) (one_left_same s client)
    (all_left_same (left s client) clients)

pub all_left_rises : (s : State) (clients : List ℕ) → AreRising s → AreRising (all_left s clients)
all_left_rises s [] rises = rises
all_left_rises s (client ∷ clients) rises = all_left_rises (left s client) clients (one_left_rises s client rises)

ticked_rises : (s between : State) (clients silent : List ℕ) → SameLast s between → AreRising between →
    Rising s (ticked between clients silent).after
unfolding ticked closed_past closed
ticked_rises s between clients silent same rises =
    none_drawn s _ (record { last = same.last; last_client = same.last_client; epoch = same.epoch }) (record {
      clients = rises.clients;
      sources = rises_kept source_number (stays_live between.moment silent) 0 between.last_number
          between.streams.sources rises.sources;
      registrations = rises.registrations;
      subscriptions = rises.subscriptions;
      counters = rises.counters;
    })

tick_rises : (s : State) (silent : List ℕ) → AreRising s → Rising s (tick s silent).after
unfolding tick
tick_rises s silent rises =
    ticked_rises s (all_left s (late s)) (late s) silent (all_left_same s (late s)) (all_left_rises s (late s) rises)

termination_rises : (s : State) (client : Client) (correlation : ℕ) → AreRising s →
    Rising s (terminated s client correlation).after
unfolding terminated stopped_for_good
termination_rises s client correlation rises =
    none_drawn s _ (record { last = refl; last_client = refl; epoch = refl }) (record {
      clients = omega arith;
      sources = omega arith;
      registrations = omega arith;
      subscriptions = omega arith;
      counters = omega arith;
    })

-- ---- each event

pub moment_rises : (s : State) (now : ℕ) → AreRising s → AreRising (at_moment s now)
unfolding at_moment
moment_rises s now rises = record {
  clients = rises.clients;
  sources = rises.sources;
  registrations = rises.registrations;
  subscriptions = rises.subscriptions;
  counters = rises.counters;
}

pub request_rises : (s : State) (now handle : ℕ) → AreRising s → AreRising (at_request s now handle)
unfolding heard at_moment touched
request_rises s now handle rises = record {
  clients = rises_mapped client_number _ 0 s.clients.last s.clients.rows
      (λ row. row_number (row.number == handle) row _) rises.clients;
  sources = rises.sources;
  registrations = rises.registrations;
  subscriptions = rises.subscriptions;
  counters = rises.counters;
}

from_moment : (s : State) (now : ℕ) (after : State) → Rising (at_moment s now) after → Rising s after
unfolding at_moment
from_moment s now after rising = record {
  rises = rising.rises;
  draws = record { last = rising.draws.last; last_client = rising.draws.last_client; epoch = rising.draws.epoch };
}

from_request : (s : State) (now handle : ℕ) (after : State) → Rising (at_request s now handle) after → Rising s after
unfolding heard at_moment touched
from_request s now handle after rising = record {
  rises = rising.rises;
  draws = record { last = rising.draws.last; last_client = rising.draws.last_client; epoch = rising.draws.epoch };
}

abbrev pub DraftRises : State → Draft → Type 0
DraftRises s draft = Rising s draft.after

command_rises : (s : State) (now handle : ℕ) (bytes : List ℕ) → AreRising s →
    Cases (DraftRises s) (at_moment s now) handle bytes
command_rises s now handle bytes rising =
    let at = at_request s now handle in
    let rises : AreRising at = request_rises s now handle rising in
    let by = from_request s now handle in
    record {
      unheard = λ correlation refusal plain not_heard.
          from_moment s now _
          (refusal_rises (at_moment s now) [] handle correlation refusal (moment_rises s now rising));
      refusal = λ decisions client correlation refusal plain was_heard.
          by _ (refusal_rises at decisions client.number correlation refusal rises);
      denial = λ client correlation act channel stream was_heard found asked denies.
          by _ (refusal_rises at _ client.number correlation _ rises);
      subscription = λ request was_heard asks allows room. by _ (subscription_rises at request rises);
      publication = λ request adding was_heard asks allows is room placed.
          by _ (publication_rises at request.client request.correlation (wanted_by request) adding rises);
      publication_removal = λ client correlation fields was_heard asks.
          by _ (publication_removal_rises at client correlation fields.registration rises);
      removal = λ request was_heard asks. by _ (removal_rises at request rises);
      keepalive = λ was_heard. by _ (keepalive_rises at rises);
      destination = λ request number was_heard asks allows manual is.
          by _ (destination_rises at request.client request.correlation _ rises);
      destination_removal = λ client correlation fields target was_heard asks is.
          by _ (destination_removal_rises at client correlation target rises);
      counter = λ client correlation fields was_heard asks allows room.
          by _ (counter_rises at client correlation fields rises);
      value = λ client correlation fields was_heard asks. by _ (value_rises at client correlation fields rises);
      counter_removal = λ client correlation fields was_heard asks.
          by _ (counter_removal_rises at client correlation fields.registration rises);
      closing = λ client correlation was_heard asks. by _ (closing_rises at client correlation rises);
      termination = λ client correlation fields was_heard asks allows.
          by _ (termination_rises at client correlation rises);
    }

pub draft_rises : (s : State) (event : Event) (inputs : Inputs) → AreRising s → DraftRises s (drafted s event inputs)
unfolding drafted
draft_rises s (Attach now principal) inputs rising =
    let before = at_moment s now in
    let rises : AreRising before = moment_rises s now rising in
    attach_cases (DraftRises s) before principal
    (from_moment s now _ (answer_rises before _ rises))
    (from_moment s now _ (attached_rises before principal rises))
    (from_moment s now _ (answer_rises before _ rises))
draft_rises s (Command now handle bytes) inputs rising =
    command_cases (DraftRises s) s now handle bytes inputs (command_rises s now handle bytes rising)
draft_rises s (Reload now policy) inputs rising =
    let before = at_moment s now in
    let rises : AreRising before = moment_rises s now rising in
    reload_cases (DraftRises s) before policy
    (λ room. from_moment s now _ (reloaded_rises before policy rises))
    (λ full. from_moment s now _ (answer_rises before _ rises))
draft_rises s (Tick now) inputs rising =
    from_moment s now _ (tick_rises (at_moment s now) inputs.silent (moment_rises s now rising))
draft_rises s (Setup now local from setup) inputs rising =
    let before = at_moment s now in
    let rises : AreRising before = moment_rises s now rising in
    set_up_cases (DraftRises s) before local from setup
    (λ fault. from_moment s now _ (answer_rises before _ rises))
    (λ join place is set. from_moment s now _ (image_rises before _ place rises))

-- where images go that none reads
unread_rises : (s after : State) → Rising s after → Rising s (without_unread after)
unfolding without_unread without_unread_in
unread_rises s after rising = record {
  rises = record {
    clients = rising.rises.clients;
    sources = rises_kept source_number (is_kept _) 0 after.last_number after.streams.sources rising.rises.sources;
    registrations = rising.rises.registrations;
    subscriptions = rising.rises.subscriptions;
    counters = rising.rises.counters;
  };
  draws = record { last = rising.draws.last; last_client = rising.draws.last_client; epoch = rising.draws.epoch };
}

pub event_rises : (s : State) (event : Event) (inputs : Inputs) → AreRising s → Rising s (state_after s event inputs)
unfolding conduct renewed dropping ruled
event_rises s event inputs rising =
    let rises : Rising (coming_to s event) (drafted (coming_to s event) event inputs).after =
    draft_rises (coming_to s event) event inputs (record {
      clients = rising.clients;
      sources = rising.sources;
      registrations = rising.registrations;
      subscriptions = rising.subscriptions;
      counters = rising.counters;
    }) in
    unread_rises s (drafted (coming_to s event) event inputs).after (record {
      rises = rises.rises;
      draws = record { last = rises.draws.last; last_client = rises.draws.last_client; epoch = rises.draws.epoch };
    })

-- ---- every registry

pub opened_rises : (settings : Settings) (policy : Rules) (peers : List Peer) → AreRising (opened settings policy peers)
unfolding opened
opened_rises settings policy peers = record {
  clients = omega arith;
  sources = omega arith;
  registrations = omega arith;
  subscriptions = omega arith;
  counters = omega arith;
}

pub numbers_rise : NumbersAreUnique
numbers_rise = after_any AreRising opened_rises (λ s event inputs rising. (event_rises s event inputs rising).rises)

pub are_drawn : (s : State) → AreRising s → AreDrawn s
are_drawn s rises = record {
  clients = λ client has. rises_drawn client_number s.clients.last s.clients.rows client rises.clients has;
  sources = λ log has. rises_drawn source_number s.last_number s.streams.sources log rises.sources has;
  registrations = λ row has.
      rises_drawn registration_number s.last_number s.streams.registrations row rises.registrations has;
  subscriptions = λ row has.
      rises_drawn subscription_number s.last_number s.streams.subscriptions row rises.subscriptions has;
  counters = λ counter has. rises_drawn counter_number s.last_number s.counters counter rises.counters has;
}

pub numbers_drawn : NumbersAreAtMostTheLast
numbers_drawn settings policy peers events = are_drawn _ (numbers_rise settings policy peers events)

pub numbers_drawn_once : LastNumbersNeverFall
numbers_drawn_once settings policy peers events event inputs =
    (event_rises _ event inputs (numbers_rise settings policy peers events)).draws
