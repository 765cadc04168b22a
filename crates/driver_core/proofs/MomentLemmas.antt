-- After every event the policy is what its text makes of it at the moment.
use Rattle.std.proofs.Common.{ℕ, List, [], ◌∷◌, refl}
use Rattle.driver_core.specs.Draft.{Draft}
use Rattle.driver_core.specs.declared.state.event.Event.{Event}
use Rattle.driver_core.specs.declared.state.event.Event.TheVariants.{Attach, Command, Reload, Setup, Tick}
use Rattle.driver_core.specs.declared.state.event.Inputs.{Inputs}
use Rattle.driver_core.specs.declared.state.peer.Peer.{Peer}
use Rattle.driver_core.specs.declared.state.settings.Settings.{Settings}
use Rattle.driver_core.specs.Attaching.{attached}
use Rattle.driver_core.specs.Closing.{keep_alive, close}
use Rattle.driver_core.specs.Commands.{heard}
use Rattle.driver_core.specs.Conduct.{coming_to, conduct, drafted, state_after, state_of}
use Rattle.driver_core.specs.Counting.{counted, with_counter, valued, uncounted}
use Rattle.driver_core.specs.Directing.{directed, recalled, with_destination, without_destination}
use Rattle.driver_core.specs.Draft.{answered, told, replied, replied_opening, refused}
use Rattle.driver_core.specs.Leaving.{left, all_left}
use Rattle.driver_core.specs.Looking.{IsAtItsMoment}
use Rattle.driver_core.specs.Publishing.{published, with_directed_publication, with_publication}
use Rattle.driver_core.specs.Reloading.{in_force, reloaded}
use Rattle.driver_core.specs.Renewal.{renewed}
use Rattle.driver_core.specs.SettingUp.{image_made, with_image}
use Rattle.driver_core.specs.State.{State, at_moment, opened, ruled}
use Rattle.driver_core.specs.Subscribing.{subscribed, with_subscription}
use Rattle.driver_core.specs.Terminating.{stopped_for_good, terminated}
use Rattle.driver_core.specs.Ticking.{closed_past, late, tick, ticked}
use Rattle.driver_core.specs.Unpublishing.{unpublished}
use Rattle.driver_core.specs.Unread.{dropping, without_unread}
use Rattle.driver_core.specs.Unsubscribing.{unsubscribed}
use Rattle.policy_core.specs.RuleList.{Rules}
use Rattle.stream_registry.specs.declared.wanted.ImageWanted.{ImageWanted}
use Rattle.driver_core.proofs.EventCases.{Cases, attach_cases, command_cases, reload_cases, set_up_cases}

abbrev IsTimely : Draft → Type 0
IsTimely draft = IsAtItsMoment draft.after

-- whatever the policy was before, the registry to which an event comes has that of the moment at which its rule looks
ruled_timely : (s : State) (now : ℕ) → IsAtItsMoment (at_moment (ruled s now) now)
unfolding at_moment ruled
ruled_timely s now = (refl, refl)

-- no command but a reload touches the policy
command_timely : (s : State) (handle : ℕ) (bytes : List ℕ) → IsAtItsMoment s → Cases IsTimely s handle bytes
unfolding heard refused replied replied_opening told subscribed with_subscription published with_directed_publication with_publication unpublished unsubscribed keep_alive directed with_destination recalled without_destination counted with_counter valued uncounted close left terminated stopped_for_good
command_timely s handle bytes is = record {
  unheard = λ correlation refusal plain not_heard. is;
  refusal = λ decisions client correlation refusal plain was_heard. is;
  denial = λ client correlation act channel stream was_heard found asked denies. is;
  subscription = λ request was_heard asks allows room. is;
  publication = λ request adding was_heard asks allows taken room placed. is;
  publication_removal = λ client correlation fields was_heard asks. is;
  removal = λ request was_heard asks. is;
  keepalive = λ was_heard. is;
  destination = λ request number was_heard asks allows manual taken. is;
  destination_removal = λ client correlation fields target was_heard asks recalls. is;
  counter = λ client correlation fields was_heard asks allows room. is;
  value = λ client correlation fields was_heard asks. is;
  counter_removal = λ client correlation fields was_heard asks. is;
  closing = λ client correlation was_heard asks. is;
  termination = λ client correlation fields was_heard asks allows. is;
}

one_left_timely : (s : State) (client : ℕ) → IsAtItsMoment s → IsAtItsMoment (left s client)
unfolding left
one_left_timely s client is = is

all_left_timely : (s : State) (clients : List ℕ) → IsAtItsMoment s → IsAtItsMoment (all_left s clients)
all_left_timely s [] is = is
all_left_timely s (client ∷ clients) is = all_left_timely (left s client) clients (one_left_timely s client is)

ticked_timely : (s : State) (clients silent : List ℕ) → IsAtItsMoment s → IsTimely (ticked s clients silent)
unfolding ticked closed_past
ticked_timely s clients silent is = is

image_timely : (s : State) (wanted : ImageWanted) (place : ℕ) → IsAtItsMoment s → IsTimely (image_made s wanted place)
unfolding image_made with_image answered
image_timely s wanted place is = is

draft_timely : (s : State) (event : Event) (inputs : Inputs) → IsTimely (drafted (coming_to s event) event inputs)
unfolding drafted answered attached reloaded in_force tick
draft_timely s (Attach now principal) inputs =
    let is = ruled_timely s now in
    attach_cases IsTimely (at_moment (ruled s now) now) principal is is is
draft_timely s (Command now handle bytes) inputs =
    command_cases IsTimely (ruled s now) now handle bytes inputs
    (command_timely (at_moment (ruled s now) now) handle bytes (ruled_timely s now))
draft_timely s (Reload now policy) inputs =
    let is = ruled_timely s now in
    reload_cases IsTimely (at_moment (ruled s now) now) policy (λ room. (refl, refl)) (λ full. is)
draft_timely s (Tick now) inputs =
    let before = at_moment (ruled s now) now in
    ticked_timely (all_left before (late before)) (late before) inputs.silent
    (all_left_timely before (late before) (ruled_timely s now))
draft_timely s (Setup now local from setup) inputs =
    let before = at_moment (ruled s now) now in
    let is = ruled_timely s now in
    set_up_cases IsTimely before local from setup (λ fault. is)
    (λ join place made set. image_timely before _ place is)

-- images that go because none reads them leave the policy
pub event_timely : (s : State) (event : Event) (inputs : Inputs) → IsAtItsMoment (state_after s event inputs)
unfolding conduct renewed dropping without_unread
event_timely s event inputs = draft_timely s event inputs

pub opened_timely : (settings : Settings) (policy : Rules) (peers : List Peer) → IsAtItsMoment (opened settings policy peers)
unfolding opened
opened_timely settings policy peers = (refl, refl)

pub run_timely : (s : State) (events : List (Event × Inputs)) → IsAtItsMoment s → IsAtItsMoment (state_of s events)
run_timely s [] is = is
run_timely s (event ∷ events) is =
    run_timely (state_after s event.0 event.1) events (event_timely s event.0 event.1)
