-- In every registry the settings are those of the opening, and the next session is looked for from a number of 32 bits on.
use Rattle.std.proofs.Common.{◌≡◌, ℕ, ◌+◌, ℤ, List, [], ◌∷◌, is_some}
use Rattle.std.specs.Int.{w32}
use Rattle.std.specs.Prelude.{FitsSigned}
use Rattle.std.proofs.lemmas.Bool.{cond_both}
use Rattle.driver_core.specs.declared.state.event.Event.{Event}
use Rattle.driver_core.specs.declared.state.event.Event.TheVariants.{Attach, Command, Reload, Setup, Tick}
use Rattle.driver_core.specs.declared.state.event.Inputs.{Inputs}
use Rattle.driver_core.specs.declared.state.settings.Settings.{Settings}
use Rattle.driver_core.specs.Attaching.{attached}
use Rattle.driver_core.specs.Closing.{close, keep_alive}
use Rattle.driver_core.specs.Commands.{heard}
use Rattle.driver_core.specs.Conduct.{coming_to, conduct, drafted, state_after}
use Rattle.driver_core.specs.Counting.{counted, uncounted, valued, with_counter}
use Rattle.driver_core.specs.Directing.{directed, recalled, with_destination, without_destination}
use Rattle.driver_core.specs.Draft.{Draft, answered, refused, replied, replied_opening, told}
use Rattle.driver_core.specs.Leaving.{all_left, left}
use Rattle.driver_core.specs.Publishing.{published, with_directed_publication, with_publication}
use Rattle.driver_core.specs.Reloading.{in_force, reloaded}
use Rattle.driver_core.specs.Renewal.{renewed}
use Rattle.driver_core.specs.Requests.{wanted_by}
use Rattle.driver_core.specs.SettingUp.{image_made, with_image}
use Rattle.driver_core.specs.State.{State, at_moment, ruled}
use Rattle.driver_core.specs.Subscribing.{subscribed, with_subscription}
use Rattle.driver_core.specs.Terminating.{stopped_for_good, terminated}
use Rattle.driver_core.specs.Ticking.{closed_past, late, tick, ticked}
use Rattle.driver_core.specs.Unpublishing.{unpublished}
use Rattle.driver_core.specs.Unread.{dropping, without_unread}
use Rattle.driver_core.specs.Unsubscribing.{unsubscribed}
use Rattle.channel_uri.specs.Parameters.{stated_session_of}
use Rattle.log_readers.specs.Unread.{without_unread as without_unread_in}
use Rattle.stream_registry.specs.declared.wanted.Adding.{Adding}
use Rattle.stream_registry.specs.declared.wanted.Adding.TheVariants.{Join, Make}
use Rattle.stream_registry.specs.declared.wanted.Wanted.{Wanted}
use Rattle.stream_registry.specs.Adding.{added, next_after, subscribed as subscribed_in}
use Rattle.stream_registry.specs.Leaving.{left as left_in, unregistered, unsubscribed as unsubscribed_in}
use Rattle.stream_registry.specs.Lingering.{closed, settled}
use Rattle.stream_registry.specs.Sessions.{after}
use Rattle.stream_registry.specs.Streams.{Streams}
use Rattle.driver_core.proofs.EventCases.{Cases, attach_cases, command_cases, reload_cases, set_up_cases}
use Rattle.driver_laws.proofs.ReadWidthLemmas.{after_fits}

-- the next session is looked for from such a number on, and the settings are these
abbrev pub IsCounted : Settings → State → Type 0
IsCounted settings s = FitsSigned w32 s.streams.next_session × (s.settings ≡ settings)

abbrev DraftCounted : Settings → Draft → Type 0
DraftCounted settings draft = IsCounted settings draft.after

next_fits : (s : Streams) (wanted : Wanted) (session : ℤ) → FitsSigned w32 s.next_session →
    FitsSigned w32 (next_after s wanted session)
next_fits s wanted session fits =
    cond_both (is_some (stated_session_of wanted.channel)) s.next_session (after session) (FitsSigned w32)
    (λ stated. fits) (λ own. after_fits session)

added_fits : (s : Streams) (number client place : ℕ) (wanted : Wanted) (adding : Adding) → FitsSigned w32 s.next_session →
    FitsSigned w32 (added s number client wanted place adding).next_session
added_fits s number client place wanted (Join source session) fits = fits
added_fits s number client place wanted (Make session) fits = next_fits s wanted session fits

command_counted : (settings : Settings) (s : State) (now handle : ℕ) (bytes : List ℕ) → IsCounted settings s →
    Cases (DraftCounted settings) (at_moment s now) handle bytes
unfolding at_moment heard refused replied told subscribed with_subscription subscribed_in published with_directed_publication with_publication replied_opening unpublished unregistered settled unsubscribed unsubscribed_in keep_alive counted with_counter valued uncounted directed with_destination recalled without_destination close left left_in terminated stopped_for_good
command_counted settings s now handle bytes fits =
    record {
      unheard = λ correlation refusal plain not_heard. fits;
      refusal = λ decisions client correlation refusal plain was_heard. fits;
      denial = λ client correlation act channel stream was_heard found asked denies. fits;
      subscription = λ request was_heard asks allows room. fits;
      publication = λ request adding was_heard asks allows is room placed.
          (added_fits s.streams (s.last_number + 1) request.client.number _ (wanted_by request) adding fits.0, fits.1);
      publication_removal = λ client correlation fields was_heard asks. fits;
      removal = λ request was_heard asks. fits;
      keepalive = λ was_heard. fits;
      destination = λ request number was_heard asks allows manual is. fits;
      destination_removal = λ client correlation fields target was_heard asks is. fits;
      counter = λ client correlation fields was_heard asks allows room. fits;
      value = λ client correlation fields was_heard asks. fits;
      counter_removal = λ client correlation fields was_heard asks. fits;
      closing = λ client correlation was_heard asks. fits;
      termination = λ client correlation fields was_heard asks allows. fits;
    }

left_counted : (settings : Settings) (s : State) (clients : List ℕ) → IsCounted settings s → IsCounted settings (all_left s clients)
unfolding left left_in settled
left_counted settings s [] fits = fits
left_counted settings s (client ∷ clients) fits = left_counted settings (left s client) clients fits

ticked_counted : (settings : Settings) (s : State) (clients silent : List ℕ) → IsCounted settings s →
    DraftCounted settings (ticked s clients silent)
unfolding ticked closed_past closed
ticked_counted settings s clients silent fits = fits

draft_counted : (settings : Settings) (s : State) (event : Event) (inputs : Inputs) → IsCounted settings s →
    DraftCounted settings (drafted s event inputs)
unfolding drafted at_moment answered attached reloaded in_force tick image_made with_image
draft_counted settings s (Attach now principal) inputs fits =
    attach_cases (DraftCounted settings) (at_moment s now) principal fits fits fits
draft_counted settings s (Command now handle bytes) inputs fits =
    command_cases (DraftCounted settings) s now handle bytes inputs (command_counted settings s now handle bytes fits)
draft_counted settings s (Reload now policy) inputs fits =
    reload_cases (DraftCounted settings) (at_moment s now) policy (λ room. fits) (λ full. fits)
draft_counted settings s (Tick now) inputs fits =
    ticked_counted settings (all_left (at_moment s now) (late (at_moment s now))) (late (at_moment s now)) inputs.silent
    (left_counted settings (at_moment s now) (late (at_moment s now)) fits)
draft_counted settings s (Setup now local from setup) inputs fits =
    set_up_cases (DraftCounted settings) (at_moment s now) local from setup (λ fault. fits) (λ join place is set. fits)

pub event_counted : (settings : Settings) (s : State) (event : Event) (inputs : Inputs) → IsCounted settings s →
    IsCounted settings (state_after s event inputs)
unfolding conduct renewed dropping without_unread without_unread_in ruled
event_counted settings s event inputs fits = draft_counted settings (coming_to s event) event inputs fits
