-- In every registry each image is read; and where none goes.
use Rattle.std.proofs.Common.{◌≡◌, true, List, [], map, ap}
use Rattle.std.specs.List.{Contains}
use Rattle.std.proofs.lemmas.Bool.{not-true}
use Rattle.driver_core.specs.declared.state.event.Event.{Event}
use Rattle.driver_core.specs.declared.state.event.Inputs.{Inputs}
use Rattle.driver_core.specs.declared.state.peer.Peer.{Peer}
use Rattle.driver_core.specs.declared.state.settings.Settings.{Settings}
use Rattle.driver_core.specs.Conduct.{coming_to, conduct, drafted, moment_told, state_after, state_of}
use Rattle.driver_core.specs.Draft.{Draft}
use Rattle.driver_core.specs.Pairs.{pairs_of}
use Rattle.driver_core.specs.Renewal.{renewed}
use Rattle.driver_core.specs.State.{State, opened}
use Rattle.driver_core.specs.Unread.{are_all_read, dropping, without_unread}
use Rattle.driver_laws.specs.Events.{AfterAnyEvents}
use Rattle.driver_laws.specs.ImageLaws.{AreRead, ImagesAreRead, NoImageIsUnread}
use Rattle.driver_laws.specs.NumberLaws.{AreRising}
use Rattle.log_readers.specs.Numbering.{source_of}
use Rattle.log_readers.specs.Unread.{has_none, is_kept, is_unread, without_unread as without_unread_in}
use Rattle.policy_core.specs.RuleList.{Rules}
use Rattle.stream_registry.specs.declared.row.LogRow.{LogRow}
use Rattle.driver_core.proofs.ListLemmas.{contains_none}
use Rattle.driver_laws.proofs.DroppingLemmas.{AreKept, drops_nothing, none_pass, pairs_stay, passes_test}
use Rattle.driver_laws.proofs.NumberLemmas.{draft_rises, event_rises, opened_rises}
use Rattle.driver_laws.proofs.EveryLemmas.{after_any}
use Rattle.driver_laws.proofs.TurningLemmas.{rising_at}

-- ---- each image is read

kept_logs : (s : State) (log : LogRow) → Contains (without_unread s).streams.sources log → is_kept (pairs_of s) log ≡ true
unfolding without_unread without_unread_in pairs_of
kept_logs s log has = passes_test (is_kept (pairs_of s)) s.streams.sources log has

read_behind : (s : State) → AreRising s → AreRead (without_unread s)
read_behind s rises = λ log has. rw (pairs_stay s rises) (kept_logs s log has)

event_read : (s : State) (event : Event) (inputs : Inputs) → AreRising s → AreRead (state_after s event inputs)
unfolding conduct renewed dropping
event_read s event inputs rises =
    let at : State = coming_to s event in
    read_behind (drafted at event inputs).after (draft_rises at event inputs (rising_at s (moment_told event) rises)).rises

opened_read : (settings : Settings) (policy : Rules) (peers : List Peer) → AreRead (opened settings policy peers)
unfolding opened
opened_read settings policy peers = λ log has. absurd (contains_none log has)

both_hold : AfterAnyEvents (λ s. AreRising s × AreRead s)
both_hold =
    after_any (λ s. AreRising s × AreRead s)
    (λ settings policy peers. (opened_rises settings policy peers, opened_read settings policy peers))
    (λ s event inputs both. ((event_rises s event inputs both.0).rises, event_read s event inputs both.0))

pub images_read : ImagesAreRead
images_read settings policy peers events = (both_hold settings policy peers events).1

none_unread : (s : State) → AreRead s → are_all_read s ≡ true
none_unread s read =
    ap (λ (logs : List LogRow). has_none (map source_of logs))
    (none_pass (is_unread (pairs_of s)) s.streams.sources
    (λ log has. not-true (is_unread (pairs_of s) log) (read log has)))

pub no_image_unread : NoImageIsUnread
no_image_unread settings policy peers events =
    none_unread (state_of (opened settings policy peers) events) (images_read settings policy peers events)

-- ---- where no image goes

pub record DropsNothing (s : State) (draft : Draft) : Type 0 where
  pub closes : draft.closes ≡ []
  pub were : AreKept (pairs_of draft.after) s.streams.sources
  pub kept : AreKept (pairs_of draft.after) draft.after.streams.sources

pub drops_none : (s : State) (inputs : Inputs) (draft : Draft) → DropsNothing s draft →
    dropping s (renewed s inputs draft) ≡ renewed s inputs draft
unfolding renewed
drops_none s inputs draft nothing =
    drops_nothing s (renewed s inputs draft) nothing.closes nothing.were nothing.kept

-- where logs and pairs stay
pub as_before : (s : State) (draft : Draft) → AreRead s → draft.closes ≡ [] →
    draft.after.streams.sources ≡ s.streams.sources → pairs_of draft.after ≡ pairs_of s → DropsNothing s draft
as_before s draft read closes logs pairs = record {
  closes = closes;
  were = rw pairs read;
  kept = rw (pairs, logs) read;
}
