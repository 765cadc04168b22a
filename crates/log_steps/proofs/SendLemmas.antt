-- A turn of the sender with the log that is held, whichever whole log it stands for.
use Rattle.std.proofs.Common.{◌≡◌, ℕ, Bool, true, false, cond, List, Option, Some, None, refl, sym, ap, subst, ◌∙◌}
use Rattle.std.specs.Option.{is_some, option_map}
use Rattle.log_traffic.specs.declared.any_log.AnyLog.{AnyLog}
use Rattle.log_traffic.specs.Sending.{IsNextOf, SomeDueOf, after_turn, due_in, is_some_due, passed_in, turn_of}
use Rattle.log_traffic.specs.Whole.{AnyWhole, Carries, StandsFor}
use Rattle.log_traffic.proofs.SendingLemmas.{idle_stays, idle_turn, passed_due, some_turn, unsent_stays, unsent_turn}
use Rattle.driver_core.specs.declared.asked.send_request.Outlet.{Outlet}
use Rattle.driver_core.specs.Renewal.{source_at}
use Rattle.driver_core.specs.SendRequests.{is_sent, lingers_by, outlets_by, outlets_of, sending_of, sent_among, sent_at}
use Rattle.driver_core.specs.State.{State}
use Rattle.log_steps.specs.declared.answer.Answer.TheVariants.{Gone, Idle, Sent}
use Rattle.log_steps.specs.Held.{HeldLog}
use Rattle.log_steps.specs.Memory.{Gives, is_listed}
use Rattle.log_steps.specs.Moves.{Does, StandsForLog, WholeLog, answered}
use Rattle.log_steps.specs.Recovery.{Recovering}
use Rattle.log_steps.specs.Sending.{answer_sent, pace_of, send_by, send_move, standing_of}
use Rattle.driver_core.specs.declared.state.settings.Settings.{Settings}
use Rattle.learnt_addresses.specs.declared.learnt_address.LearntAddress.{LearntAddress}
use Rattle.learnt_addresses.specs.LearntAddresses.{standing}
use Rattle.log_traffic.specs.declared.cutting.DatagramKind.{DatagramKind}
use Rattle.log_traffic.specs.declared.cutting.Next.{Next}
use Rattle.log_traffic.specs.declared.cutting.Pace.{Pace}
use Rattle.stream_registry.specs.declared.row.LogRow.{LogRow}
use Rattle.stream_registry.specs.Origins.{lingering_since}

-- ---- the publication over datagrams of that number

none_if : (b : Bool) (source : LogRow) → cond b (Some source) None ≡ None → cond b (Some (is_some (lingering_since source))) None ≡ None
none_if true source is = absurd (cc is)
none_if false source is = refl

none_by : (found : Option LogRow) → sent_among found ≡ None → lingers_by found ≡ None
none_by None is = refl
none_by (Some source) is = none_if (is_sent source) source is

-- there is none
pub sending_none : (s : State) (number : ℕ) → sent_at s number ≡ None → sending_of s number ≡ None
unfolding sent_at sending_of
sending_none s number is = none_by (source_at s.streams.sources number) is

some_if : (b : Bool) (found source : LogRow) → cond b (Some found) None ≡ Some source
    → (cond b (Some (is_some (lingering_since found))) None ≡ Some (is_some (lingering_since source))) × (Some found ≡ Some source)
some_if true found source is = (ap (λ (o : Option LogRow). option_map (λ (l : LogRow). is_some (lingering_since l)) o) is, is)
some_if false found source is = absurd (cc is)

some_by : (found : Option LogRow) (source : LogRow) → sent_among found ≡ Some source
    → (lingers_by found ≡ Some (is_some (lingering_since source))) × (found ≡ Some source)
some_by None source is = absurd (cc is)
some_by (Some found) source is = some_if (is_sent found) found source is

-- it says whether it lingers, and where its datagrams go
pub sending_some : (s : State) (number : ℕ) (source : LogRow) → sent_at s number ≡ Some source
    → (sending_of s number ≡ Some (is_some (lingering_since source))) × ((learnt : List LearntAddress) → outlets_by s learnt (Some source) ≡ outlets_of s learnt number)
unfolding sent_at sending_of outlets_of
sending_some s number source is =
    let found = some_by (source_at s.streams.sources number) source is in
    (found.0, λ learnt. ap (outlets_by s learnt) (sym found.1))

-- ---- its turn

-- by the settings and the row, what the log told
pub next_told : (log : AnyLog) (was pace : Pace) (now : ℕ) (told lingers : Bool) (next : Option (Option Next)) → was ≡ pace → told ≡ lingers →
    IsNextOf log was now told next → IsNextOf log pace now lingers next
next_told log was pace now told lingers next paced lingered is = rw (← paced, ← lingered) is

-- the move of a publication that the registry has
let_by : (s : State) (now : ℕ) (held : HeldLog) (log : WholeLog) (source : LogRow) → sent_at s held.source ≡ Some source →
    StandsForLog held log → send_move s now log ≡ send_by s now log (Some (is_some (lingering_since source)))
unfolding send_move
let_by s now held log source is stands =
    ap (send_by s now log) (ap (sending_of s) (sym stands.source_is) ∙ (sending_some s held.source source is).0)

-- there is no publication over datagrams of that number
pub send_gone : (s : State) (now : ℕ) (held : HeldLog) → sent_at s held.source ≡ None → Does (send_move s now) held held Gone
unfolding send_move
send_gone s now held is = record {
  on = λ log stands.
      let none : sending_of s log.source ≡ None = ap (sending_of s) (sym stands.source_is) ∙ sending_none s held.source is in
      let left : send_move s now log ≡ answered log Gone = ap (send_by s now log) none in
      rw left (refl, stands);
}

-- what was learnt and is past the timeout is forgotten
abbrev pub expired_beside : Settings → ℕ → Recovering → Recovering
expired_beside settings now r = record r { learnt = standing now settings.destination_timeout r.learnt }

-- the log is not sent
pub send_unsent : (s : State) (now : ℕ) (held after : HeldLog) (source : LogRow) → sent_at s held.source ≡ Some source →
    IsNextOf held.log (pace_of s.settings) now (is_some (lingering_since source)) None → after.source ≡ held.source →
    after.log ≡ held.log → after.recovery ≡ expired_beside s.settings now held.recovery → Does (send_move s now) held after Gone
send_unsent s now held after source is next stays same kept = record {
  on = λ log stands.
      let due : due_in (pace_of s.settings) now log.whole ≡ None = sym (next.on log.whole stands.whole).0 in
      let turn = unsent_turn (pace_of s.settings) now (is_some (lingering_since source)) log.whole due in
      let left = unsent_stays (pace_of s.settings) now log.whole due in
      rw (let_by s now held log source is stands, turn) (
        refl,
        record {
          source_is = stays ∙ stands.source_is;
          whole = rw (left, same) stands.whole;
          recovery_is = kept ∙ ap (expired_beside s.settings now) stands.recovery_is;
        },
      );
}

-- nothing is due
pub send_idle : (s : State) (now : ℕ) (held after : HeldLog) (source : LogRow) → sent_at s held.source ≡ Some source →
    IsNextOf held.log (pace_of s.settings) now (is_some (lingering_since source)) (Some None) → after.source ≡ held.source →
    after.log ≡ held.log → after.recovery ≡ expired_beside s.settings now held.recovery → Does (send_move s now) held after Idle
send_idle s now held after source is next stays same kept = record {
  on = λ log stands.
      let due : due_in (pace_of s.settings) now log.whole ≡ Some None = sym (next.on log.whole stands.whole).0 in
      let turn = idle_turn (pace_of s.settings) now (is_some (lingering_since source)) log.whole due in
      let left = idle_stays (pace_of s.settings) now log.whole due in
      rw (let_by s now held log source is stands, turn) (
        refl,
        record {
          source_is = stays ∙ stands.source_is;
          whole = rw (left, same) stands.whole;
          recovery_is = kept ∙ ap (expired_beside s.settings now) stands.recovery_is;
        },
      );
}

-- the log has its turn
pub send_done : (s : State) (now : ℕ) (held after : HeldLog) (source : LogRow) (outlets : List Outlet) (next : Next) →
    sent_at s held.source ≡ Some source →
    outlets ≡ outlets_by s (standing now s.settings.destination_timeout held.recovery.learnt) (Some source) →
    IsNextOf held.log (pace_of s.settings) now (is_some (lingering_since source)) (Some (Some next)) →
    Carries held.log after.log (passed_in now next.cut.kind) → after.source ≡ held.source →
    after.recovery ≡ expired_beside s.settings now held.recovery → Does (send_move s now) held after (Sent next.bytes.items outlets)
send_done s now held after source outlets next is goes due carries stays kept = record {
  on = λ log stands.
      let pace = pace_of s.settings in
      let cut = due.on log.whole stands.whole in
      let moved : passed_in now next.cut.kind log.whole ≡ after_turn pace now log.whole = passed_due pace now log.whole next.cut.kind (sym cut.0) in
      let learnt : List LearntAddress = standing now s.settings.destination_timeout held.recovery.learnt in
      rw (let_by s now held log source is stands) (
        ap (λ (o : List Outlet). Sent next.bytes.items o)
            (goes ∙ (sending_some s held.source source is).1 learnt ∙ ap (outlets_of s learnt) stands.source_is
            ∙ ap (λ (r : Recovering). outlets_of s (standing now s.settings.destination_timeout r.learnt) log.source) stands.recovery_is)
            ∙ ap (answer_sent (outlets_of s (standing_of s.settings now log) log.source)) cut.1,
        record {
          source_is = stays ∙ stands.source_is;
          whole = subst (λ (w : AnyWhole). StandsFor after.log w) moved (carries.on log.whole stands.whole);
          recovery_is = kept ∙ ap (expired_beside s.settings now) stands.recovery_is;
        },
      );
}

sent_listed : (outlets : List Outlet) (turn : Option (Option (List ℕ))) (bytes : List ℕ) → turn ≡ Some (Some bytes) →
    is_listed (answer_sent outlets turn) ≡ true
sent_listed outlets turn bytes is = rw is refl

kind_due : (due : Option (Option DatagramKind)) → is_some_due due ≡ true → (kind : DatagramKind) × (due ≡ Some (Some kind))
kind_due (Some (Some kind)) is = (kind, refl)
kind_due (Some None) is = absurd (cc is)
kind_due None is = absurd (cc is)

-- a datagram is due, for which memory may be wanting
pub send_gives : (s : State) (now : ℕ) (held : HeldLog) (source : LogRow) → sent_at s held.source ≡ Some source →
    SomeDueOf held.log (pace_of s.settings) now → Gives (send_move s now) held
send_gives s now held source is some = record {
  on = λ log stands.
      let kind = kind_due (due_in (pace_of s.settings) now log.whole) (some.on log.whole stands.whole) in
      let turn = some_turn (pace_of s.settings) now (is_some (lingering_since source)) log.whole kind.0 kind.1 in
      rw (let_by s now held log source is stands)
      (sent_listed (outlets_of s (standing_of s.settings now log) log.source) (turn_of (pace_of s.settings) now (is_some (lingering_since source)) log.whole) turn.0 turn.1);
}

-- as where it was told
pub next_due : (s : State) (now : ℕ) (held : HeldLog) (source : LogRow) (next : Next) →
    IsNextOf held.log (pace_of s.settings) now (is_some (lingering_since source)) (Some (Some next)) →
    SomeDueOf held.log (pace_of s.settings) now
next_due s now held source next due = record { on = λ w stands. ap is_some_due (sym (due.on w stands).0) }
