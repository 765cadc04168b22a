-- Moves that leave of a log its number, its frames, who reads it and what it is made for.
use Rattle.std.proofs.Common.{◌≡◌, ℕ, Bool, Option, Some, None, refl, sym, subst}
use Rattle.channel_uri.specs.declared.address.Address.{Address}
use Rattle.driver_core.specs.SendRequests.{sending_of}
use Rattle.driver_core.specs.State.{State}
use Rattle.log_steps.specs.declared.answer.Answer.TheVariants.{Gone as IsGone}
use Rattle.driver_steps.specs.Ends.{RunEnd, Moved, on_log, on_report}
use Rattle.log_steps.specs.Hearing.{nak_move, status_move}
use Rattle.log_steps.specs.Moves.{WholeLog, Move}
use Rattle.log_steps.specs.Reporting.{report_move}
use Rattle.log_steps.specs.Sending.{pace_of, send_by, send_move}
use Rattle.log_steps.proofs.HearingLemmas.{status_source, status_whole}
use Rattle.frame_codec.specs.declared.nak.Nak.{Nak}
use Rattle.frame_codec.specs.declared.status_message.StatusMessage.{StatusMessage}
use Rattle.log_traffic.proofs.StillLemmas.{IsStill, hearing_still, is_still, report_still, turn_still}
use Rattle.log_traffic.specs.Whole.{AnyWhole}
use Rattle.policy_core.specs.declared.decision.Decision.{Decision}

pub record IsStillLog (log new : WholeLog) : Type 0 where
  pub source : new.source ≡ log.source
  pub whole : IsStill log.whole new.whole

abbrev pub IsQuiet : (WholeLog → Move) → Type 0
IsQuiet move = (log : WholeLog) → IsStillLog log (move log).after

-- what holds by the number, and by what is left, holds still
pub still_holds : (P : ℕ → AnyWhole → Type 0) (log new : WholeLog) → IsStillLog log new →
    ((w : AnyWhole) → IsStill log.whole w → P log.source log.whole → P log.source w) → P log.source log.whole →
    P new.source new.whole
still_holds P log new still stays holds =
    subst (λ (n : ℕ). P n new.whole) (sym still.source) (stays new.whole still.whole holds)

-- ---- such moves

-- a status message may change which addresses are learnt, too
pub status_quiet : (now : ℕ) (from : Address) (decision : Option Decision) (message : StatusMessage) →
    IsQuiet (status_move now from decision message)
status_quiet now from decision message log = record {
  source = status_source (λ n. n ≡ log.source) now from decision message log refl;
  whole = status_whole (λ w. IsStill log.whole w) now from decision message log (is_still log.whole) (hearing_still now message log.whole);
}

-- a NAK changes what the gate keeps
pub nak_quiet : (now : ℕ) (from : Address) (decision : Decision) (nak : Nak) → IsQuiet (nak_move now from decision nak)
nak_quiet now from decision nak log = record { source = refl; whole = is_still log.whole }

pub report_quiet : (now id : ℕ) (to : Address) → IsQuiet (report_move now id to)
report_quiet now id to log = record { source = refl; whole = report_still now log.recovery.receiver log.whole }

send_still : (s : State) (now : ℕ) (log : WholeLog) (lingers : Option Bool) → IsStillLog log (send_by s now log lingers).after
send_still s now log None = record { source = refl; whole = is_still log.whole }
send_still s now log (Some lingers) = record { source = refl; whole = turn_still (pace_of s.settings) now log.whole }

pub send_quiet : (s : State) (now : ℕ) → IsQuiet (send_move s now)
unfolding send_move
send_quiet s now log = send_still s now log (sending_of s log.source)

-- ---- a turn of the receiver

-- there is no such image, or its log moves so
pub report_cases : (P : Moved → Type 0) (s : State) (e : RunEnd) (now source : ℕ) →
    P (record { after = e; answer = IsGone }) → ((move : WholeLog → Move) → IsQuiet move → P (on_log e source move IsGone)) →
    (to : Option Address) → P (on_report s e now source to)
report_cases P s e now source stays moves None = stays
report_cases P s e now source stays moves (Some to) =
    moves (report_move now s.settings.receiver_id to) (report_quiet now s.settings.receiver_id to)
