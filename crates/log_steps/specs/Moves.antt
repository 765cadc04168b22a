-- What an offer and a poll do with one log, as the registry says that the client reads. Own rules.
use Rattle.std.specs.Prelude.{◌≡◌, ℕ, ◌==◌, not, nat_lt, List, length, Option, Some, None, if◌then◌else◌}
use Rattle.driver_core.specs.declared.asked.log_request.LogRequest.{LogRequest}
use Rattle.driver_core.specs.LogRequests.{offering_of, receiving_of}
use Rattle.driver_core.specs.State.{State}
use Rattle.log_steps.specs.declared.answer.Answer.{Answer}
use Rattle.log_steps.specs.declared.answer.Answer.TheVariants.{Offered as OfferedAs, Polled, Gone as IsGone, Denied}
use Rattle.log_steps.specs.declared.answer.Offered.TheVariants.{Closed, TooLong, NotConnected}
use Rattle.log_steps.specs.Answers.{offered_as}
use Rattle.log_steps.specs.Held.{HeldLog}
use Rattle.log_steps.specs.Recovery.{Recovering}
use Rattle.log_traffic.specs.declared.any_log.AnyLog.TheVariants.{Term}
use Rattle.log_traffic.specs.Whole.{AnyWhole, whole, rebuilt, StandsFor, polled, position_in}
use Rattle.policy_core.specs.declared.verdict.Verdict.{Verdict}
use Rattle.term_log.specs.Log.{Log, greatest_message}
use Rattle.term_log.specs.Whole.{Whole, answer_to, is_connected, offered}

-- a log by its source number, as if nothing of it were lost, and what is kept beside it
pub record WholeLog : Type 0 where
  pub source : ℕ
  pub whole : AnyWhole
  pub recovery : Recovering

-- what a step on one log leaves of it, and what it is answered
pub record Move : Type 0 where
  pub after : WholeLog
  pub answer : Answer

-- nothing is changed
abbrev pub answered : WholeLog → Answer → Move
answered log answer = record { after = log; answer = answer }

-- a step that is for the log of a source: with another one it comes to nothing
abbrev pub for_source : ℕ → (WholeLog → Move) → Answer → WholeLog → Move
for_source source move absent log = if log.source == source then move log else answered log absent

-- ---- an offer

-- the message is offered to the log itself, all of whose frames these are
abbrev pub taken : List ℕ → WholeLog → Whole → Move
taken message log frames = record {
  after = record log { whole = whole (offered frames message) };
  answer = OfferedAs (offered_as (answer_to frames message));
}

-- it is denied; the message is too long; nobody reads the log
abbrev pub offer_let : ℕ → ℕ → Verdict → List ℕ → WholeLog → Whole → Move
offer_let now timeout verdict message log frames =
    if not verdict.allow then answered log (Denied verdict)
    else if nat_lt (greatest_message frames.ident) (length message) then answered log (OfferedAs TooLong)
    else if not (is_connected frames now timeout) then answered log (OfferedAs NotConnected)
    else taken message log frames

-- the log of a remote stream takes no message
abbrev pub offer_to : ℕ → ℕ → Verdict → List ℕ → WholeLog → AnyWhole → Move
offer_to now timeout verdict message log (whole frames) = offer_let now timeout verdict message log frames
offer_to now timeout verdict message log (rebuilt frames) = answered log (OfferedAs Closed)

abbrev pub offers : ℕ → ℕ → Verdict → List ℕ → WholeLog → Move
offers now timeout verdict message log = offer_to now timeout verdict message log log.whole

-- the client has no such registration, or with another log
abbrev pub offer_under : ℕ → Option LogRequest → ℕ → List ℕ → WholeLog → Move
offer_under timeout None now message log = answered log (OfferedAs Closed)
offer_under timeout (Some request) now message log =
    if not (request.source == log.source) then answered log (OfferedAs Closed)
    else offers now timeout request.decision.verdict message log

-- the registration's number decides, then the verdict, then the log
unfoldable pub offer_move : State → ℕ → ℕ → ℕ → List ℕ → WholeLog → Move
offer_move s now client registration message =
    offer_under s.settings.connection_timeout (offering_of s client registration) now message

-- ---- a poll

abbrev pub given : ℕ → ℕ → WholeLog → Move
given subscription limit log = record {
  after = record log { whole = (polled log.whole subscription limit).after };
  answer = Polled (polled log.whole subscription limit).fragments;
}

-- the client's subscription does not read the log, or has no position in it; it is denied
abbrev pub poll_under : ℕ → ℕ → WholeLog → Option LogRequest → Option ℕ → Move
poll_under subscription limit log None position = answered log IsGone
poll_under subscription limit log (Some request) None = answered log IsGone
poll_under subscription limit log (Some request) (Some position) =
    if not request.decision.verdict.allow then answered log (Denied request.decision.verdict)
    else given subscription limit log

-- the pair decides, then the verdict, then the log
unfoldable pub poll_move : State → ℕ → ℕ → ℕ → WholeLog → Move
poll_move s client subscription limit log =
    poll_under subscription limit log (receiving_of s client subscription log.source)
    (position_in log.whole subscription)

-- ---- a step on the log that is held, whichever whole log it stands for

pub record StandsForLog (held : HeldLog) (log : WholeLog) : Type 0 where
  pub source_is : held.source ≡ log.source
  pub whole : StandsFor held.log log.whole
  pub recovery_is : held.recovery ≡ log.recovery

pub record Does (move : WholeLog → Move) (old new : HeldLog) (answer : Answer) : Type 0 where
  pub on : (log : WholeLog) → StandsForLog old log → (answer ≡ (move log).answer) × StandsForLog new (move log).after

-- the log of a publication, under a number, with what is kept beside it
abbrev pub term_held : ℕ → Recovering → Log → HeldLog
term_held source recovery log = record { source = source; log = Term log; recovery = recovery }
