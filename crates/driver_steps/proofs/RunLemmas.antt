-- Runs are put together of steps.
use Rattle.std.proofs.Common.{◌≡◌, ℕ, ◌==◌, not, nat_lt, Bool, true, false, List, length, Option, Some, None, if◌then◌else◌, refl}
use Rattle.std.specs.Option.{option_map}
use Rattle.log_traffic.specs.Whole.{AnyWhole, whole, rebuilt}
use Rattle.driver_core.specs.declared.asked.log_request.LogRequest.{LogRequest}
use Rattle.driver_core.specs.State.{State}
use Rattle.log_steps.specs.declared.answer.Answer.{Answer}
use Rattle.log_steps.specs.declared.answer.Answer.TheVariants.{NoMemory, Attached, Full, Stopped, PolicyInForce, PolicyFull, Imaged, Unimaged, Dropped, Replies, Offered as OfferedAs, Polled, Gone as IsGone, Counters, Value as ValueIs, Denied, UnknownCounter, WrongClient, BadStep, Received, Heard, Limited, Elicited, Idle, Sent as SentTo, Resent, Reported}
use Rattle.channel_uri.specs.declared.address.Address.{Address}
use Rattle.log_traffic.specs.declared.asking.NakReply.{NakReply}
use Rattle.log_traffic.specs.declared.asking.NakReply.TheVariants as replies
use Rattle.log_steps.specs.Hearing.{answer_asked, answer_heard}
use Rattle.log_traffic.specs.Reporting.{report_of}
use Rattle.log_steps.specs.Reporting.{answer_reported, report_by}
use Rattle.log_steps.specs.Sending.{answer_sent, pace_of, send_by, standing_of}
use Rattle.log_traffic.specs.Sending.{turn_of}
use Rattle.driver_core.specs.declared.asked.send_request.Outlet.{Outlet}
use Rattle.driver_core.specs.SendRequests.{outlets_of}
use Rattle.log_traffic.specs.declared.hearing.StatusAnswer.{StatusAnswer}
use Rattle.log_traffic.specs.declared.hearing.StatusAnswer.TheVariants as statuses
use Rattle.driver_steps.specs.Ends.{RunEnd, Moved, IsAnswerOf, after_by, moved_on, on_log, log_at}
use Rattle.driver_steps.specs.OpenLogs.{HeldLogs, GivesFirst, MovesFirst}
use Rattle.driver_steps.specs.StepMemory.{HasMemoryBy}
use Rattle.log_steps.specs.Memory.{is_listed}
use Rattle.log_steps.specs.Moves.{WholeLog, Move, offer_to, offer_under, poll_under}
use Rattle.driver_steps.specs.Standing.{StandAll, Held, StandsForEnd, ServesAs}
use Rattle.driver_steps.specs.EndDecisions.{decided_unless}
use Rattle.policy_core.specs.declared.decision.Decision.{Decision}
use Rattle.driver_steps.proofs.StandLemmas.{gives_first, moves_first}
use Rattle.policy_core.specs.declared.verdict.Verdict.{Verdict}
use Rattle.term_log.specs.Log.{greatest_message}
use Rattle.term_log.specs.Whole.{is_connected}

-- ---- answers that are not want of memory

abbrev pub IsTold : Answer → Type 0
IsTold NoMemory = ⊥
IsTold (Attached number messages) = Unit {0}
IsTold (Full messages) = Unit {0}
IsTold (Stopped messages) = Unit {0}
IsTold (PolicyInForce epoch messages) = Unit {0}
IsTold (PolicyFull messages) = Unit {0}
IsTold (Imaged number messages) = Unit {0}
IsTold (Unimaged why messages) = Unit {0}
IsTold (Received words) = Unit {0}
IsTold Heard = Unit {0}
IsTold (Limited position) = Unit {0}
IsTold Elicited = Unit {0}
IsTold Idle = Unit {0}
IsTold (SentTo bytes outlets) = Unit {0}
IsTold (Resent to datagrams) = Unit {0}
IsTold (Reported to datagrams) = Unit {0}
IsTold (Dropped fault) = Unit {0}
IsTold (Replies messages) = Unit {0}
IsTold (OfferedAs offered) = Unit {0}
IsTold (Polled fragments) = Unit {0}
IsTold IsGone = Unit {0}
IsTold (Counters rows) = Unit {0}
IsTold (ValueIs number) = Unit {0}
IsTold (Denied verdict) = Unit {0}
IsTold UnknownCounter = Unit {0}
IsTold WrongClient = Unit {0}
IsTold BadStep = Unit {0}

-- a step that is told such an answer tells what was decided
pub told_unless : (answer : Answer) (decision : Option Decision) → IsTold answer → decided_unless answer decision ≡ decision
told_unless NoMemory decision is_told = absurd is_told
told_unless (Attached number messages) decision is_told = refl
told_unless (Full messages) decision is_told = refl
told_unless (Stopped messages) decision is_told = refl
told_unless (PolicyInForce epoch messages) decision is_told = refl
told_unless (PolicyFull messages) decision is_told = refl
told_unless (Imaged number messages) decision is_told = refl
told_unless (Unimaged why messages) decision is_told = refl
told_unless (Received words) decision is_told = refl
told_unless Heard decision is_told = refl
told_unless (Limited position) decision is_told = refl
told_unless Elicited decision is_told = refl
told_unless Idle decision is_told = refl
told_unless (SentTo bytes outlets) decision is_told = refl
told_unless (Resent to datagrams) decision is_told = refl
told_unless (Reported to datagrams) decision is_told = refl
told_unless (Dropped fault) decision is_told = refl
told_unless (Replies messages) decision is_told = refl
told_unless (OfferedAs offered) decision is_told = refl
told_unless (Polled fragments) decision is_told = refl
told_unless IsGone decision is_told = refl
told_unless (Counters rows) decision is_told = refl
told_unless (ValueIs number) decision is_told = refl
told_unless (Denied verdict) decision is_told = refl
told_unless UnknownCounter decision is_told = refl
told_unless WrongClient decision is_told = refl
told_unless BadStep decision is_told = refl

-- such an answer leaves what is left
told : (e : RunEnd) (what : Moved) (answer : Answer) → IsTold answer → answer ≡ what.answer →
    IsAnswerOf what answer × (after_by e what answer ≡ what.after)
told e what NoMemory is_told is = absurd is_told
told e what (Attached number messages) is_told is = (is, refl)
told e what (Full messages) is_told is = (is, refl)
told e what (Stopped messages) is_told is = (is, refl)
told e what (PolicyInForce epoch messages) is_told is = (is, refl)
told e what (PolicyFull messages) is_told is = (is, refl)
told e what (Imaged number messages) is_told is = (is, refl)
told e what (Unimaged why messages) is_told is = (is, refl)
told e what (Received words) is_told is = (is, refl)
told e what Heard is_told is = (is, refl)
told e what (Limited position) is_told is = (is, refl)
told e what Elicited is_told is = (is, refl)
told e what Idle is_told is = (is, refl)
told e what (SentTo bytes outlets) is_told is = (is, refl)
told e what (Resent to datagrams) is_told is = (is, refl)
told e what (Reported to datagrams) is_told is = (is, refl)
told e what (Dropped fault) is_told is = (is, refl)
told e what (Replies messages) is_told is = (is, refl)
told e what (OfferedAs offered) is_told is = (is, refl)
told e what (Polled fragments) is_told is = (is, refl)
told e what IsGone is_told is = (is, refl)
told e what (Counters rows) is_told is = (is, refl)
told e what (ValueIs number) is_told is = (is, refl)
told e what (Denied verdict) is_told is = (is, refl)
told e what UnknownCounter is_told is = (is, refl)
told e what WrongClient is_told is = (is, refl)
told e what BadStep is_told is = (is, refl)

-- such an answer asks for no memory
told_has : (takes : Bool) (answer : Answer) → IsTold answer → HasMemoryBy takes answer
told_has takes NoMemory is_told = absurd is_told
told_has takes (Attached number messages) is_told = tt
told_has takes (Full messages) is_told = tt
told_has takes (Stopped messages) is_told = tt
told_has takes (PolicyInForce epoch messages) is_told = tt
told_has takes (PolicyFull messages) is_told = tt
told_has takes (Imaged number messages) is_told = tt
told_has takes (Unimaged why messages) is_told = tt
told_has takes (Received words) is_told = tt
told_has takes Heard is_told = tt
told_has takes (Limited position) is_told = tt
told_has takes Elicited is_told = tt
told_has takes Idle is_told = tt
told_has takes (SentTo bytes outlets) is_told = tt
told_has takes (Resent to datagrams) is_told = tt
told_has takes (Reported to datagrams) is_told = tt
told_has takes (Dropped fault) is_told = tt
told_has takes (Replies messages) is_told = tt
told_has takes (OfferedAs offered) is_told = tt
told_has takes (Polled fragments) is_told = tt
told_has takes IsGone is_told = tt
told_has takes (Counters rows) is_told = tt
told_has takes (ValueIs number) is_told = tt
told_has takes (Denied verdict) is_told = tt
told_has takes UnknownCounter is_told = tt
told_has takes WrongClient is_told = tt
told_has takes BadStep is_told = tt

-- what such an answer says, for each end that the world stands for
record DoesAs (new : Held) (what : Moved) (answer : Answer) : Type 0 where
  is_told : IsTold answer
  given : answer ≡ what.answer
  stands : StandsForEnd new what.after

served_as : (old new : Held) (what : RunEnd → Moved) (answer : Answer) →
    ((e : RunEnd) → StandsForEnd old e → DoesAs new (what e) answer) → ServesAs old new what answer
served_as old new what answer does =
    record {
      on = λ e stands.
          let done = does e stands in
          let told' = told e (what e) answer done.is_told done.given in
          (told'.0, rw told'.1 done.stands);
      without_memory = λ e stands. told_has (is_listed (what e).answer) answer (does e stands).is_told;
    }

-- ---- a step on one log

told_cond : (b : Bool) (one other : Move) → IsTold one.answer → IsTold other.answer → IsTold (if b then one else other).answer
told_cond true one other is_told others = is_told
told_cond false one other is_told others = others

offers_told : (now timeout : ℕ) (verdict : Verdict) (message : List ℕ) (log : WholeLog) (w : AnyWhole) →
    IsTold (offer_to now timeout verdict message log w).answer
offers_told now timeout verdict message log (whole kept) =
    told_cond (not verdict.allow) _ _ tt
    (told_cond (nat_lt (greatest_message kept.ident) (length message)) _ _ tt
    (told_cond (not (is_connected kept now timeout)) _ _ tt tt))
offers_told now timeout verdict message log (rebuilt kept) = tt

pub offer_told : (s : State) (now : ℕ) (message : List ℕ) (log : WholeLog) (request : Option LogRequest) →
    IsTold (offer_under s.settings.connection_timeout request now message log).answer
offer_told s now message log None = tt
offer_told s now message log (Some request) =
    told_cond (not (request.source == log.source)) _ _ tt
    (offers_told now s.settings.connection_timeout request.decision.verdict message log log.whole)

pub poll_told : (subscription limit : ℕ) (log : WholeLog) (request : Option LogRequest) (position : Option ℕ) →
    IsTold (poll_under subscription limit log request position).answer
poll_told subscription limit log None position = tt
poll_told subscription limit log (Some request) None = tt
poll_told subscription limit log (Some request) (Some position) = told_cond (not request.decision.verdict.allow) _ _ tt tt

moved_told : (e : RunEnd) (source : ℕ) (move : WholeLog → Move) (absent : Answer) (there : Option WholeLog) →
    IsTold absent → ((log : WholeLog) → IsTold (move log).answer) →
    IsTold (moved_on e source move absent there).answer
moved_told e source move absent None none some = none
moved_told e source move absent (Some log) none some = some log

-- the answer of a move of the first log of a source is one
pub first_told : (e : RunEnd) (old new : HeldLogs) (source : ℕ) (move : WholeLog → Move) (absent answer : Answer) → IsTold absent →
    ((log : WholeLog) → IsTold (move log).answer) → StandAll old.logs e.logs → MovesFirst source move absent old new answer →
    IsTold answer
first_told e old new source move absent answer none some all moves =
    rw (moves_first e source move absent answer old new all moves).0
    (moved_told e source move absent (log_at e.logs source) none some)

-- who is asked of the log of that source asks something of it
pub sourced : (asked : Option LogRequest) (source : ℕ) → option_map (λ request. request.source) asked ≡ Some source →
    (request : LogRequest) × (asked ≡ Some request) × (request.source ≡ source)
sourced None source is = absurd (cc)
sourced (Some request) source is = (request, refl, cc)

-- ---- what goes to the first log of a source, which the registry names

-- for each end of that registry the step moves that log
abbrev GoesTo : State → (RunEnd → Moved) → ℕ → (WholeLog → Move) → Answer → Type 0
GoesTo registry what source move absent = (e : RunEnd) → registry ≡ e.registry → what e ≡ on_log e source move absent

pub first_served : (registry : State) (old new : HeldLogs) (what : RunEnd → Moved) (source : ℕ) (move : WholeLog → Move)
    (absent answer : Answer) → GoesTo registry what source move absent → IsTold absent →
    ((log : WholeLog) → IsTold (move log).answer) → MovesFirst source move absent old new answer →
    ServesAs (record { registry = registry; logs = old.logs }) (record { registry = registry; logs = new.logs }) what answer
unfolding on_log
first_served registry old new what source move absent answer goes none some moves =
    served_as (record { registry = registry; logs = old.logs }) (record { registry = registry; logs = new.logs }) what answer
    (λ e stands.
    let made = moves_first e source move absent answer old new stands.logs moves in
    let is_told : IsTold answer = rw made.0 (moved_told e source move absent (log_at e.logs source) none some) in
    rw (goes e stands.registry)
    (record { is_told = is_told; given = made.0; stands = record { registry = rw made.2 stands.registry; logs = made.1 } }))

pub first_refused : (registry : State) (old new : HeldLogs) (what : RunEnd → Moved) (source : ℕ) (move : WholeLog → Move)
    (absent : Answer) → GoesTo registry what source move absent → new ≡ old → GivesFirst source move old →
    ServesAs (record { registry = registry; logs = old.logs }) (record { registry = registry; logs = new.logs }) what NoMemory
unfolding on_log
first_refused registry old new what source move absent goes same gives = record {
  on = λ e stands. (tt, rw same stands);
  without_memory = λ e stands. rw (goes e stands.registry) (gives_first e source move absent old.logs stands.logs gives);
}

pub heard_told : (heard : Option StatusAnswer) → IsTold (answer_heard heard)
heard_told None = tt
heard_told (Some statuses.Elicited) = tt
heard_told (Some (statuses.Limit position)) = tt
heard_told (Some statuses.OutOfWindow) = tt

pub asked_told : (from : Address) (reply : Option NakReply) → IsTold (answer_asked from reply)
asked_told from None = tt
asked_told from (Some (replies.Denied verdict)) = tt
asked_told from (Some replies.Empty) = tt
asked_told from (Some replies.OutOfWindow) = tt
asked_told from (Some replies.Lingering) = tt
asked_told from (Some replies.Busy) = tt
asked_told from (Some (replies.Resent datagrams)) = tt

pub reported_told : (to : Address) (report : Option (List (List ℕ))) → IsTold (answer_reported to report)
reported_told to None = tt
reported_told to (Some datagrams) = tt

pub image_told : (s : State) (now : ℕ) (log : WholeLog) (to : Option Address) → IsTold (report_by s now log to).answer
image_told s now log None = tt
image_told s now log (Some to) = reported_told to (report_of now s.settings.receiver_id log.recovery.receiver log.whole)

pub sent_told : (outlets : List Outlet) (turn : Option (Option (List ℕ))) → IsTold (answer_sent outlets turn)
sent_told outlets None = tt
sent_told outlets (Some None) = tt
sent_told outlets (Some (Some bytes)) = tt

pub send_told : (s : State) (now : ℕ) (log : WholeLog) (lingers : Option Bool) → IsTold (send_by s now log lingers).answer
send_told s now log None = tt
send_told s now log (Some lingers) = sent_told (outlets_of s (standing_of s.settings now log) log.source) (turn_of (pace_of s.settings) now lingers log.whole)
