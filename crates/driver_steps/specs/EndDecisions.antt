-- What the policy decides for a step at the end of a run, where it comes to that. Own rules.
use Rattle.std.specs.Prelude.{◌≡◌, ℕ, List, [], Option, Some, None}
use Rattle.channel_uri.specs.declared.address.Address.{Address}
use Rattle.driver_core.specs.declared.asked.log_request.LogRequest.{LogRequest}
use Rattle.driver_core.specs.declared.asked.publication_request.JoinRequest.{JoinRequest}
use Rattle.driver_core.specs.LeftOut.{left_out}
use Rattle.driver_core.specs.LogRequests.{offering_of}
use Rattle.driver_core.specs.PublicationRequests.{joining_of, resending_of}
use Rattle.driver_core.specs.State.{State}
use Rattle.log_steps.specs.declared.answer.Answer.{Answer}
use Rattle.log_steps.specs.declared.answer.Answer.TheVariants.{NoMemory}
use Rattle.driver_steps.specs.Ends.{RunEnd, log_at}
use Rattle.log_steps.specs.Moves.{WholeLog}
use Rattle.driver_steps.specs.Standing.{Held, StandsForEnd}
use Rattle.frame_codec.specs.declared.nak.Nak.{Nak}
use Rattle.frame_codec.specs.declared.status_message.StatusMessage.{StatusMessage}
use Rattle.policy_core.specs.declared.decision.Decision.{Decision}
use Rattle.log_steps.specs.Decided.{offer_decision, poll_decision}

-- ---- at the end of a run

abbrev pub decision_in : Option WholeLog → (WholeLog → Option Decision) → Option Decision
decision_in None decide = None
decision_in (Some log) decide = decide log

-- an offer, of the log that the client's registration is with, where it is open
abbrev pub offered_decision : RunEnd → ℕ → ℕ → Option LogRequest → Option Decision
offered_decision e client registration None = None
offered_decision e client registration (Some request) =
    decision_in (log_at e.logs request.source) (offer_decision e.registry client registration)

abbrev pub offer_decided : RunEnd → ℕ → ℕ → Option Decision
offer_decided e client registration = offered_decision e client registration (offering_of e.registry client registration)

-- a poll, of the log of that source, where it is open
abbrev pub poll_decided : RunEnd → ℕ → ℕ → ℕ → Option Decision
poll_decided e client subscription source =
    decision_in (log_at e.logs source) (poll_decision e.registry client subscription)

-- a NAK, of the log of its session and stream, where it is open
abbrev pub asked_decision : RunEnd → Option LogRequest → Option Decision
asked_decision e None = None
asked_decision e (Some request) = decision_in (log_at e.logs request.source) (λ log. Some request.decision)

abbrev pub nak_decided : RunEnd → Address → Nak → Option Decision
nak_decided e from fields = asked_decision e (resending_of e.registry from fields.session_id fields.stream_id)

-- a status message, of the log of its session and stream, where it is open and learns its destinations
abbrev pub told_decision : RunEnd → Option JoinRequest → Option Decision
told_decision e None = None
told_decision e (Some request) = decision_in (log_at e.logs request.source) (λ log. request.decision)

abbrev pub status_decided : RunEnd → Address → StatusMessage → Option Decision
status_decided e from fields = told_decision e (joining_of e.registry from fields.session_id fields.stream_id)

-- the driver, as if that registry were the newest one
abbrev pub under : Held → State → Held
under held s = record held { registry = s }

-- that is reported of a step, for each end that the driver stands for
pub record DecidesAs (held : Held) (what : RunEnd → Option Decision) (decision : Option Decision) : Type 0 where
  pub on : (e : RunEnd) → StandsForEnd held e → decision ≡ what e

-- a step that is refused memory reports no decision
abbrev pub decided_unless : Answer → Option Decision → Option Decision
decided_unless NoMemory decision = None
decided_unless answer decision = decision

pub record DecidesUnless (held : Held) (what : RunEnd → Option Decision) (answer : Answer) (decision : Option Decision) : Type 0 where
  pub on : (e : RunEnd) → StandsForEnd held e → decision ≡ decided_unless answer (what e)

-- a look at all counters: by what it leaves out the others
abbrev pub denials_unless : Answer → List Decision → List Decision
denials_unless NoMemory denials = []
denials_unless answer denials = denials

abbrev pub LeavesOut : State → ℕ → Answer → List Decision → Type 0
LeavesOut s client answer denials = denials ≡ denials_unless answer (left_out s client)
