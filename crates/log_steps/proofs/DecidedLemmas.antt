-- What is decided for a step on one log, and at the end of a run.
use Rattle.std.proofs.Common.{◌≡◌, ℕ, ◌==◌, true, false, Option, Some, None, refl, sym}
use Rattle.log_traffic.specs.Held.{position_held}
use Rattle.log_traffic.proofs.AnyLemmas.{position_stands}
use Rattle.log_traffic.specs.Whole.{position_in}
use Rattle.driver_core.specs.declared.asked.log_request.LogRequest.{LogRequest}
use Rattle.driver_core.specs.LogRequests.{receiving_of}
use Rattle.driver_core.specs.State.{State}
use Rattle.log_steps.specs.Decided.{Decides, decision_on, offer_decision_by, poll_decision, poll_decision_by}
use Rattle.log_steps.specs.Held.{HeldLog}
use Rattle.policy_core.specs.declared.decision.Decision.{Decision}

-- ---- an offer

offer_decides : (request : Option LogRequest) (held : HeldLog) (decision : Option Decision) → decision ≡ decision_on held.source request →
    Decides (offer_decision_by request) held decision
offer_decides request held decision is = record { on = λ log stands. rw (← stands.source_is) is }

-- the client has no such registration
pub unregistered_decides : (held : HeldLog) → Decides (offer_decision_by None) held None
unregistered_decides held = offer_decides None held None refl

-- it is with another log
pub elsewhere_decides : (held : HeldLog) (request : LogRequest) → (request.source == held.source) ≡ false →
    Decides (offer_decision_by (Some request)) held None
elsewhere_decides held request other = offer_decides (Some request) held None (rw other refl)

pub own_decides : (held : HeldLog) (request : LogRequest) → (request.source == held.source) ≡ true →
    Decides (offer_decision_by (Some request)) held (Some request.decision)
own_decides held request own = offer_decides (Some request) held (Some request.decision) (rw own refl)

-- ---- a poll

poll_decides : (s : State) (client subscription : ℕ) (held : HeldLog) (decision : Option Decision) →
    decision ≡ poll_decision_by (receiving_of s client subscription held.source) (position_held held.log subscription) →
    Decides (poll_decision s client subscription) held decision
unfolding poll_decision
poll_decides s client subscription held decision is = record {
  on = λ log stands.
      let place : position_in log.whole subscription ≡ position_held held.log subscription =
      sym (position_stands held.log log.whole subscription stands.whole) in
      rw (← stands.source_is, place) is;
}

pub unread_decides : (s : State) (client subscription : ℕ) (held : HeldLog) → receiving_of s client subscription held.source ≡ None →
    Decides (poll_decision s client subscription) held None
unread_decides s client subscription held none = poll_decides s client subscription held None (rw none refl)

pub placeless_decides : (s : State) (client subscription : ℕ) (held : HeldLog) (request : LogRequest) →
    receiving_of s client subscription held.source ≡ Some request → position_held held.log subscription ≡ None →
    Decides (poll_decision s client subscription) held None
placeless_decides s client subscription held request asked none =
    poll_decides s client subscription held None (rw (asked, none) refl)

pub read_decides : (s : State) (client subscription : ℕ) (held : HeldLog) (request : LogRequest) (position : ℕ) →
    receiving_of s client subscription held.source ≡ Some request → position_held held.log subscription ≡ Some position →
    Decides (poll_decision s client subscription) held (Some request.decision)
read_decides s client subscription held request position asked there =
    poll_decides s client subscription held (Some request.decision) (rw (asked, there) refl)
