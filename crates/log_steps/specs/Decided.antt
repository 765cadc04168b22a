-- What the policy decides for a step on one log, where it comes to that. Own rules.
use Rattle.std.specs.Prelude.{◌≡◌, ℕ, ◌==◌, Option, Some, None, if◌then◌else◌}
use Rattle.driver_core.specs.declared.asked.log_request.LogRequest.{LogRequest}
use Rattle.driver_core.specs.declared.asked.listing.Shown.{Shown}
use Rattle.driver_core.specs.declared.asked.listing.Shown.TheVariants as shown
use Rattle.driver_core.specs.LogRequests.{offering_of, receiving_of}
use Rattle.driver_core.specs.State.{State}
use Rattle.log_steps.specs.Held.{HeldLog}
use Rattle.log_steps.specs.Moves.{WholeLog, StandsForLog}
use Rattle.log_traffic.specs.Whole.{position_in}
use Rattle.policy_core.specs.declared.decision.Decision.{Decision}

-- ---- on one log

-- what is asked is asked of the log of that source
abbrev pub decision_on : ℕ → Option LogRequest → Option Decision
decision_on source None = None
decision_on source (Some request) = if request.source == source then Some request.decision else None

-- an offer is decided where the client's registration is with the log
abbrev pub offer_decision_by : Option LogRequest → WholeLog → Option Decision
offer_decision_by request log = decision_on log.source request

unfoldable pub offer_decision : State → ℕ → ℕ → WholeLog → Option Decision
offer_decision s client registration = offer_decision_by (offering_of s client registration)

abbrev pub poll_decision_by : Option LogRequest → Option ℕ → Option Decision
poll_decision_by None position = None
poll_decision_by (Some request) None = None
poll_decision_by (Some request) (Some position) = Some request.decision

-- a poll is decided where the client's subscription reads the log, and has a position in it
unfoldable pub poll_decision : State → ℕ → ℕ → WholeLog → Option Decision
poll_decision s client subscription log =
    poll_decision_by (receiving_of s client subscription log.source) (position_in log.whole subscription)

-- a step that is for the log of a source: with another one nothing is decided
abbrev pub decision_for : ℕ → (WholeLog → Option Decision) → WholeLog → Option Decision
decision_for source decide log = if log.source == source then decide log else None

-- that is decided for whichever whole log is held
pub record Decides (decide : WholeLog → Option Decision) (held : HeldLog) (decision : Option Decision) : Type 0 where
  pub on : (log : WholeLog) → StandsForLog held log → decision ≡ decide log

-- ---- at the end of a run

-- a look at one counter, where it is not shown
abbrev pub shown_decision : Shown → Option Decision
shown_decision (shown.Denied decision) = Some decision
shown_decision answer = None
