-- Over every list of events: each decision that is reported to those who audit is by the policy in force.
use Rattle.std.specs.Prelude.{◌≡◌, ℕ, List, Contains, Some, ◌⊎◌}
use Rattle.std.specs.List.{AllByRecursion}
use Rattle.driver_core.specs.Change.{Change}
use Rattle.driver_core.specs.declared.state.event.Event.{Event}
use Rattle.driver_core.specs.declared.state.event.Event.TheVariants.{Command}
use Rattle.driver_core.specs.declared.state.event.Inputs.{Inputs}
use Rattle.driver_core.specs.Conduct.{coming_to, conduct}
use Rattle.driver_core.specs.Renewal.{image_decision}
use Rattle.driver_core.specs.State.{State}
use Rattle.driver_core.specs.Verdicts.{IsByPolicy}
use Rattle.driver_laws.specs.Acts.{IsListed, image_question}
use Rattle.driver_laws.specs.Events.{AfterAnyEvents}
use Rattle.driver_laws.specs.GrantLaws.{decided_on}
use Rattle.client_registry.specs.Clients.{principal_at}
use Rattle.policy_core.specs.declared.decision.Decision.{Decision}
use Rattle.policy_core.specs.Question.{Question}
use Rattle.stream_registry.specs.declared.pairs.Pair.{Pair}
use Rattle.stream_registry.specs.declared.row.Subscription.{Subscription}

-- the event is a request of which the policy is asked that question, and the decision is the policy's on it
pub record IsOnRequest (s : State) (event : Event) (decision : Decision) : Type 0 where
  pub moment : ℕ
  pub handle : ℕ
  pub bytes : List ℕ
  pub correlation : ℕ
  pub question : Question
  pub event_is : event ≡ Command moment handle bytes
  pub asks : IsListed s handle bytes correlation question
  pub decision_is : decision ≡ decided_on s question
  pub by : IsByPolicy s question decision.verdict

-- the event takes away or brings a pair of a subscription that stands after it, and the decision is that of the policy in
-- force by then on the image for the subscription's client
pub record IsOnPair (change : Change) (decision : Decision) : Type 0 where
  pub pair : Pair
  pub subscription : Subscription
  pub principal : ℕ
  pub turns : Contains change.outcome.gone pair ⊎ Contains change.outcome.come pair
  pub number_is : subscription.number ≡ pair.subscription
  pub stands : Contains change.after.streams.subscriptions subscription
  pub attached : principal_at change.after.clients.rows subscription.client ≡ Some principal
  pub decision_is : decision ≡ image_decision change.after subscription principal
  pub by : IsByPolicy change.after (image_question principal subscription) decision.verdict

abbrev pub IsInForce : State → Event → Change → Decision → Type 0
IsInForce s event change decision = IsOnRequest s event decision ⊎ IsOnPair change decision

abbrev pub DecisionsAreByThePolicyInForce : Type 0
DecisionsAreByThePolicyInForce =
    AfterAnyEvents (λ s. (event : Event) (inputs : Inputs) →
    AllByRecursion (IsInForce (coming_to s event) event (conduct s event inputs)) (conduct s event inputs).outcome.decisions)
