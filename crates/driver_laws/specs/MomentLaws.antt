-- Over every list of events: what moments do.
use Rattle.std.specs.Prelude.{◌≡◌, ℕ, ◌≤◌, max, true, false, List, Contains, Some, length}
use Rattle.driver_core.specs.Change.{Change}
use Rattle.driver_core.specs.declared.state.event.Event.{Event}
use Rattle.driver_core.specs.declared.state.event.Event.TheVariants.{Tick}
use Rattle.driver_core.specs.declared.state.event.Inputs.{Inputs}
use Rattle.driver_core.specs.declared.state.outcome.Response.TheVariants.{Nothing}
use Rattle.driver_core.specs.Conduct.{coming_to, moment_told, outcome_of, state_after}
use Rattle.driver_core.specs.Looking.{IsAtItsMoment}
use Rattle.driver_core.specs.Pairs.{pairs_of, prospects_of}
use Rattle.driver_core.specs.State.{State, ruled}
use Rattle.driver_core.specs.Verdicts.{verdict_on}
use Rattle.driver_laws.specs.Acts.{image_question}
use Rattle.driver_laws.specs.Events.{AfterAnyEvents}
use Rattle.driver_laws.specs.ImageLaws.{IsReadBy}
use Rattle.driver_laws.specs.Turning.{TurnsTo}
use Rattle.client_registry.specs.Clients.{principal_at}
use Rattle.policy_core.specs.MomentLaws.{IsEverAllowed, is_before}
use Rattle.policy_core.specs.Moments.{steady_until}
use Rattle.stream_registry.specs.declared.pairs.Pair.{Pair}
use Rattle.stream_registry.specs.declared.row.LogRow.{LogRow}
use Rattle.stream_registry.specs.declared.row.Subscription.{Subscription}
use Rattle.stream_registry.specs.Pairs.{fits, pair_of}

-- ---- which policy it is

-- the policy of every registry is what the one in force is at the greatest moment of its events, and it knows what that becomes later
abbrev pub PoliciesStandAtTheirMoment : Type 0
PoliciesStandAtTheirMoment = AfterAnyEvents IsAtItsMoment

-- so an event before the next bound of a rule comes to the registry as it is: what laws say of the registry to which an event comes
-- they say of the one before it
abbrev pub StaysBetweenBounds : State → Type 0
StaysBetweenBounds s =
    (event : Event) → is_before (max s.moment (moment_told event)) (steady_until s.given s.moment) ≡ true →
    coming_to s event ≡ s

abbrev pub RegistriesStayBetweenBounds : Type 0
RegistriesStayBetweenBounds = AfterAnyEvents StaysBetweenBounds

-- ---- what it takes and gives

-- whoever has the subscription, the policy refuses its image
abbrev pub RefusesImage : State → Subscription → Type 0
RefusesImage s subscription =
    (principal : ℕ) → principal_at s.clients.rows subscription.client ≡ Some principal →
    (verdict_on s (image_question principal subscription)).allow ≡ false

-- the pair is of a log and a subscription that reads it by the one registry, and which the policy of the other refuses the image
pub record IsTaken (from to : State) (pair : Pair) : Type 0 where
  pub log : LogRow
  pub subscription : Subscription
  pub pair_is : pair ≡ pair_of log subscription
  pub reads : IsReadBy from log subscription
  pub refused : RefusesImage to subscription

-- exactly these
pub record AreTaken (from to : State) (pairs : List Pair) : Type 0 where
  pub only : (pair : Pair) → Contains pairs pair → IsTaken from to pair
  pub exactly :
      (log : LogRow) (subscription : Subscription) → IsReadBy from log subscription → RefusesImage to subscription →
      Contains pairs (pair_of log subscription)

-- Whatever the event is, beside what its own rule does to lists: the pairs go that the policy of before allowed and that of the
-- moment refuses, and those come that it allows and that of before refused. The policy's number is the same.
pub record TakesAndGives (before s : State) (change : Change) : Type 0 where
  pub gone : AreTaken before s change.outcome.gone
  pub come : AreTaken s before change.outcome.come
  pub epoch : s.epoch ≡ before.epoch

abbrev pub MomentsTakeAndGiveExactly : Type 0
MomentsTakeAndGiveExactly =
    AfterAnyEvents (λ s.
    (event : Event) (change : Change) → TurnsTo s (coming_to s event) change → TakesAndGives s (coming_to s event) change)

-- ---- what is counted before it comes

-- a live log and a subscription that fit, where the policy in force allows the image to the subscription's client at the registry's
-- moment, or at a later one
pub record IsEverReadBy (s : State) (log : LogRow) (subscription : Subscription) : Type 0 where
  pub principal : ℕ
  pub is_live : Contains s.streams.sources log
  pub stands : Contains s.streams.subscriptions subscription
  pub fitting : fits log subscription ≡ true
  pub attached : principal_at s.clients.rows subscription.client ≡ Some principal
  pub allowed : IsEverAllowed s.given s.moment (image_question principal subscription)

-- a pair is of such a log and such a subscription
pub record IsOfProspect (s : State) (pair : Pair) : Type 0 where
  pub log : LogRow
  pub subscription : Subscription
  pub pair_is : pair ≡ pair_of log subscription
  pub reads : IsEverReadBy s log subscription

-- exactly these are counted where the limit of pairs is looked at
pub record CountsWhatIsEverAllowed (s : State) : Type 0 where
  pub only : (pair : Pair) → Contains (prospects_of s) pair → IsOfProspect s pair
  pub exactly :
      (log : LogRow) (subscription : Subscription) → IsEverReadBy s log subscription →
      Contains (prospects_of s) (pair_of log subscription)

abbrev pub LimitsCountWhatIsEverAllowed : Type 0
LimitsCountWhatIsEverAllowed = AfterAnyEvents CountsWhatIsEverAllowed

-- ---- what it never does

-- a tick is answered nothing, and however many pairs the moment brings, they are within the limit, as are those of later moments
pub record IsNeverFull (s : State) (now : ℕ) (inputs : Inputs) : Type 0 where
  pub response : (outcome_of s (Tick now) inputs).response ≡ Nothing
  pub pairs : length (pairs_of (state_after s (Tick now) inputs)) ≤ 4096
  pub brought : length (pairs_of (ruled s now)) ≤ 4096
  pub later : length (prospects_of (ruled s now)) ≤ 4096

abbrev pub TicksAreNeverFull : Type 0
TicksAreNeverFull = AfterAnyEvents (λ s. (now : ℕ) (inputs : Inputs) → IsNeverFull s now inputs)
