-- Over every list of events: which counters go, and what sets their values.
use Rattle.std.specs.Prelude.{◌≡◌, ℕ, true, false, List, [], ◌∷◌, ◌++◌, Contains, ◌⊎◌}
use Rattle.driver_core.specs.Change.{Change}
use Rattle.driver_core.specs.declared.state.event.Event.{Event}
use Rattle.driver_core.specs.declared.state.event.Event.TheVariants.{Command}
use Rattle.driver_core.specs.declared.state.event.Inputs.{Inputs}
use Rattle.driver_core.specs.declared.state.refusal.Refusal.TheVariants.{UnknownCounter}
use Rattle.driver_core.specs.declared.state.replies.Reply.TheVariants.{OperationSuccess, UnavailableCounter}
use Rattle.driver_core.specs.Commands.{heard}
use Rattle.driver_core.specs.Conduct.{coming_to, conduct, state_after}
use Rattle.driver_core.specs.Renewal.{images_decided, images_told}
use Rattle.driver_core.specs.Requests.{Asks}
use Rattle.driver_core.specs.State.{State, at_moment, ruled}
use Rattle.driver_core.specs.Unread.{without_unread}
use Rattle.driver_laws.specs.Events.{AfterAnyEvents}
use Rattle.driver_laws.specs.Turning.{TurnsTo}
use Rattle.driver_laws.specs.GrantLaws.{IsCounterMadeBy, StoodBefore}
use Rattle.driver_laws.specs.LeavingLaws.{IsGoneBy}
use Rattle.driver_laws.specs.RemovalLaws.{IsAskedBy, IsUnknown}
use Rattle.client_registry.specs.declared.client.Client.{Client}
use Rattle.command_codec.specs.declared.command.Body.TheVariants.{RemoveCounter as RemovesCounter, SetCounter as Sets}
use Rattle.command_codec.specs.declared.removal.Removal.{Removal}
use Rattle.command_codec.specs.declared.set_counter.SetCounter.{SetCounter}
use Rattle.counters.specs.declared.counter.Counter.{Counter}
use Rattle.counters.specs.Counters.{has, set, without}

-- ---- removed exactly

-- the client's counter of that number goes
abbrev pub uncounted_from : State → ℕ → ℕ → ℕ → State
uncounted_from s now handle number =
    record (heard (at_moment s now) handle) { counters = without s.counters handle number }

-- and it is answered so; all else stays but for the moments, and what the moment takes and brings
pub record IsUncounted (before s : State) (now handle correlation number : ℕ) (inputs : Inputs) (change : Change) : Type 0 where
  pub after_is : change.after ≡ without_unread (uncounted_from s now handle number)
  pub turns : TurnsTo before s change
  pub told :
      change.outcome.replies
      ≡ record { client = handle; reply = OperationSuccess correlation }
      ∷ (images_told (uncounted_from s now handle number) inputs change.outcome.gone change.outcome.come
      ++ record { client = handle; reply = UnavailableCounter number } ∷ [])
  pub decided :
      change.outcome.decisions
      ≡ images_decided (uncounted_from s now handle number) change.outcome.gone change.outcome.come

pub record IsUncountedExactly (before s : State) (now handle correlation number : ℕ) (inputs : Inputs) (change : Change) : Type 0 where
  pub known : has s.counters handle number ≡ true → IsUncounted before s now handle correlation number inputs change
  pub unknown : has s.counters handle number ≡ false → IsUnknown before s now handle correlation inputs UnknownCounter change

abbrev pub CountersAreRemovedExactly : Type 0
CountersAreRemovedExactly =
    AfterAnyEvents (λ s.
    (now handle correlation : ℕ) (bytes : List ℕ) (inputs : Inputs) (client : Client) (fields : Removal) →
    Asks s handle bytes client correlation (RemovesCounter fields) →
    IsUncountedExactly s (ruled s now) now handle correlation fields.registration inputs (
    conduct s (Command now handle bytes) inputs))

-- ---- removed only

-- the counter is there, whatever its value is now
pub record IsStillThere (after : State) (counter : Counter) : Type 0 where
  pub now : Counter
  pub stands : Contains after.counters now
  pub same : now ≡ record counter { value = now.value }

abbrev pub CountersAreRemovedOnly : Type 0
CountersAreRemovedOnly =
    AfterAnyEvents (λ s.
    (event : Event) (inputs : Inputs) (counter : Counter) → Contains s.counters counter →
    IsStillThere (state_after s event inputs) counter
    ⊎ (IsAskedBy (coming_to s event) event counter.client (RemovesCounter (record { registration = counter.number }))
    ⊎ IsGoneBy (coming_to s event) event counter.client))

-- ---- set exactly

-- the client's counter of that number has that value
abbrev pub set_in : State → ℕ → ℕ → SetCounter → State
set_in s now handle fields =
    record (heard (at_moment s now) handle) { counters = set s.counters handle fields.registration fields.value }

-- and it is answered so; all else stays but for the moments, and what the moment takes and brings
pub record IsSet (before s : State) (now handle correlation : ℕ) (inputs : Inputs) (fields : SetCounter) (change : Change) : Type 0 where
  pub after_is : change.after ≡ without_unread (set_in s now handle fields)
  pub turns : TurnsTo before s change
  pub told :
      change.outcome.replies
      ≡ record { client = handle; reply = OperationSuccess correlation }
      ∷ images_told (set_in s now handle fields) inputs change.outcome.gone change.outcome.come
  pub decided :
      change.outcome.decisions ≡ images_decided (set_in s now handle fields) change.outcome.gone change.outcome.come

pub record IsSetExactly (before s : State) (now handle correlation : ℕ) (inputs : Inputs) (fields : SetCounter) (change : Change) : Type 0 where
  pub known :
      has s.counters handle fields.registration ≡ true → IsSet before s now handle correlation inputs fields change
  pub unknown :
      has s.counters handle fields.registration ≡ false →
      IsUnknown before s now handle correlation inputs UnknownCounter change

abbrev pub CountersAreSetExactly : Type 0
CountersAreSetExactly =
    AfterAnyEvents (λ s.
    (now handle correlation : ℕ) (bytes : List ℕ) (inputs : Inputs) (client : Client) (fields : SetCounter) →
    Asks s handle bytes client correlation (Sets fields) →
    IsSetExactly s (ruled s now) now handle correlation inputs fields (conduct s (Command now handle bytes) inputs))

-- ---- set only

-- the counter was there, and its own client asks that it have this value
pub record IsSetBy (s : State) (event : Event) (counter : Counter) : Type 0 where
  pub stood : StoodBefore s counter
  pub asked :
      IsAskedBy s event counter.client (Sets (record { registration = counter.number; value = counter.value }))

-- a counter has the value that it had, or the one to which its own client sets it, or it is new
abbrev pub CountersAreSetOnly : Type 0
CountersAreSetOnly =
    AfterAnyEvents (λ s.
    (event : Event) (inputs : Inputs) (counter : Counter) → Contains (state_after s event inputs).counters counter →
    Contains s.counters counter
    ⊎ (IsSetBy (coming_to s event) event counter ⊎ IsCounterMadeBy (coming_to s event) event counter))
