-- Over every list of events: what is refused changes no more than moments.
use Rattle.std.specs.Prelude.{◌≡◌, max, List, [], ◌∷◌, ◌++◌, None, ◌⊎◌, if◌then◌else◌}
use Rattle.std.specs.List.{AllByRecursion}
use Rattle.driver_core.specs.Change.{Change}
use Rattle.driver_core.specs.declared.state.event.Event.{Event}
use Rattle.driver_core.specs.declared.state.event.Event.TheVariants.{Attach, Command, Reload, Setup, Tick}
use Rattle.driver_core.specs.declared.state.event.Inputs.{Inputs}
use Rattle.driver_core.specs.declared.state.outcome.Outcome.{Outcome}
use Rattle.driver_core.specs.declared.state.outcome.Response.{Response}
use Rattle.driver_core.specs.declared.state.outcome.Response.TheVariants as response
use Rattle.driver_core.specs.declared.state.replies.Message.{Message}
use Rattle.driver_core.specs.declared.state.replies.Reply.{Reply}
use Rattle.driver_core.specs.declared.state.replies.Reply.TheVariants.{AvailableImage, Error, UnavailableImage}
use Rattle.driver_core.specs.Conduct.{coming_to, conduct, drafted, outcome_of, state_after}
use Rattle.driver_core.specs.Draft.{Draft}
use Rattle.driver_core.specs.Renewal.{images_decided, images_told}
use Rattle.driver_core.specs.Requests.{is_heard}
use Rattle.driver_core.specs.State.{State}
use Rattle.driver_core.specs.Unread.{without_unread}
use Rattle.driver_laws.specs.Events.{AfterAnyEvents}
use Rattle.driver_laws.specs.Turning.{TurnsTo}
use Rattle.client_registry.specs.Clients.{touched}

-- the reply refuses, or is of an image that comes or goes, which a moment may bring and take whatever the event is
abbrev pub IsRefusal : Reply → Type 0
IsRefusal (Error correlation refusal) = Unit {0}
IsRefusal (AvailableImage source subscription session stream position identity) = Unit {0}
IsRefusal (UnavailableImage source subscription stream) = Unit {0}
IsRefusal reply = ⊥

abbrev pub IsNoGrant : Response → Type 0
IsNoGrant (response.Attached number) = ⊥
IsNoGrant (response.PolicyInForce epoch) = ⊥
IsNoGrant (response.Imaged number) = ⊥
IsNoGrant answer = Unit {0}

-- no reply grants anything, and no log closes
pub record GrantsNothing (outcome : Outcome) : Type 0 where
  pub response : IsNoGrant outcome.response
  pub closes : outcome.closes ≡ []
  pub replies : AllByRecursion (λ message. IsRefusal message.reply) outcome.replies

-- the registry with no more than its moment and that of the client that was heard of set
abbrev pub only_moments : State → Event → State
only_moments s (Attach now principal) = record s { moment = max s.moment now }
only_moments s (Reload now policy) = record s { moment = max s.moment now }
only_moments s (Tick now) = record s { moment = max s.moment now }
only_moments s (Setup now local from setup) = record s { moment = max s.moment now }
only_moments s (Command now handle bytes) = record s {
  moment = max s.moment now;
  clients = if is_heard s handle bytes then touched s.clients handle (max s.moment now) else s.clients;
}

abbrev pub RefusalsChangeNoMoreThanMoments : Type 0
RefusalsChangeNoMoreThanMoments =
    AfterAnyEvents (λ s. (event : Event) (inputs : Inputs) → GrantsNothing (outcome_of s event inputs) →
    state_after s event inputs ≡ only_moments (coming_to s event) event)

-- ---- what the moment takes

-- the event is answered that it is refused
abbrev pub IsRefusedBy : Response → Type 0
IsRefusedBy response.Full = Unit {0}
IsRefusedBy response.Stopped = Unit {0}
IsRefusedBy response.PolicyFull = Unit {0}
IsRefusedBy (response.Dropped why) = Unit {0}
IsRefusedBy answer = ⊥

abbrev pub IsError : Reply → Type 0
IsError (Error correlation refusal) = Unit {0}
IsError reply = ⊥

-- or the first of its replies says so
abbrev pub BeginsWithError : List Message → Type 0
BeginsWithError [] = ⊥
BeginsWithError (message ∷ messages) = IsError message.reply

abbrev pub IsRefused : Outcome → Type 0
IsRefused outcome = IsRefusedBy outcome.response ⊎ BeginsWithError outcome.replies

-- the event's own rule grants nothing, and no log opens or closes by it, as where it is refused, or only moves time: a keepalive, or
-- a tick at which nobody is late and nothing closes
pub record GrantsNothingItself (draft : Draft) : Type 0 where
  pub response : IsNoGrant draft.response
  pub replies : AllByRecursion (λ (message : Message). IsRefusal message.reply) draft.replies
  pub later : draft.later ≡ []
  pub opens : draft.opens ≡ None
  pub closes : draft.closes ≡ []

-- Then the pairs are those of the lists as they were, and of the policy as it is at the moment; the images close that none reads
-- then, and no other log. What is answered and reported is the event's own, and after it what is told and decided of those pairs.
pub record TakesWhatTheMomentTakes (s : State) (event : Event) (inputs : Inputs) (draft : Draft) (change : Change) : Type 0 where
  pub after_is : change.after ≡ without_unread (only_moments (coming_to s event) event)
  pub turns : TurnsTo s (coming_to s event) change
  pub response : change.outcome.response ≡ draft.response
  pub replies :
      change.outcome.replies
      ≡ draft.replies
      ++ images_told (only_moments (coming_to s event) event) inputs change.outcome.gone change.outcome.come
  pub decisions :
      change.outcome.decisions
      ≡ draft.decisions
      ++ images_decided (only_moments (coming_to s event) event) change.outcome.gone change.outcome.come
  pub opens : change.outcome.opens ≡ None

pub record TakesByMomentAlone (s : State) (event : Event) (inputs : Inputs) (draft : Draft) : Type 0 where
  pub refused :
      IsRefused (outcome_of s event inputs) → TakesWhatTheMomentTakes s event inputs draft (conduct s event inputs)
  pub moved :
      GrantsNothingItself draft → TakesWhatTheMomentTakes s event inputs draft (conduct s event inputs)

abbrev pub RefusedEventsTakeOnlyWhatTheMomentTakes : Type 0
RefusedEventsTakeOnlyWhatTheMomentTakes =
    AfterAnyEvents (λ s.
    (event : Event) (inputs : Inputs) →
    TakesByMomentAlone s event inputs (drafted (coming_to s event) event inputs))
