-- Over every list of events: clients come exactly by their attaching.
use Rattle.std.specs.Prelude.{◌≡◌, ℕ, ◌+◌, max, true, false, [], ◌∷◌, ◌++◌, Contains, ◌⊎◌}
use Rattle.driver_core.specs.Change.{Change}
use Rattle.driver_core.specs.declared.state.event.Event.{Event}
use Rattle.driver_core.specs.declared.state.event.Event.TheVariants.{Attach}
use Rattle.driver_core.specs.declared.state.event.Inputs.{Inputs}
use Rattle.driver_core.specs.declared.state.outcome.Response.{Response}
use Rattle.driver_core.specs.declared.state.outcome.Response.TheVariants.{Attached, Full, Stopped}
use Rattle.driver_core.specs.Conduct.{coming_to, conduct, state_after}
use Rattle.driver_core.specs.Renewal.{images_decided, images_told}
use Rattle.driver_core.specs.State.{State, at_moment, ruled}
use Rattle.driver_core.specs.Unread.{without_unread}
use Rattle.driver_laws.specs.Events.{AfterAnyEvents}
use Rattle.driver_laws.specs.Turning.{TurnsTo}
use Rattle.driver_laws.specs.NumberLaws.{WasAttached}
use Rattle.client_registry.specs.declared.client.Client.{Client}
use Rattle.client_registry.specs.Clients.{ClientList, has_room}

-- who comes: the next id, the principal of the event, and the moment of the registry at it, which was just heard of it
abbrev pub newcomer : State → ℕ → ℕ → Client
newcomer s now principal = record { number = s.clients.last + 1; principal = principal; heard = max s.moment now }

abbrev pub with_newcomer : State → ℕ → ℕ → ClientList
with_newcomer s now principal =
    record s.clients { rows = s.clients.rows ++ newcomer s now principal ∷ []; last = s.clients.last + 1 }

-- the event is answered so, nobody is notified of anything else, and nothing goes or comes beside what the moment takes and brings
pub record IsOnlyAnswered (before s made : State) (inputs : Inputs) (response : Response) (change : Change) : Type 0 where
  pub response_is : change.outcome.response ≡ response
  pub turns : TurnsTo before s change
  pub replies : change.outcome.replies ≡ images_told made inputs change.outcome.gone change.outcome.come
  pub decisions : change.outcome.decisions ≡ images_decided made change.outcome.gone change.outcome.come

-- the registry with the client after the others
abbrev pub attached_at : State → ℕ → ℕ → State
attached_at s now principal = record (at_moment s now) { clients = with_newcomer s now principal }

-- it is there, and all else stays but the moment, and images that none reads from then on
pub record IsAttached (before s : State) (now principal : ℕ) (inputs : Inputs) (change : Change) : Type 0 where
  pub after_is : change.after ≡ without_unread (attached_at s now principal)
  pub answered : IsOnlyAnswered before s (attached_at s now principal) inputs (Attached (s.clients.last + 1)) change

-- nobody comes, and all stays but the moment, and images that none reads from then on
pub record NobodyComes (before s : State) (now : ℕ) (inputs : Inputs) (response : Response) (change : Change) : Type 0 where
  pub after_is : change.after ≡ without_unread (at_moment s now)
  pub answered : IsOnlyAnswered before s (at_moment s now) inputs response change

-- where the driver was not stopped, and there is room
pub record IsAttachedExactly (before s : State) (now principal : ℕ) (inputs : Inputs) (change : Change) : Type 0 where
  pub stopped : s.stopped ≡ true → NobodyComes before s now inputs Stopped change
  pub attached : s.stopped ≡ false → has_room s.clients ≡ true → IsAttached before s now principal inputs change
  pub full : s.stopped ≡ false → has_room s.clients ≡ false → NobodyComes before s now inputs Full change

abbrev pub ClientsComeExactly : Type 0
ClientsComeExactly =
    AfterAnyEvents (λ s.
    (now principal : ℕ) (inputs : Inputs) →
    IsAttachedExactly s (ruled s now) now principal inputs (conduct s (Attach now principal) inputs))

-- ---- only so

-- the event is such a one, and makes this client
pub record IsAttachedBy (s : State) (event : Event) (client : Client) : Type 0 where
  pub moment : ℕ
  pub principal : ℕ
  pub event_is : event ≡ Attach moment principal
  pub runs : s.stopped ≡ false
  pub room : has_room s.clients ≡ true
  pub made_is : client ≡ newcomer s moment principal

-- a client after an event was there before it, under that id and for that principal, or is made by it
abbrev pub ClientsComeOnly : Type 0
ClientsComeOnly =
    AfterAnyEvents (λ s.
    (event : Event) (inputs : Inputs) (client : Client) → Contains (state_after s event inputs).clients.rows client →
    WasAttached s client ⊎ IsAttachedBy (coming_to s event) event client)
