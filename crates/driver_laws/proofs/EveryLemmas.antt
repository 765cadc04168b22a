-- Whatever happened.
use Rattle.std.proofs.Common.{List, [], ◌∷◌}
use Rattle.driver_core.specs.declared.state.event.Event.{Event}
use Rattle.driver_core.specs.declared.state.event.Inputs.{Inputs}
use Rattle.driver_core.specs.declared.state.peer.Peer.{Peer}
use Rattle.driver_core.specs.declared.state.settings.Settings.{Settings}
use Rattle.driver_core.specs.Conduct.{state_after, state_of}
use Rattle.driver_core.specs.State.{State, opened}
use Rattle.driver_laws.specs.Events.{AfterAnyEvents}
use Rattle.policy_core.specs.RuleList.{Rules}

-- what holds at first, and behind each event if it held before, holds of every registry
pub after_any : (P : State → Type 0) →
    ((settings : Settings) (policy : Rules) (peers : List Peer) → P (opened settings policy peers)) →
    ((s : State) (event : Event) (inputs : Inputs) → P s → P (state_after s event inputs)) → AfterAnyEvents P
after_any P first next settings policy peers events = all (opened settings policy peers) events (first settings policy peers)
  where
    all : (s : State) (events' : List (Event × Inputs)) → P s → P (state_of s events')
    all s [] holds = holds
    all s (event ∷ events') holds =
        all (state_after s event.0 event.1) events' (next s event.0 event.1 holds)
