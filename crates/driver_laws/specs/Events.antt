-- Whatever happened.
use Rattle.std.specs.Prelude.{List}
use Rattle.driver_core.specs.declared.state.event.Event.{Event}
use Rattle.driver_core.specs.declared.state.event.Inputs.{Inputs}
use Rattle.driver_core.specs.declared.state.peer.Peer.{Peer}
use Rattle.driver_core.specs.declared.state.settings.Settings.{Settings}
use Rattle.driver_core.specs.Conduct.{state_of}
use Rattle.driver_core.specs.State.{State, opened}
use Rattle.policy_core.specs.RuleList.{Rules}

-- whatever happened since the registry was opened
abbrev pub AfterAnyEvents : (State → Type 0) → Type 0
AfterAnyEvents P =
    (settings : Settings) (policy : Rules) (peers : List Peer) (events : List (Event × Inputs)) →
    P (state_of (opened settings policy peers) events)
