-- Over every list of events: the logs of a registry that was opened with sound settings are sound.
use Rattle.std.specs.Prelude.{List}
use Rattle.driver_core.specs.declared.state.event.Event.{Event}
use Rattle.driver_core.specs.declared.state.event.Inputs.{Inputs}
use Rattle.driver_core.specs.declared.state.peer.Peer.{Peer}
use Rattle.driver_core.specs.declared.state.settings.Settings.{Settings}
use Rattle.driver_core.specs.Conduct.{state_of}
use Rattle.driver_core.specs.Soundness.{AreSettings, IsSound}
use Rattle.driver_core.specs.State.{opened}
use Rattle.policy_core.specs.RuleList.{Rules}

abbrev pub RegistriesAreSound : Type 0
RegistriesAreSound =
    (settings : Settings) (policy : Rules) (peers : List Peer) (events : List (Event × Inputs)) →
    AreSettings settings → IsSound (state_of (opened settings policy peers) events)
