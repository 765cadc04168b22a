-- Over every list of events: what the log of a publication is known by in datagrams are numbers of 32 bits.
use Rattle.std.specs.Prelude.{◌≡◌, true, List, Contains, FitsSigned}
use Rattle.std.specs.Int.{w32}
use Rattle.driver_core.specs.declared.state.event.Event.{Event}
use Rattle.driver_core.specs.declared.state.event.Inputs.{Inputs}
use Rattle.driver_core.specs.declared.state.peer.Peer.{Peer}
use Rattle.driver_core.specs.declared.state.settings.Settings.{Settings}
use Rattle.driver_core.specs.Conduct.{state_of}
use Rattle.driver_core.specs.State.{State, opened}
use Rattle.policy_core.specs.RuleList.{Rules}
use Rattle.stream_registry.specs.declared.row.LogRow.{LogRow}
use Rattle.stream_registry.specs.Origins.{is_published}

-- the first session and the first term id are such numbers, as they are of all settings that a driver can be given
pub record AreSettingsOf32Bits (settings : Settings) : Type 0 where
  pub first_session : FitsSigned w32 settings.first_session
  pub initial_term : FitsSigned w32 settings.initial_term

pub record IsOf32Bits (log : LogRow) : Type 0 where
  pub session : FitsSigned w32 log.session
  pub stream : FitsSigned w32 log.stream

-- so is each live publication, in use or lingering, whose log begins at the settings' term id; of images nothing is said
pub record HasNumbersOf32Bits (s : State) : Type 0 where
  pub publications : (log : LogRow) → Contains s.streams.sources log → is_published log ≡ true → IsOf32Bits log
  pub initial_term : FitsSigned w32 s.settings.initial_term

abbrev pub PublicationsAreOf32Bits : Type 0
PublicationsAreOf32Bits =
    (settings : Settings) (policy : Rules) (peers : List Peer) (events : List (Event × Inputs)) →
    AreSettingsOf32Bits settings → HasNumbersOf32Bits (state_of (opened settings policy peers) events)
