-- Over every list of events: no two live publications share medium, stream and session.
use Rattle.std.specs.Prelude.{◌≡◌, ℤ, true, List, Contains, Some, FitsSigned}
use Rattle.std.specs.Int.{w32}
use Rattle.driver_core.specs.declared.state.event.Event.{Event}
use Rattle.driver_core.specs.declared.state.event.Inputs.{Inputs}
use Rattle.driver_core.specs.declared.state.peer.Peer.{Peer}
use Rattle.driver_core.specs.declared.state.settings.Settings.{Settings}
use Rattle.driver_core.specs.Conduct.{state_of}
use Rattle.driver_core.specs.PublicationRequests.{is_sent_as, publication_at}
use Rattle.driver_core.specs.State.{State, opened}
use Rattle.policy_core.specs.RuleList.{Rules}
use Rattle.stream_registry.specs.declared.row.LogRow.{LogRow}
use Rattle.stream_registry.specs.Origins.{is_published}

-- both are publications of one medium, stream and session, whether clients are registered with them or they linger
pub record AreOfOneStream (log other : LogRow) : Type 0 where
  pub published : is_published log ≡ true
  pub other_published : is_published other ≡ true
  pub media : log.channel.media ≡ other.channel.media
  pub stream : log.stream ≡ other.stream
  pub session : log.session ≡ other.session

-- two live publications that are so are one, and one over datagrams that is looked for by its session and stream is the one
-- found
pub record HasUniquePublications (s : State) : Type 0 where
  pub one :
      (log other : LogRow) → Contains s.streams.sources log → Contains s.streams.sources other →
      AreOfOneStream log other → log ≡ other
  pub found :
      (session stream : ℤ) (log : LogRow) → Contains s.streams.sources log → is_sent_as session stream log ≡ true →
      publication_at s session stream ≡ Some log

-- the first session is a number of 32 bits, as it is of all settings that a driver can be given
abbrev pub PublicationsAreUnique : Type 0
PublicationsAreUnique =
    (settings : Settings) (policy : Rules) (peers : List Peer) (events : List (Event × Inputs)) →
    FitsSigned w32 settings.first_session → HasUniquePublications (state_of (opened settings policy peers) events)
