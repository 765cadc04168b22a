-- A world that was opened stands at the end of the empty run.
use Rattle.std.proofs.Common.{◌≡◌, List, [], ap, ◌∙◌}
use Rattle.driver_core.specs.declared.state.peer.Peer.{Peer}
use Rattle.driver_core.specs.declared.state.settings.Settings.{Settings}
use Rattle.driver_core.specs.State.{State}
use Rattle.driver_steps.specs.Ends.{opening_end as driver_opening}
use Rattle.driver_steps.specs.Standing.{Held as HeldDriver, StandsForEnd as DriverStands}
use Rattle.driver_world.specs.Audits.{Audits, kept_all, nothing_decided}
use Rattle.driver_world.specs.Ends.{opening_end}
use Rattle.driver_world.specs.Standing.{StandsForEnd}
use Rattle.driver_world.specs.Views.{Past, Seats, no_seats}
use Rattle.policy_core.specs.RuleList.{Rules}

pub opening_stands : (settings : Settings) (policy : Rules) (peers : List Peer) (driver : HeldDriver) (audits : Audits) (past : Past) (seats : Seats)
    (r : State) → DriverStands driver (driver_opening settings policy peers) → r ≡ driver.registry → audits ≡ kept_all nothing_decided →
    past ≡ record { opened = r; taken = [] } → seats ≡ no_seats →
    StandsForEnd (record { driver = driver; audits = audits; past = past; seats = seats }) (opening_end settings policy peers)
unfolding opening_end driver_opening
opening_stands settings policy peers driver audits past seats r stands is audits_are past_is seats_are = record {
  driver = stands;
  audits = audits_are;
  past = past_is ∙ ap (λ (o : State). let p : Past = record { opened = o; taken = [] } in p) (is ∙ stands.registry);
  seats = seats_are;
}
