-- A run of a world is one of its driver, whose steps go by the registries that they name: so whatever is said of all runs of a
-- driver holds of worlds. Own rules.
use Rattle.std.specs.Prelude.{◌≡◌, List}
use Rattle.driver_core.specs.declared.state.peer.Peer.{Peer}
use Rattle.driver_core.specs.declared.state.settings.Settings.{Settings}
use Rattle.driver_core.specs.Conduct.{state_of}
use Rattle.log_steps.specs.declared.answer.Answer.{Answer}
use Rattle.driver_steps.specs.Ends.{opening_end as driver_opening}
use Rattle.driver_steps.specs.Runs as driver
use Rattle.driver_world.specs.declared.reading.Reading.{Reading}
use Rattle.driver_world.specs.Ends.{RunEnd, opening_end, AreAnswers, end_of}
use Rattle.policy_core.specs.RuleList.{Rules}

-- there is a run of the driver that ends where the world's does, and the newest registry is what the events left
pub record IsDriversRun (settings : Settings) (policy : Rules) (peers : List Peer) (e : RunEnd) : Type 0 where
  pub readings : List driver.Reading
  pub given : List Answer
  pub are : driver.AreAnswers (driver_opening settings policy peers) readings given
  pub ends : e.driver ≡ driver.end_of (driver_opening settings policy peers) readings given
  pub newest : e.driver.registry ≡ state_of e.past.opened e.past.taken

abbrev pub RunsAreOfTheDriver : Type 0
RunsAreOfTheDriver =
    (settings : Settings) (policy : Rules) (peers : List Peer) (readings : List Reading) (answers : List Answer) →
    AreAnswers (opening_end settings policy peers) readings answers →
    IsDriversRun settings policy peers (end_of (opening_end settings policy peers) readings answers)
