-- A world holds a driver, the last decisions of each actor, the registries that it went through, and which of them each actor
-- looked at last. Each run ends where a world may stand; each call of a world goes on from each such end.
use Rattle.std.specs.Prelude.{◌≡◌, ℕ, ◌==◌, true, false, List, ◌++◌, Option, ◌⊎◌}
use Rattle.driver_core.specs.declared.state.peer.Peer.{Peer}
use Rattle.driver_core.specs.declared.state.settings.Settings.{Settings}
use Rattle.log_steps.specs.declared.answer.Answer.{Answer}
use Rattle.log_steps.specs.declared.answer.Answer.TheVariants.{BadStep, NoMemory}
use Rattle.driver_core.specs.State.{State}
use Rattle.driver_steps.specs.declared.step.Step.{Step}
use Rattle.driver_steps.specs.Ends.{looks_at}
use Rattle.driver_steps.specs.Standing.{Held as HeldDriver, Serves as DriverServes, StandsForEnd as DriverStands}
use Rattle.driver_world.specs.declared.actor.Actor.{Actor}
use Rattle.driver_world.specs.declared.reading.Reading.{Reading}
use Rattle.driver_world.specs.declared.seats.Seat.{Seat}
use Rattle.driver_world.specs.declared.world.Look.{Look}
use Rattle.driver_world.specs.Audits.{Audits, Decided, decided_by, kept_all}
use Rattle.driver_world.specs.Ends.{RunEnd, opening_end, IsAnswer, AreAnswers, after, end_of, seen_by}
use Rattle.driver_world.specs.Memory.{HasMemory, HaveMemory}
use Rattle.driver_world.specs.Past.{IsShown, shown_state}
use Rattle.driver_world.specs.Views.{Past, Seats, is_out, newest_of, older_at, seated, view_or}
use Rattle.policy_core.specs.RuleList.{Rules}

pub record Held : Type 0 where
  pub driver : HeldDriver
  pub audits : Audits
  pub past : Past
  pub seats : Seats

-- the driver stands for the end's, and of what was decided for each actor the end is kept; registries and seats are the end's
pub record StandsForEnd (held : Held) (e : RunEnd) : Type 0 where
  pub driver : DriverStands held.driver e.driver
  pub audits : held.audits ≡ kept_all e.decided
  pub past : held.past ≡ e.past
  pub seats : held.seats ≡ e.seats

-- One step, for each end that the world stands for. Out of memory is an answer only to a step that may take some.
pub record Serves (old new : Held) (reading : Reading) (answer : Answer) : Type 0 where
  pub on : (e : RunEnd) → StandsForEnd old e → IsAnswer e reading answer × StandsForEnd new (after e reading answer)
  pub without_memory : (e : RunEnd) → StandsForEnd old e → HasMemory e reading answer

-- the steps in a row, for each end that the world stands for
pub record Runs (old new : Held) (readings : List Reading) (answers : List Answer) : Type 0 where
  pub on : (e : RunEnd) → StandsForEnd old e → AreAnswers e readings answers × StandsForEnd new (end_of e readings answers)
  pub without_memory : (e : RunEnd) → StandsForEnd old e → HaveMemory e readings answers

-- for every run whose end the world stood for, the answers continue that run by the steps, and the world stands for the new
-- end
pub record Continues (old new : Held) (readings : List Reading) (answers : List Answer) : Type 0 where
  pub on : (settings : Settings) (policy : Rules) (peers : List Peer) (before : List Reading) (earlier : List Answer) →
      AreAnswers (opening_end settings policy peers) before earlier →
      StandsForEnd old (end_of (opening_end settings policy peers) before earlier) →
      AreAnswers (opening_end settings policy peers) (before ++ readings) (earlier ++ answers)
      × StandsForEnd new (end_of (opening_end settings policy peers) (before ++ readings) (earlier ++ answers))
  pub without_memory : (settings : Settings) (policy : Rules) (peers : List Peer) (before : List Reading) (earlier : List Answer) →
      AreAnswers (opening_end settings policy peers) before earlier →
      HaveMemory (opening_end settings policy peers) before earlier →
      StandsForEnd old (end_of (opening_end settings policy peers) before earlier) →
      HaveMemory (opening_end settings policy peers) (before ++ readings) (earlier ++ answers)

-- ---- a look

-- the actor may look there, at that registry
pub record IsLook (past : Past) (seat : Seat) (view : Option ℕ) (look : Look) : Type 0 where
  pub view_is : look.view ≡ view_or (newest_of past) view
  pub within : is_out (newest_of past) seat look.view ≡ false
  pub older_is : shown_state look.older ≡ older_at past look.view
  pub shown_is : IsShown past look.older
  pub moment_is : look.moment ≡ seat.moment

-- it may not, or there is no memory for a registry that is not the newest
abbrev pub IsNoLook : Past → Seat → Option ℕ → Answer → Type 0
IsNoLook past seat view answer =
    ((answer ≡ BadStep) × (is_out (newest_of past) seat (view_or (newest_of past) view) ≡ true))
    ⊎ ((answer ≡ NoMemory) × (is_out (newest_of past) seat (view_or (newest_of past) view) ≡ false)
    × ((view_or (newest_of past) view == newest_of past) ≡ false))

-- ---- a step by that registry

-- a step that was refused memory reports nothing
abbrev pub decided_left : Answer → Decided → Decided → Decided
decided_left NoMemory before after = before
decided_left answer before after = after

-- The driver serves by it, and what it decides is reported, for each end that the world stands for. Registries and seats are as
-- they were.
pub record Acts (older : Option State) (old new : Held) (step : Step) (answer : Answer) : Type 0 where
  pub serves : DriverServes (looks_at old.driver.registry older) old.driver new.driver step answer
  pub reports :
      (e : RunEnd) → StandsForEnd old e →
      new.audits ≡ kept_all (decided_left answer e.decided (decided_by (seen_by e.driver older) step e.decided))
  pub stays : new ≡ record old { driver = new.driver; audits = new.audits }

-- a step that was refused memory leaves the actor where it stood
abbrev pub seats_left : Actor → Seat → Answer → Seats → Seats
seats_left actor seat NoMemory seats = seats
seats_left actor seat answer seats = seated actor seat seats

abbrev pub Sits : Held → Held → Actor → ℕ → ℕ → Answer → Type 0
Sits old new actor view now answer =
    new ≡ record old { seats = seats_left actor (record { view = view; moment = now }) answer old.seats }
