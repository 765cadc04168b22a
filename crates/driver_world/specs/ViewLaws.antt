-- What holds of the registries of every run, and of who looked at which. Own rules.
use Rattle.std.specs.Prelude.{◌≡◌, ℕ, ◌≤◌, List, take}
use Rattle.driver_core.specs.declared.state.peer.Peer.{Peer}
use Rattle.driver_core.specs.declared.state.settings.Settings.{Settings}
use Rattle.log_steps.specs.declared.answer.Answer.{Answer}
use Rattle.driver_world.specs.declared.actor.Actor.{Actor}
use Rattle.driver_world.specs.declared.reading.Reading.{Reading}
use Rattle.driver_world.specs.declared.seats.Seat.{Seat}
use Rattle.driver_world.specs.Ends.{RunEnd, opening_end, after, AreAnswers, end_of}
use Rattle.driver_world.specs.Views.{newest_of, registry_at, seat_of}
use Rattle.policy_core.specs.RuleList.{Rules}

-- after so many of the steps that registry was the newest
pub record WasNewest (e : RunEnd) (readings : List Reading) (answers : List Answer) (k : ℕ) : Type 0 where
  pub steps : ℕ
  pub left : (end_of e (take steps readings) (take steps answers)).driver.registry ≡ registry_at (end_of e readings answers).past k

-- so a step by registry k goes by one that the run itself had
abbrev pub RegistriesWereNewest : Type 0
RegistriesWereNewest =
    (settings : Settings) (policy : Rules) (peers : List Peer) (readings : List Reading) (answers : List Answer) (k : ℕ) →
    AreAnswers (opening_end settings policy peers) readings answers →
    k ≤ newest_of (end_of (opening_end settings policy peers) readings answers).past →
    WasNewest (opening_end settings policy peers) readings answers k

-- neither the registry nor the moment is earlier than before
pub record Rises (old new : Seat) : Type 0 where
  pub view : old.view ≤ new.view
  pub moment : old.moment ≤ new.moment

-- of any actor, by whichever step, whatever it is answered
abbrev pub ViewsOnlyRise : Type 0
ViewsOnlyRise =
    (actor : Actor) (e : RunEnd) (reading : Reading) (answer : Answer) →
    Rises (seat_of actor e.seats) (seat_of actor (after e reading answer).seats)
