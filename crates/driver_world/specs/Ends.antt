-- What stands at the end of a run: the driver, all that was decided for each actor, the registries that the run went through,
-- and which of them each actor looked at last. Own rules.
use Rattle.std.specs.Prelude.{◌≡◌, ℕ, ◌+◌, List, [], ◌∷◌, ◌++◌, Option, Some, None, if◌then◌else◌}
use Rattle.driver_core.specs.declared.state.event.Event.{Event}
use Rattle.driver_core.specs.declared.state.event.Inputs.{Inputs}
use Rattle.driver_core.specs.declared.state.peer.Peer.{Peer}
use Rattle.driver_core.specs.declared.state.settings.Settings.{Settings}
use Rattle.driver_core.specs.Conduct.{outcome_of}
use Rattle.driver_core.specs.State.{State, opened}
use Rattle.log_steps.specs.declared.answer.Answer.{Answer}
use Rattle.log_steps.specs.declared.answer.Answer.TheVariants.{BadStep, NoMemory}
use Rattle.driver_steps.specs.declared.step.Step.{Step}
use Rattle.driver_steps.specs.Ends.{RunEnd as DriverEnd, moved as driver_moved, moved_by, opening_end as driver_opening}
use Rattle.driver_steps.specs.Laws.{event_of}
use Rattle.driver_steps.specs.Runs.{read_by}
use Rattle.driver_world.specs.declared.actor.Actor.{Actor}
use Rattle.driver_world.specs.declared.actor.Actor.TheVariants.{Conductor, Sender, Receiver, Client}
use Rattle.driver_world.specs.declared.reading.Reading.{Reading}
use Rattle.driver_world.specs.Audits.{Decided, decided_by, nothing_decided}
use Rattle.driver_world.specs.Views.{Past, Seats, actor_of, at_moment, attached_at, is_out, moment_of, newest_of, no_seats, older_at, seat_of, seated, view_or}
use Rattle.policy_core.specs.RuleList.{Rules}

pub record RunEnd : Type 0 where
  pub driver : DriverEnd
  pub decided : Decided
  pub past : Past
  pub seats : Seats

-- the end of the empty run
unfoldable pub opening_end : Settings → Rules → List Peer → RunEnd
opening_end settings policy peers = record {
  driver = driver_opening settings policy peers;
  decided = nothing_decided;
  past = record { opened = opened settings policy peers; taken = [] };
  seats = no_seats;
}

pub record Moved : Type 0 where
  pub after : RunEnd
  pub answer : Answer

-- ---- the conductor

-- the event is taken; a client that it attaches has a seat at the registry that it makes
abbrev pub seats_by : RunEnd → List (Event × Inputs) → Seats
seats_by e [] = e.seats
seats_by e (one ∷ more) =
    attached_at (newest_of e.past + 1) (outcome_of e.driver.registry one.0 one.1).response e.seats

abbrev pub conducted : RunEnd → Step → Moved
conducted e step = record {
  after = record {
    driver = (driver_moved e.driver step).after;
    decided = decided_by e.driver step e.decided;
    past = record e.past { taken = e.past.taken ++ event_of e.driver step };
    seats = seats_by e (event_of e.driver step);
  };
  answer = (driver_moved e.driver step).answer;
}

-- ---- any other actor

-- the driver, as one sees it who looks at that registry
abbrev pub seen_by : DriverEnd → Option State → DriverEnd
seen_by e older = record e { registry = read_by e older }

-- it goes by that registry, at the greatest moment of its actor, which stands there from then on
abbrev pub looked : RunEnd → Actor → ℕ → Step → Moved
looked e actor k step = record {
  after = record e {
    driver = (moved_by (read_by e.driver (older_at e.past k)) e.driver step).after;
    decided = decided_by (seen_by e.driver (older_at e.past k)) step e.decided;
    seats = seated actor (record { view = k; moment = moment_of step }) e.seats;
  };
  answer = (moved_by (read_by e.driver (older_at e.past k)) e.driver step).answer;
}

-- a registry that it may not look at: nothing is changed
abbrev pub bad : RunEnd → Moved
bad e = record { after = e; answer = BadStep }

abbrev pub looked_at : RunEnd → Actor → ℕ → Step → Moved
looked_at e actor k step =
    if is_out (newest_of e.past) (seat_of actor e.seats) k then bad e
    else looked e actor k (at_moment (seat_of actor e.seats).moment step)

-- ---- any step

-- the conductor goes by the newest registry, and names none
abbrev pub moved_as : RunEnd → Actor → Option ℕ → Step → Moved
moved_as e Conductor None step = conducted e step
moved_as e Conductor (Some k) step = bad e
moved_as e Sender view step = looked_at e Sender (view_or (newest_of e.past) view) step
moved_as e Receiver view step = looked_at e Receiver (view_or (newest_of e.past) view) step
moved_as e (Client id) view step = looked_at e (Client id) (view_or (newest_of e.past) view) step

abbrev pub moved : RunEnd → Reading → Moved
moved e reading = moved_as e (actor_of reading.step) reading.view reading.step

-- a step that is refused memory leaves all as it was, the view of its actor too; any other leaves and is answered what `moved`
-- says
abbrev pub after_by : RunEnd → Moved → Answer → RunEnd
after_by e what NoMemory = e
after_by e what answer = what.after

abbrev pub after : RunEnd → Reading → Answer → RunEnd
after e reading answer = after_by e (moved e reading) answer

abbrev pub IsAnswerOf : Moved → Answer → Type 0
IsAnswerOf what NoMemory = Unit {0}
IsAnswerOf what answer = answer ≡ what.answer

abbrev pub IsAnswer : RunEnd → Reading → Answer → Type 0
IsAnswer e reading answer = IsAnswerOf (moved e reading) answer

-- the answers of a list of steps, each given where the ones before it left off
abbrev pub AreAnswers : RunEnd → List Reading → List Answer → Type 0
AreAnswers e [] [] = Unit {0}
AreAnswers e [] (answer ∷ answers) = ⊥
AreAnswers e (reading ∷ readings) [] = ⊥
AreAnswers e (reading ∷ readings) (answer ∷ answers) =
    IsAnswer e reading answer × AreAnswers (after e reading answer) readings answers

-- where they leave off
abbrev pub end_of : RunEnd → List Reading → List Answer → RunEnd
end_of e [] answers = e
end_of e (reading ∷ readings) [] = e
end_of e (reading ∷ readings) (answer ∷ answers) = end_of (after e reading answer) readings answers
