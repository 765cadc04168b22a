-- What a world does, by what its driver does: each step goes by the registry of the number that it names, and whatever is said
-- of the registries and the logs of all runs of a driver holds of worlds. Own rules.
use Rattle.std.specs.Prelude.{◌≡◌, ℕ, ◌<◌, ◌≤◌, List, [], ◌∷◌, ◌++◌, length, take, Option, Some, None, if◌then◌else◌}
use Rattle.driver_core.specs.declared.state.peer.Peer.{Peer}
use Rattle.driver_core.specs.declared.state.settings.Settings.{Settings}
use Rattle.driver_core.specs.Conduct.{state_of}
use Rattle.driver_core.specs.Soundness.{AreSettings}
use Rattle.driver_core.specs.State.{State, opened}
use Rattle.driver_laws.specs.LearningLaws.{AddressesComeAndGoBy}
use Rattle.driver_laws.specs.OlderLaws.{JoinsAreDecidedBy, LooksAreDecidedBy, NaksAreDecidedBy, OffersAreDecidedBy, PollsAreDecidedBy, SendsAreDecidedBy}
use Rattle.log_steps.specs.declared.answer.Answer.{Answer}
use Rattle.log_steps.specs.declared.answer.Answer.TheVariants.{BadStep, Polled}
use Rattle.driver_steps.specs.declared.step.Step.{Step}
use Rattle.driver_steps.specs.declared.step.Step.TheVariants.{Poll}
use Rattle.driver_steps.specs.Ends.{moved as driver_moved, moved_by, opening_end as driver_opening, RunEnd as DriverEnd}
use Rattle.driver_steps.specs.Laws.{ComeFromLog, event_of, granted_in, taken_from}
use Rattle.driver_steps.specs.Runs.{Reading as DriverReading, AreAnswers as AreDriverAnswers, end_of as driver_end, newest}
use Rattle.driver_world.specs.declared.actor.Actor.{Actor}
use Rattle.driver_world.specs.declared.actor.Actor.TheVariants.{Conductor}
use Rattle.driver_world.specs.declared.reading.Reading.{Reading}
use Rattle.driver_world.specs.Audits.{decided_by}
use Rattle.driver_world.specs.Ends.{RunEnd, Moved, opening_end, moved, after, AreAnswers, IsAnswer, end_of}
use Rattle.driver_world.specs.Views.{Past, Looks, actor_of, at_moment, is_out, moment_of, seat_of, seated}
use Rattle.log_pairs.specs.Polling.{Fetched}
use Rattle.policy_core.specs.RuleList.{Rules}

-- ---- the registry that a step names

-- what the first k events that were taken make of the opened one
abbrev pub registry_after : Past → ℕ → State
registry_after past k = state_of past.opened (take k past.taken)

-- how many were taken: the number of the newest
abbrev pub newest_in : Past → ℕ
newest_in past = length past.taken

-- the number that a step names, or else the newest
abbrev pub named_in : Past → Option ℕ → ℕ
named_in past None = newest_in past
named_in past (Some k) = k

-- ---- one step

-- The step is the driver's by registry k: that decides what it is answered, what it leaves of the logs, and what is decided for
-- its actor, who stands there from then on. No event is taken.
pub record GoesBy (e : RunEnd) (actor : Actor) (k : ℕ) (step : Step) (what : Moved) : Type 0 where
  pub answer : what.answer ≡ (moved_by (registry_after e.past k) e.driver step).answer
  pub driver : what.after.driver ≡ (moved_by (registry_after e.past k) e.driver step).after
  pub decided :
      what.after.decided ≡ decided_by (record e.driver { registry = registry_after e.past k }) step e.decided
  pub past : what.after.past ≡ e.past
  pub seats : what.after.seats ≡ seated actor (record { view = k; moment = moment_of step }) e.seats

-- the event is the driver's by the newest registry, and is taken
pub record Conducts (e : RunEnd) (step : Step) (what : Moved) : Type 0 where
  pub answer : what.answer ≡ (driver_moved e.driver step).answer
  pub driver : what.after.driver ≡ (driver_moved e.driver step).after
  pub decided : what.after.decided ≡ decided_by e.driver step e.decided
  pub opened : what.after.past.opened ≡ e.past.opened
  pub taken : what.after.past.taken ≡ e.past.taken ++ event_of e.driver step

-- nothing is changed
pub record IsBad (e : RunEnd) (what : Moved) : Type 0 where
  pub answer : what.answer ≡ BadStep
  pub after : what.after ≡ e

-- the step that is meant: at its actor's greatest moment so far, or its own
abbrev pub step_meant : RunEnd → Step → Step
step_meant e step = at_moment (seat_of (actor_of step) e.seats).moment step

-- A step of the sender, the receiver or a client goes by the registry that it names, neither after the one by which its actor
-- went last nor past the newest. The conductor's goes by the newest, and names none.
pub record StepsGoBy (e : RunEnd) : Type 0 where
  pub goes :
      (view : Option ℕ) (step : Step) → Looks (actor_of step) →
      (seat_of (actor_of step) e.seats).view ≤ named_in e.past view → named_in e.past view ≤ newest_in e.past →
      GoesBy e (actor_of step) (named_in e.past view) (step_meant e step) (moved e (record { view = view; step = step }))
  pub behind :
      (view : Option ℕ) (step : Step) → Looks (actor_of step) →
      named_in e.past view < (seat_of (actor_of step) e.seats).view → IsBad e (moved e (record { view = view; step = step }))
  pub past :
      (view : Option ℕ) (step : Step) → Looks (actor_of step) → newest_in e.past < named_in e.past view →
      IsBad e (moved e (record { view = view; step = step }))
  pub conducts :
      (step : Step) → actor_of step ≡ Conductor → Conducts e step (moved e (record { view = None; step = step }))
  pub names_none :
      (k : ℕ) (step : Step) → actor_of step ≡ Conductor → IsBad e (moved e (record { view = Some k; step = step }))

-- at the end of every run of a world
abbrev pub AtEachWorld : (RunEnd → Type 0) → Type 0
AtEachWorld P =
    (settings : Settings) (policy : Rules) (peers : List Peer) (readings : List Reading) (answers : List Answer) →
    AreAnswers (opening_end settings policy peers) readings answers →
    P (end_of (opening_end settings policy peers) readings answers)

abbrev pub StepsGoByTheirRegistry : Type 0
StepsGoByTheirRegistry = AtEachWorld StepsGoBy

-- ---- a run

-- the driver's step of a world's: by that registry, at its actor's greatest moment; none of one that is bad
abbrev pub looks_by : RunEnd → Actor → ℕ → Step → List DriverReading
looks_by e actor k step =
    if is_out (newest_in e.past) (seat_of actor e.seats) k then []
    else record { older = Some (registry_after e.past k); step = at_moment (seat_of actor e.seats).moment step } ∷ []

abbrev pub read_as : RunEnd → Actor → Option ℕ → Step → List DriverReading
read_as e Conductor None step = newest step ∷ []
read_as e Conductor (Some k) step = []
read_as e actor view step = looks_by e actor (named_in e.past view) step

abbrev pub read_of : RunEnd → Reading → List DriverReading
read_of e reading = read_as e (actor_of reading.step) reading.view reading.step

-- its answer is the world's
abbrev pub given_for : List DriverReading → Answer → List Answer
given_for [] answer = []
given_for (reading ∷ readings) answer = answer ∷ []

abbrev pub readings_of : RunEnd → List Reading → List Answer → List DriverReading
readings_of e [] answers = []
readings_of e (reading ∷ readings) [] = []
readings_of e (reading ∷ readings) (answer ∷ answers) =
    read_of e reading ++ readings_of (after e reading answer) readings answers

abbrev pub answers_of : RunEnd → List Reading → List Answer → List Answer
answers_of e [] answers = []
answers_of e (reading ∷ readings) [] = []
answers_of e (reading ∷ readings) (answer ∷ answers) =
    given_for (read_of e reading) answer ++ answers_of (after e reading answer) readings answers

-- From where it begins, the driver's steps are the world's, each by the registry of its own number, but for those that are bad;
-- their answers are the world's, the driver ends where the world's does, and what the world took is what they took.
pub record IsTheDrivers (settings : Settings) (policy : Rules) (peers : List Peer) (begin : RunEnd) (readings : List Reading)
    (answers : List Answer) : Type 0 where
  pub are :
      AreDriverAnswers (driver_opening settings policy peers) (readings_of begin readings answers)
      (answers_of begin readings answers)
  pub ends :
      (end_of begin readings answers).driver
      ≡ driver_end (driver_opening settings policy peers) (readings_of begin readings answers) (answers_of begin readings answers)
  pub opens : (end_of begin readings answers).past.opened ≡ opened settings policy peers
  pub takes :
      (end_of begin readings answers).past.taken
      ≡ taken_from (driver_opening settings policy peers) (readings_of begin readings answers)
      (answers_of begin readings answers)

abbrev pub RunsAreTheDriversOwn : Type 0
RunsAreTheDriversOwn =
    (settings : Settings) (policy : Rules) (peers : List Peer) (readings : List Reading) (answers : List Answer) →
    AreAnswers (opening_end settings policy peers) readings answers →
    IsTheDrivers settings policy peers (opening_end settings policy peers) readings answers

-- ---- what is said of drivers holds of worlds

-- whatever happened since a world was opened with sound settings, and whichever registry of its run one looks at
abbrev pub AtEachRegistryOfAWorld : (State → DriverEnd → Type 0) → Type 0
AtEachRegistryOfAWorld P =
    (settings : Settings) (policy : Rules) (peers : List Peer) (readings : List Reading) (answers : List Answer) (k : ℕ) →
    AreSettings settings → AreAnswers (opening_end settings policy peers) readings answers →
    P (registry_after (end_of (opening_end settings policy peers) readings answers).past k)
    (end_of (opening_end settings policy peers) readings answers).driver

-- Offers, polls, turns of the sender, status messages, NAKs and looks at counters, by any registry of a world's run: as its policy
-- says, and on the logs as they stand at the end of that run. Learnt addresses come and go only so.
pub record WorldsAreGrantedExactly : Type 0 where
  pub offers : AtEachRegistryOfAWorld OffersAreDecidedBy
  pub polls : AtEachRegistryOfAWorld PollsAreDecidedBy
  pub sends : AtEachRegistryOfAWorld SendsAreDecidedBy
  pub joins : AtEachRegistryOfAWorld JoinsAreDecidedBy
  pub joins_only : AtEachRegistryOfAWorld AddressesComeAndGoBy
  pub naks : AtEachRegistryOfAWorld NaksAreDecidedBy
  pub looks : AtEachRegistryOfAWorld LooksAreDecidedBy

-- A poll of a world, whichever registry it names, gives the next frames of the live log that it asks for, each put there by an
-- offer of that run that the registry by which it went allows.
abbrev pub WorldsAreServedFromTheLiveLog : Type 0
WorldsAreServedFromTheLiveLog =
    (settings : Settings) (policy : Rules) (peers : List Peer) (readings : List Reading) (answers : List Answer) (view : Option ℕ)
    (now client subscription source limit : ℕ) (fragments : List Fetched) →
    AreAnswers (opening_end settings policy peers) readings answers →
    IsAnswer (end_of (opening_end settings policy peers) readings answers)
    (record { view = view; step = Poll now client subscription source limit }) (Polled fragments) →
    ComeFromLog (end_of (opening_end settings policy peers) readings answers).driver source subscription limit
    (granted_in (driver_opening settings policy peers) source (readings_of (opening_end settings policy peers) readings answers)
    (answers_of (opening_end settings policy peers) readings answers)) fragments
