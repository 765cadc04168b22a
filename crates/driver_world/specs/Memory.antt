-- Which steps of a world may take memory. Own rules.
use Rattle.std.specs.Prelude.{ℕ, List, [], ◌∷◌, Option, Some, None}
use Rattle.driver_core.specs.State.{State}
use Rattle.log_steps.specs.declared.answer.Answer.{Answer}
use Rattle.driver_steps.specs.declared.step.Step.{Step}
use Rattle.driver_steps.specs.StepMemory.{HasMemory as DriverHasMemory}
use Rattle.driver_world.specs.declared.actor.Actor.{Actor}
use Rattle.driver_world.specs.declared.actor.Actor.TheVariants.{Conductor}
use Rattle.driver_world.specs.declared.reading.Reading.{Reading}
use Rattle.driver_world.specs.Ends.{RunEnd, after}
use Rattle.driver_world.specs.Views.{actor_of, at_moment, newest_of, older_at, seat_of, view_or}

-- a step by an older registry takes memory for that; one by the newest takes what the driver's does
abbrev pub looked_has : RunEnd → Step → Answer → Option State → Type 0
looked_has e step answer None = DriverHasMemory e.driver.registry e.driver step answer
looked_has e step answer (Some older) = Unit {0}

abbrev pub has_as : RunEnd → Actor → Option ℕ → Step → Answer → Type 0
has_as e Conductor view step answer = Unit {0}
has_as e actor view step answer =
    looked_has e (at_moment (seat_of actor e.seats).moment step) answer (older_at e.past (view_or (newest_of e.past) view))

abbrev pub HasMemory : RunEnd → Reading → Answer → Type 0
HasMemory e reading answer = has_as e (actor_of reading.step) reading.view reading.step answer

abbrev pub HaveMemory : RunEnd → List Reading → List Answer → Type 0
HaveMemory e [] answers = Unit {0}
HaveMemory e (reading ∷ readings) [] = Unit {0}
HaveMemory e (reading ∷ readings) (answer ∷ answers) =
    HasMemory e reading answer × HaveMemory (after e reading answer) readings answers
