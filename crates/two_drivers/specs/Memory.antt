-- Which steps of two worlds may take memory: those that may in the world which takes them. A step that neither takes takes none.
-- Own rules.
use Rattle.std.specs.Prelude.{List, [], ◌∷◌, Option, Some, None}
use Rattle.log_steps.specs.declared.answer.Answer.{Answer}
use Rattle.driver_world.specs.declared.reading.Reading.{Reading}
use Rattle.driver_world.specs.Memory.{HasMemory}
use Rattle.two_drivers.specs.declared.pair_step.PairStep.{PairStep}
use Rattle.two_drivers.specs.declared.pair_step.PairStep.TheVariants.{A}
use Rattle.two_drivers.specs.Worlds.{TwoEnds, after_both, step_of_second}

abbrev pub HasMemoryOfSecond : TwoEnds → Option Reading → Answer → Type 0
HasMemoryOfSecond e None answer = Unit {0}
HasMemoryOfSecond e (Some reading) answer = HasMemory e.second reading answer

abbrev pub HasMemoryOfBoth : TwoEnds → PairStep → Answer → Type 0
HasMemoryOfBoth e (A reading) answer = HasMemory e.first reading answer
HasMemoryOfBoth e step answer = HasMemoryOfSecond e (step_of_second e step) answer

abbrev pub HaveMemoryOfBoth : TwoEnds → List PairStep → List Answer → Type 0
HaveMemoryOfBoth e [] answers = Unit {0}
HaveMemoryOfBoth e (step ∷ steps) [] = Unit {0}
HaveMemoryOfBoth e (step ∷ steps) (answer ∷ answers) =
    HasMemoryOfBoth e step answer × HaveMemoryOfBoth (after_both e step answer) steps answers
