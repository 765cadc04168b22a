-- Runs, each of whose steps goes by the newest registry or by an older one. Own rules.
use Rattle.std.specs.Prelude.{List, [], ◌∷◌, Option, None}
use Rattle.driver_core.specs.State.{State}
use Rattle.log_steps.specs.declared.answer.Answer.{Answer}
use Rattle.driver_steps.specs.declared.step.Step.{Step}
use Rattle.driver_steps.specs.Ends.{RunEnd, Moved, after_by, looks_at, moved_by, IsAnswerOf}

-- a step, with the registry that its actor looks at, if that is not the newest one
pub record Reading : Type 0 where
  pub older : Option State
  pub step : Step

-- by the newest
abbrev pub newest : Step → Reading
newest step = record { older = None; step = step }

-- the registry by which it goes
abbrev pub read_by : RunEnd → Option State → State
read_by e older = looks_at e.registry older

-- what it leaves, and what it is answered
abbrev pub moved_to : RunEnd → Reading → Moved
moved_to e reading = moved_by (read_by e reading.older) e reading.step

-- one that is refused memory leaves all as it was
abbrev pub left_by : RunEnd → Reading → Answer → RunEnd
left_by e reading answer = after_by e (moved_to e reading) answer

abbrev pub IsAnswerTo : RunEnd → Reading → Answer → Type 0
IsAnswerTo e reading answer = IsAnswerOf (moved_to e reading) answer

-- the answers of a list of them, each given where the ones before it left off
abbrev pub AreAnswers : RunEnd → List Reading → List Answer → Type 0
AreAnswers e [] [] = Unit {0}
AreAnswers e [] (answer ∷ answers) = ⊥
AreAnswers e (reading ∷ readings) [] = ⊥
AreAnswers e (reading ∷ readings) (answer ∷ answers) =
    IsAnswerTo e reading answer × AreAnswers (left_by e reading answer) readings answers

-- where they leave off
abbrev pub end_of : RunEnd → List Reading → List Answer → RunEnd
end_of e [] answers = e
end_of e (reading ∷ readings) [] = e
end_of e (reading ∷ readings) (answer ∷ answers) = end_of (left_by e reading answer) readings answers
