-- Two worlds are held, and all datagrams that the first sent: which ends they stand for, and what a step and a run leave. Own
-- rules.
use Rattle.std.specs.Prelude.{◌≡◌, List, Option, Some, None, if◌then◌else◌}
use Rattle.log_steps.specs.declared.answer.Answer.{Answer}
use Rattle.driver_world.specs.declared.reading.Reading.{Reading}
use Rattle.driver_world.specs.Standing.{Held, StandsForEnd}
use Rattle.two_drivers.specs.Drivers.{is_quiet, numbered}
use Rattle.two_drivers.specs.Sent.{Datagram}
use Rattle.two_drivers.specs.Memory.{HasMemoryOfBoth, HaveMemoryOfBoth}
use Rattle.two_drivers.specs.declared.pair_step.PairStep.{PairStep}
use Rattle.two_drivers.specs.declared.pair_step.PairStep.TheVariants.{A, B, Deliver}
use Rattle.two_drivers.specs.Worlds.{AreAnswersOfBoth, IsAnswerToBoth, TwoEnds, after_both, coming, end_of_both}

pub record HeldBoth : Type 0 where
  pub first : Held
  pub second : Held
  pub sent : List Datagram

abbrev pub held_both : Held → Held → List Datagram → HeldBoth
held_both first second sent = record { first = first; second = second; sent = sent }

pub record StandForEnds (held : HeldBoth) (e : TwoEnds) : Type 0 where
  pub first : StandsForEnd held.first e.first
  pub second : StandsForEnd held.second e.second
  pub sent : held.sent ≡ e.sent

-- the step that the second takes, by what is held
abbrev pub held_step : HeldBoth → PairStep → Option Reading
held_step held (A reading) = None
held_step held (B reading) = if is_quiet reading.step then Some reading else None
held_step held (Deliver sent now view) =
    coming held.first.driver.registry.settings.send_address now view (numbered sent held.sent)

-- One step, for each two ends that they stand for. Out of memory is an answer only to a step that may take some.
pub record ServesBoth (old new : HeldBoth) (step : PairStep) (answer : Answer) : Type 0 where
  pub on : (e : TwoEnds) → StandForEnds old e → IsAnswerToBoth e step answer × StandForEnds new (after_both e step answer)
  pub without_memory : (e : TwoEnds) → StandForEnds old e → HasMemoryOfBoth e step answer

-- and the steps in a row
pub record RunBoth (old new : HeldBoth) (steps : List PairStep) (answers : List Answer) : Type 0 where
  pub on : (e : TwoEnds) → StandForEnds old e → AreAnswersOfBoth e steps answers × StandForEnds new (end_of_both e steps answers)
  pub without_memory : (e : TwoEnds) → StandForEnds old e → HaveMemoryOfBoth e steps answers

-- the answers of a run that ends both worlds, for each two ends that they stood for
pub record AnswerBoth (held : HeldBoth) (steps : List PairStep) (answers : List Answer) : Type 0 where
  pub on : (e : TwoEnds) → StandForEnds held e → AreAnswersOfBoth e steps answers
  pub without_memory : (e : TwoEnds) → StandForEnds held e → HaveMemoryOfBoth e steps answers
