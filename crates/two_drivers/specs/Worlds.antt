-- Two worlds, of which the second is given datagrams that the first sent: any of them, in any order, as often as may be. Own
-- rules.
use Rattle.std.specs.Prelude.{◌≡◌, ℕ, ◌<◌, List, [], ◌∷◌, ◌++◌, All, Option, Some, None, Result, Ok, Err, if◌then◌else◌}
use Rattle.channel_uri.specs.declared.address.Address.{Address}
use Rattle.driver_core.specs.Soundness.{AreSettings}
use Rattle.log_steps.specs.declared.answer.Answer.{Answer}
use Rattle.log_steps.specs.declared.answer.Answer.TheVariants.{BadStep}
use Rattle.driver_steps.specs.declared.step.Step.TheVariants.{Packet}
use Rattle.driver_world.specs.declared.reading.Reading.{Reading}
use Rattle.driver_world.specs.Ends.{RunEnd, opening_end, AreAnswers, IsAnswer, after, end_of}
use Rattle.driver_world.specs.Views.{newest_of}
use Rattle.log_pairs.specs.Polling.{Fetched}
use Rattle.two_drivers.specs.Line.{IsRunOf}
use Rattle.term_log.specs.declared.ident.Ident.{Ident}
use Rattle.term_log.specs.Frames.{Frame, IsRun as AreSound}
use Rattle.two_drivers.specs.Drivers.{Opening, is_quiet, numbered}
use Rattle.two_drivers.specs.Polling.{Reads, polled_by}
use Rattle.two_drivers.specs.Sent.{Datagram, IsOnlyLog, sent_by}
use Rattle.two_drivers.specs.declared.pair_step.PairStep.{PairStep}
use Rattle.two_drivers.specs.declared.pair_step.PairStep.TheVariants.{A, B, Deliver}

pub record TwoEnds : Type 0 where
  pub first : RunEnd
  pub second : RunEnd
  pub sent : List Datagram

-- it comes to where it was sent, from the first one's address
abbrev pub coming : Address → ℕ → Option ℕ → Option Datagram → Option Reading
coming from now view None = None
coming from now view (Some datagram) = Some (record { view = view; step = Packet now datagram.to from datagram.bytes })

-- the step that the second takes: none by which anything comes, but for what the first sent
abbrev pub step_of_second : TwoEnds → PairStep → Option Reading
step_of_second e (A reading) = None
step_of_second e (B reading) = if is_quiet reading.step then Some reading else None
step_of_second e (Deliver sent now view) = coming e.first.driver.registry.settings.send_address now view (numbered sent e.sent)

abbrev pub IsAnswerOfSecond : TwoEnds → Option Reading → Answer → Type 0
IsAnswerOfSecond e None answer = answer ≡ BadStep
IsAnswerOfSecond e (Some reading) answer = IsAnswer e.second reading answer

abbrev pub after_second : TwoEnds → Option Reading → Answer → TwoEnds
after_second e None answer = e
after_second e (Some reading) answer = record e { second = after e.second reading answer }

abbrev pub IsAnswerToBoth : TwoEnds → PairStep → Answer → Type 0
IsAnswerToBoth e (A reading) answer = IsAnswer e.first reading answer
IsAnswerToBoth e step answer = IsAnswerOfSecond e (step_of_second e step) answer

abbrev pub after_both : TwoEnds → PairStep → Answer → TwoEnds
after_both e (A reading) answer = record e { first = after e.first reading answer; sent = e.sent ++ sent_by answer }
after_both e step answer = after_second e (step_of_second e step) answer

-- what the first sends by a step, and by a list of them, in order
abbrev pub sent_of : PairStep → Answer → List Datagram
sent_of (A reading) answer = sent_by answer
sent_of step answer = []

abbrev pub sent_of_all : List PairStep → List Answer → List Datagram
sent_of_all [] answers = []
sent_of_all (step ∷ steps) [] = []
sent_of_all (step ∷ steps) (answer ∷ answers) = sent_of step answer ++ sent_of_all steps answers

-- a datagram that was found, or the one of that number among those that are sent later
abbrev pub found_or : Result Datagram ℕ → List Datagram → Option Datagram
found_or (Ok datagram) later = Some datagram
found_or (Err left) later = numbered left later

-- the answers of a list of steps, each given where the ones before it left off; and where they leave off
abbrev pub AreAnswersOfBoth : TwoEnds → List PairStep → List Answer → Type 0
AreAnswersOfBoth e [] [] = Unit {0}
AreAnswersOfBoth e [] (answer ∷ answers) = ⊥
AreAnswersOfBoth e (step ∷ steps) [] = ⊥
AreAnswersOfBoth e (step ∷ steps) (answer ∷ answers) =
    IsAnswerToBoth e step answer × AreAnswersOfBoth (after_both e step answer) steps answers

abbrev pub end_of_both : TwoEnds → List PairStep → List Answer → TwoEnds
end_of_both e [] answers = e
end_of_both e (step ∷ steps) [] = e
end_of_both e (step ∷ steps) (answer ∷ answers) = end_of_both (after_both e step answer) steps answers

-- both as they are opened
abbrev pub opening_both : Opening → Opening → TwoEnds
opening_both first second = record {
  first = opening_end first.settings first.policy first.peers;
  second = opening_end second.settings second.policy second.peers;
  sent = [];
}

-- ---- where a run of both begins

-- the end of a run of a world, from its opening, in which no event was taken
pub record IsFresh (opening : Opening) (e : RunEnd) : Type 0 where
  pub readings : List Reading
  pub answers : List Answer
  pub are : AreAnswers (opening_end opening.settings opening.policy opening.peers) readings answers
  pub is : e ≡ end_of (opening_end opening.settings opening.policy opening.peers) readings answers
  pub none : newest_of e.past ≡ 0

-- of each of both, and nothing is sent yet
pub record AreFresh (one other : Opening) (e : TwoEnds) : Type 0 where
  pub first : IsFresh one e.first
  pub second : IsFresh other e.second
  pub sent : e.sent ≡ []

-- ---- the promise

-- at each end of a run
abbrev pub AtEach : (TwoEnds → Type 0) → TwoEnds → List PairStep → List Answer → Type 0
AtEach P e [] answers = P e
AtEach P e (step ∷ steps) [] = P e
AtEach P e (step ∷ steps) (answer ∷ answers) = P e × AtEach P (after_both e step answer) steps answers

-- the publication alone has its session and stream in the first, and these are all its frames
abbrev pub OnlyPublication : Ident → List Frame → TwoEnds → Type 0
OnlyPublication i all e = All (IsOnlyLog i all) e.first.driver.logs

-- the subscription reads the log of that source in the second, which is of the publication's stream
abbrev pub ReadsThere : Ident → ℕ → ℕ → TwoEnds → Type 0
ReadsThere i source subscription e = Reads i source subscription e.second.driver

-- what the second's polls give of a pair
abbrev pub polled_of : ℕ → ℕ → PairStep → Answer → List Fetched
polled_of source subscription (B reading) answer = polled_by source subscription reading.step answer
polled_of source subscription step answer = []

abbrev pub polled_of_all : ℕ → ℕ → List PairStep → List Answer → List Fetched
polled_of_all source subscription [] answers = []
polled_of_all source subscription (step ∷ steps) [] = []
polled_of_all source subscription (step ∷ steps) (answer ∷ answers) =
    polled_of source subscription step answer ++ polled_of_all source subscription steps answers

abbrev pub SecondWorldGivesARun : Type 0
SecondWorldGivesARun =
    (i : Ident) (all : List Frame) (first second : Opening) (before : List PairStep) (earlier : List Answer) (steps : List PairStep)
    (answers : List Answer) (source subscription : ℕ) → 0 < i.term_length → AreSound i i.start all → AreSettings second.settings →
    AreAnswersOfBoth (opening_both first second) before earlier →
    AtEach (OnlyPublication i all) (opening_both first second) before earlier →
    AreAnswersOfBoth (end_of_both (opening_both first second) before earlier) steps answers →
    AtEach (OnlyPublication i all) (end_of_both (opening_both first second) before earlier) steps answers →
    AtEach (ReadsThere i source subscription) (end_of_both (opening_both first second) before earlier) steps answers →
    IsRunOf i all (polled_of_all source subscription steps answers)
