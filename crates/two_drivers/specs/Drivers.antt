-- Two drivers, of which the second is given datagrams that the first sent: any of them, in any order, as often as may be. Own
-- rules.
use Rattle.std.specs.Prelude.{◌≡◌, ℕ, zero, suc, ◌<◌, Bool, true, false, List, [], ◌∷◌, ◌++◌, All, Option, Some, None, if◌then◌else◌}
use Rattle.channel_uri.specs.declared.address.Address.{Address}
use Rattle.driver_core.specs.declared.state.event.Event.TheVariants.{Setup as SetUp}
use Rattle.driver_core.specs.declared.state.peer.Peer.{Peer}
use Rattle.driver_core.specs.declared.state.settings.Settings.{Settings}
use Rattle.driver_core.specs.Soundness.{AreSettings}
use Rattle.driver_core.specs.State.{State}
use Rattle.log_steps.specs.declared.answer.Answer.{Answer}
use Rattle.log_steps.specs.declared.answer.Answer.TheVariants.{BadStep}
use Rattle.driver_steps.specs.declared.step.Step.{Step}
use Rattle.driver_steps.specs.declared.step.Step.TheVariants.{Conductor, Packet}
use Rattle.driver_steps.specs.Ends.{RunEnd, opening_end}
use Rattle.driver_steps.specs.Runs.{Reading, IsAnswerTo, left_by}
use Rattle.log_pairs.specs.Polling.{Fetched}
use Rattle.two_drivers.specs.Line.{IsRunOf}
use Rattle.policy_core.specs.RuleList.{Rules}
use Rattle.term_log.specs.declared.ident.Ident.{Ident}
use Rattle.term_log.specs.Frames.{Frame, IsRun as AreSound}
use Rattle.two_drivers.specs.Polling.{Reads, polled_by}
use Rattle.two_drivers.specs.Sent.{Datagram, IsOnlyLog, sent_by}

-- a step of the first, a step of the second, or the delivery to the second of the datagram of that number, counted from 0,
-- among those that the first sent so far, at a moment, by the registry that its actor looks at
pub data DriversStep : Type 0 where
  of_first : Reading → DriversStep
  of_second : Reading → DriversStep
  delivery : ℕ → ℕ → Option State → DriversStep

pub record PairEnd : Type 0 where
  pub first : RunEnd
  pub second : RunEnd
  pub sent : List Datagram

-- nothing comes by it: no datagram, and no SETUP as an event
abbrev pub is_quiet : Step → Bool
is_quiet (Packet now local from bytes) = false
is_quiet (Conductor (SetUp now local from fields)) = false
is_quiet step = true

abbrev pub numbered : ℕ → List Datagram → Option Datagram
numbered n [] = None
numbered zero (datagram ∷ datagrams) = Some datagram
numbered (suc n) (datagram ∷ datagrams) = numbered n datagrams

-- it comes to where it was sent, from the first one's address
abbrev pub delivered : Address → ℕ → Option State → Option Datagram → Option Reading
delivered from now older None = None
delivered from now older (Some datagram) =
    Some (record { older = older; step = Packet now datagram.to from datagram.bytes })

-- the step that the second takes
abbrev pub second_step : PairEnd → DriversStep → Option Reading
second_step e (of_first reading) = None
second_step e (of_second reading) = if is_quiet reading.step then Some reading else None
second_step e (delivery sent now older) =
    delivered e.first.registry.settings.send_address now older (numbered sent e.sent)

-- without one it is no step, and nothing is changed
abbrev pub IsSecondAnswer : PairEnd → Option Reading → Answer → Type 0
IsSecondAnswer e None answer = answer ≡ BadStep
IsSecondAnswer e (Some reading) answer = IsAnswerTo e.second reading answer

abbrev pub second_after : PairEnd → Option Reading → Answer → PairEnd
second_after e None answer = e
second_after e (Some reading) answer = record e { second = left_by e.second reading answer }

abbrev pub IsPairAnswer : PairEnd → DriversStep → Answer → Type 0
IsPairAnswer e (of_first reading) answer = IsAnswerTo e.first reading answer
IsPairAnswer e step answer = IsSecondAnswer e (second_step e step) answer

abbrev pub pair_after : PairEnd → DriversStep → Answer → PairEnd
pair_after e (of_first reading) answer =
    record e { first = left_by e.first reading answer; sent = e.sent ++ sent_by answer }
pair_after e step answer = second_after e (second_step e step) answer

abbrev pub ArePairAnswers : PairEnd → List DriversStep → List Answer → Type 0
ArePairAnswers e [] [] = Unit {0}
ArePairAnswers e [] (answer ∷ answers) = ⊥
ArePairAnswers e (step ∷ steps) [] = ⊥
ArePairAnswers e (step ∷ steps) (answer ∷ answers) =
    IsPairAnswer e step answer × ArePairAnswers (pair_after e step answer) steps answers

abbrev pub pair_end : PairEnd → List DriversStep → List Answer → PairEnd
pair_end e [] answers = e
pair_end e (step ∷ steps) [] = e
pair_end e (step ∷ steps) (answer ∷ answers) = pair_end (pair_after e step answer) steps answers

-- both drivers as they are opened
pub record Opening : Type 0 where
  pub settings : Settings
  pub policy : Rules
  pub peers : List Peer

abbrev pub opening_pair : Opening → Opening → PairEnd
opening_pair first second = record {
  first = opening_end first.settings first.policy first.peers;
  second = opening_end second.settings second.policy second.peers;
  sent = [];
}

-- ---- the promise

-- at each end of a run the publication alone has its session and stream in the first driver, and these are all its frames
abbrev pub IsOnlyPublication : Ident → List Frame → PairEnd → List DriversStep → List Answer → Type 0
IsOnlyPublication i all e [] answers = All (IsOnlyLog i all) e.first.logs
IsOnlyPublication i all e (step ∷ steps) [] = All (IsOnlyLog i all) e.first.logs
IsOnlyPublication i all e (step ∷ steps) (answer ∷ answers) =
    All (IsOnlyLog i all) e.first.logs × IsOnlyPublication i all (pair_after e step answer) steps answers

-- and at each one the subscription reads the log of that source in the second, which is of the publication's stream
abbrev pub IsThere : Ident → ℕ → ℕ → PairEnd → List DriversStep → List Answer → Type 0
IsThere i source subscription e [] answers = Reads i source subscription e.second
IsThere i source subscription e (step ∷ steps) [] = Reads i source subscription e.second
IsThere i source subscription e (step ∷ steps) (answer ∷ answers) =
    Reads i source subscription e.second × IsThere i source subscription (pair_after e step answer) steps answers

-- what the second's polls give of a pair
abbrev pub given_by : ℕ → ℕ → DriversStep → Answer → List Fetched
given_by source subscription (of_second reading) answer = polled_by source subscription reading.step answer
given_by source subscription step answer = []

abbrev pub given_in : ℕ → ℕ → List DriversStep → List Answer → List Fetched
given_in source subscription [] answers = []
given_in source subscription (step ∷ steps) [] = []
given_in source subscription (step ∷ steps) (answer ∷ answers) =
    given_by source subscription step answer ++ given_in source subscription steps answers

-- Whatever was lost, came twice or in another order, and whatever either policy does: what the polls of a pair give from its
-- coming to its going is what a contiguous run of the publication's frames carries, pads left out.
abbrev pub SecondGivesARun : Type 0
SecondGivesARun =
    (i : Ident) (all : List Frame) (first second : Opening) (before : List DriversStep) (earlier : List Answer) (steps : List DriversStep)
    (answers : List Answer) (source subscription : ℕ) → 0 < i.term_length → AreSound i i.start all → AreSettings second.settings →
    ArePairAnswers (opening_pair first second) before earlier →
    IsOnlyPublication i all (opening_pair first second) before earlier →
    ArePairAnswers (pair_end (opening_pair first second) before earlier) steps answers →
    IsOnlyPublication i all (pair_end (opening_pair first second) before earlier) steps answers →
    IsThere i source subscription (pair_end (opening_pair first second) before earlier) steps answers →
    IsRunOf i all (given_in source subscription steps answers)
