-- An image of a publication's session and stream gets the publication's numbers from its SETUP. Own rules.
use Rattle.std.specs.Prelude.{◌≡◌, ℕ, ◌<◌, List, [], ◌∷◌, All, Some}
use Rattle.log_traffic.specs.Whole.{AnyWhole, whole, rebuilt}
use Rattle.driver_core.specs.declared.state.peer.Peer.{Peer}
use Rattle.driver_core.specs.declared.state.settings.Settings.{Settings}
use Rattle.driver_core.specs.Soundness.{AreSettings}
use Rattle.log_steps.specs.declared.answer.Answer.{Answer}
use Rattle.driver_steps.specs.Ends.{RunEnd, log_at, opening_end}
use Rattle.log_steps.specs.Moves.{WholeLog}
use Rattle.driver_steps.specs.Runs.{Reading, AreAnswers, end_of}
use Rattle.image_log.specs.Frame.{Frame as Kept}
use Rattle.image_log.specs.Rebuilt.{Rebuilt}
use Rattle.log_pairs.specs.Pairs.{position_of}
use Rattle.two_drivers.specs.Line.{IsRunOf, stream_of}
use Rattle.policy_core.specs.RuleList.{Rules}
use Rattle.term_log.specs.declared.ident.Ident.{Ident}
use Rattle.term_log.specs.Frames.{Frame, IsRun as AreSound}
use Rattle.two_drivers.specs.Drivers.{ArePairAnswers, IsOnlyPublication, Opening, PairEnd, DriversStep, given_in, opening_pair, pair_after, pair_end}
use Rattle.two_drivers.specs.Given.{AreGood}

-- of that session and stream, a log has the publication's first term and term length too
abbrev pub IsNamed : Ident → AnyWhole → Type 0
IsNamed i (whole w) = Unit {0}
IsNamed i (rebuilt r) = r.ident.session_id ≡ i.session → r.ident.stream_id ≡ i.stream → r.ident ≡ stream_of i

abbrev pub ImagesAreOfTheStream : Type 0
ImagesAreOfTheStream =
    (i : Ident) (line : List Kept) (settings : Settings) (policy : Rules) (peers : List Peer) (readings : List Reading)
    (answers : List Answer) → AreSettings settings → AreGood i line readings →
    AreAnswers (opening_end settings policy peers) readings answers →
    All (λ (log : WholeLog). IsNamed i log.whole) (end_of (opening_end settings policy peers) readings answers).logs

-- ---- the promise

-- the image of that number is open, has the publication's session and stream, and the subscription reads it
pub record IsRead (i : Ident) (source subscription : ℕ) (e : RunEnd) : Type 0 where
  pub log : WholeLog
  pub r : Rebuilt
  pub at : ℕ
  pub live : log_at e.logs source ≡ Some log
  pub whole_is : log.whole ≡ rebuilt r
  pub session : r.ident.session_id ≡ i.session
  pub stream : r.ident.stream_id ≡ i.stream
  pub stands : position_of r.pairs subscription ≡ Some at

-- at each end of a run of both, from the pair's coming to its going
abbrev pub IsReadIn : Ident → ℕ → ℕ → PairEnd → List DriversStep → List Answer → Type 0
IsReadIn i source subscription e [] answers = IsRead i source subscription e.second
IsReadIn i source subscription e (step ∷ steps) [] = IsRead i source subscription e.second
IsReadIn i source subscription e (step ∷ steps) (answer ∷ answers) =
    IsRead i source subscription e.second × IsReadIn i source subscription (pair_after e step answer) steps answers

-- Whatever was lost, came twice or in another order, and whatever either policy does: what the polls of one pair of the second
-- give, from its coming to its going, are the payloads, flags and positions of a contiguous run of the frames that the first
-- appended, pads left out.
abbrev pub PollsGiveARunOfThePublication : Type 0
PollsGiveARunOfThePublication =
    (i : Ident) (all : List Frame) (first second : Opening) (before : List DriversStep) (earlier : List Answer) (steps : List DriversStep)
    (answers : List Answer) (source subscription : ℕ) → 0 < i.term_length → AreSound i i.start all → AreSettings second.settings →
    ArePairAnswers (opening_pair first second) before earlier →
    IsOnlyPublication i all (opening_pair first second) before earlier →
    ArePairAnswers (pair_end (opening_pair first second) before earlier) steps answers →
    IsOnlyPublication i all (pair_end (opening_pair first second) before earlier) steps answers →
    IsReadIn i source subscription (pair_end (opening_pair first second) before earlier) steps answers →
    IsRunOf i all (given_in source subscription steps answers)
