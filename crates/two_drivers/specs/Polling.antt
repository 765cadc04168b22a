-- What the polls of one pair give, from its coming to its going. Own rules.
use Rattle.std.specs.Prelude.{◌≡◌, ℕ, ◌<◌, ◌==◌, ◌&&◌, List, [], ◌∷◌, ◌++◌, Some, if◌then◌else◌}
use Rattle.log_traffic.specs.Whole.{rebuilt}
use Rattle.driver_core.specs.declared.state.peer.Peer.{Peer}
use Rattle.driver_core.specs.declared.state.settings.Settings.{Settings}
use Rattle.driver_core.specs.Soundness.{AreSettings}
use Rattle.log_steps.specs.declared.answer.Answer.{Answer}
use Rattle.log_steps.specs.declared.answer.Answer.TheVariants.{Polled}
use Rattle.driver_steps.specs.declared.step.Step.{Step}
use Rattle.driver_steps.specs.declared.step.Step.TheVariants.{Poll}
use Rattle.driver_steps.specs.Ends.{RunEnd, log_at, opening_end}
use Rattle.log_steps.specs.Moves.{WholeLog}
use Rattle.driver_steps.specs.Runs.{Reading, AreAnswers, end_of, left_by}
use Rattle.image_log.specs.Frame.{Frame as Kept}
use Rattle.image_log.specs.Rebuilt.{Rebuilt}
use Rattle.log_pairs.specs.Pairs.{position_of}
use Rattle.log_pairs.specs.Polling.{Fetched}
use Rattle.two_drivers.specs.Line.{IsLine, IsRunTo, stream_of}
use Rattle.policy_core.specs.RuleList.{Rules}
use Rattle.term_log.specs.declared.ident.Ident.{Ident}
use Rattle.two_drivers.specs.Given.{AreGood}

-- what a poll of that log by that subscription gives, whoever asks and by whichever registry
abbrev pub polled_by : ℕ → ℕ → Step → Answer → List Fetched
polled_by source subscription (Poll now client number log limit) (Polled fragments) =
    if log == source && number == subscription then fragments else []
polled_by source subscription step answer = []

-- and all of them in a run, in order
abbrev pub polled_in : ℕ → ℕ → List Reading → List Answer → List Fetched
polled_in source subscription [] answers = []
polled_in source subscription (reading ∷ readings) [] = []
polled_in source subscription (reading ∷ readings) (answer ∷ answers) =
    polled_by source subscription reading.step answer ++ polled_in source subscription readings answers

-- the log of that source is open there, is of the publication's stream, and the subscription reads it
pub record Reads (i : Ident) (source subscription : ℕ) (e : RunEnd) : Type 0 where
  pub log : WholeLog
  pub r : Rebuilt
  pub at : ℕ
  pub live : log_at e.logs source ≡ Some log
  pub whole_is : log.whole ≡ rebuilt r
  pub ident_is : r.ident ≡ stream_of i
  pub stands : position_of r.pairs subscription ≡ Some at

-- at each end of a run
abbrev pub ReadsOn : Ident → ℕ → ℕ → RunEnd → List Reading → List Answer → Type 0
ReadsOn i source subscription e [] answers = Reads i source subscription e
ReadsOn i source subscription e (reading ∷ readings) [] = Reads i source subscription e
ReadsOn i source subscription e (reading ∷ readings) (answer ∷ answers) =
    Reads i source subscription e × ReadsOn i source subscription (left_by e reading answer) readings answers

pub record IsRun (line : List Kept) (given : List Fetched) : Type 0 where
  pub at : ℕ
  pub is : IsRunTo line at given

-- Whatever was lost, came twice or in another order: while the pair is there, what polls give is a contiguous run.
abbrev pub PollsGiveARun : Type 0
PollsGiveARun =
    (i : Ident) (start : ℕ) (line : List Kept) (settings : Settings) (policy : Rules) (peers : List Peer)
    (before : List Reading) (earlier : List Answer) (readings : List Reading) (answers : List Answer) (source subscription : ℕ) →
    0 < i.term_length → IsLine i.term_length start line → AreSettings settings → AreGood i line before → AreGood i line readings →
    AreAnswers (opening_end settings policy peers) before earlier →
    AreAnswers (end_of (opening_end settings policy peers) before earlier) readings answers →
    ReadsOn i source subscription (end_of (opening_end settings policy peers) before earlier) readings answers →
    IsRun line (polled_in source subscription readings answers)
