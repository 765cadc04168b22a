-- The frames of a publication's log are what allowed offers put there, in their order, each once. Own rules.
use Rattle.std.specs.Prelude.{◌≡◌, ℕ, ◌==◌, ◌&&◌, List, [], ◌∷◌, ◌++◌, Option, Some, None, if◌then◌else◌}
use Rattle.driver_core.specs.declared.asked.log_request.LogRequest.{LogRequest}
use Rattle.driver_core.specs.declared.state.peer.Peer.{Peer}
use Rattle.driver_core.specs.declared.state.settings.Settings.{Settings}
use Rattle.driver_core.specs.LogRequests.{offering_of}
use Rattle.driver_core.specs.State.{State}
use Rattle.log_steps.specs.declared.answer.Answer.{Answer}
use Rattle.log_steps.specs.declared.answer.Answer.TheVariants.{Offered as OfferedAs}
use Rattle.log_steps.specs.declared.answer.Offered.TheVariants.{AdminAction, At}
use Rattle.driver_steps.specs.declared.step.Step.{Step}
use Rattle.driver_steps.specs.declared.step.Step.TheVariants.{Offer}
use Rattle.driver_steps.specs.Ends.{RunEnd, log_at, opening_end}
use Rattle.driver_steps.specs.Laws.{put_into}
use Rattle.log_steps.specs.Moves.{WholeLog}
use Rattle.driver_steps.specs.Runs.{Reading, AreAnswers, end_of, left_by, read_by}
use Rattle.log_traffic.specs.Whole.{AnyWhole, whole, rebuilt}
use Rattle.policy_core.specs.RuleList.{Rules}
use Rattle.term_log.specs.Frames.{Frame, pad}
use Rattle.term_log.specs.Log.{rest_at}
use Rattle.term_log.specs.Whole.{Whole, tail_of}

-- one pad over the rest of the term
abbrev pub pad_for : AnyWhole → List Frame
pad_for (whole frames) = pad (rest_at frames.ident (tail_of frames)) ∷ []
pad_for (rebuilt frames) = []

abbrev pub pad_in : Option WholeLog → List Frame
pad_in None = []
pad_in (Some log) = pad_for log.whole

abbrev pub padded_by : RunEnd → ℕ → Option LogRequest → List Frame
padded_by e source None = []
padded_by e source (Some request) =
    if request.source == source && request.decision.verdict.allow then pad_in (log_at e.logs source) else []

-- What a step by that registry puts into the log of a source: an offer that its policy allows, and that is answered a position,
-- the frames of its message; one that is answered that the term turned, a pad; and nothing else anything.
abbrev pub put_by : State → RunEnd → ℕ → Step → Answer → List Frame
put_by s e source (Offer now client registration message) (OfferedAs (At position)) =
    put_into e source message (offering_of s client registration)
put_by s e source (Offer now client registration message) (OfferedAs AdminAction) =
    padded_by e source (offering_of s client registration)
put_by s e source step answer = []

-- and a run, step by step
abbrev pub put_in : RunEnd → ℕ → List Reading → List Answer → List Frame
put_in e source [] answers = []
put_in e source (reading ∷ readings) [] = []
put_in e source (reading ∷ readings) (answer ∷ answers) =
    put_by (read_by e reading.older) e source reading.step answer ++ put_in (left_by e reading answer) source readings answers

-- so they are all frames of a live log
abbrev pub FramesAreWhatWasPut : Type 0
FramesAreWhatWasPut =
    (settings : Settings) (policy : Rules) (peers : List Peer) (readings : List Reading) (answers : List Answer) (source : ℕ)
    (log : WholeLog) (frames : Whole) → AreAnswers (opening_end settings policy peers) readings answers →
    log_at (end_of (opening_end settings policy peers) readings answers).logs source ≡ Some log → log.whole ≡ whole frames →
    frames.frames ≡ put_in (opening_end settings policy peers) source readings answers
