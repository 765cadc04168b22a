-- What a driver sends, and what is read of it. Own rules.
use Rattle.std.specs.Prelude.{◌≡◌, ℕ, List, [], ◌∷◌, ◌++◌, map, All, if◌then◌else◌}
use Rattle.log_traffic.specs.Whole.{AnyWhole, whole, rebuilt}
use Rattle.channel_uri.specs.declared.address.Address.{Address}
use Rattle.driver_core.specs.declared.state.peer.Peer.{Peer}
use Rattle.driver_core.specs.declared.asked.send_request.Outlet.{Outlet}
use Rattle.driver_core.specs.declared.state.settings.Settings.{Settings}
use Rattle.log_steps.specs.declared.answer.Answer.{Answer}
use Rattle.log_steps.specs.declared.answer.Answer.TheVariants.{Reported, Resent, Sent}
use Rattle.driver_steps.specs.Ends.{RunEnd, opening_end}
use Rattle.log_steps.specs.Moves.{WholeLog}
use Rattle.driver_steps.specs.Runs.{Reading, AreAnswers, left_by}
use Rattle.two_drivers.specs.Line.{line_of}
use Rattle.two_drivers.specs.Sending.{IsFit}
use Rattle.policy_core.specs.RuleList.{Rules}
use Rattle.term_log.specs.declared.ident.Ident.{Ident}
use Rattle.term_log.specs.Frames.{Frame}
use Rattle.term_log.specs.Whole.{Whole}
use Rattle.two_drivers.specs.Given.{IsGood}

-- ---- datagrams on their way

-- where it goes, and its bytes
pub record Datagram : Type 0 where
  pub to : Address
  pub bytes : List ℕ

-- to each destination where the verdict lets it go
abbrev pub let_to : List ℕ → List Outlet → List Datagram
let_to bytes [] = []
let_to bytes (outlet ∷ outlets) =
    if outlet.decision.verdict.allow then record { to = outlet.to; bytes = bytes } ∷ let_to bytes outlets else let_to bytes outlets

abbrev pub all_to : Address → List (List ℕ) → List Datagram
all_to to datagrams = map (λ bytes. record { to = to; bytes = bytes }) datagrams

-- what a step sends, by what it is answered
abbrev pub sent_by : Answer → List Datagram
sent_by (Sent bytes outlets) = let_to bytes outlets
sent_by (Resent to datagrams) = all_to to datagrams
sent_by (Reported to datagrams) = all_to to datagrams
sent_by answer = []

-- and a run, in order
abbrev pub sent_in : List Answer → List Datagram
sent_in [] = []
sent_in (answer ∷ answers) = sent_by answer ++ sent_in answers

-- ---- the publication

-- the log is of another stream, or it is the publication's and these are all frames that it had and comes to have
pub record IsPart (i : Ident) (all : List Frame) (w : Whole) : Type 0 where
  pub ident : w.ident ≡ i
  pub later : List Frame
  pub frames : all ≡ w.frames ++ later

abbrev pub IsOnly : Ident → List Frame → AnyWhole → Type 0
IsOnly i all (whole w) = w.ident.session ≡ i.session → w.ident.stream ≡ i.stream → IsPart i all w
IsOnly i all (rebuilt r) = Unit {0}

-- sizes and numbers are sound
abbrev pub IsFitLog : AnyWhole → Type 0
IsFitLog (whole w) = IsFit w.ident
IsFitLog (rebuilt r) = Unit {0}

pub record IsOnlyLog (i : Ident) (all : List Frame) (log : WholeLog) : Type 0 where
  pub only : IsOnly i all log.whole
  pub fit : IsFitLog log.whole

-- at each end of a run
abbrev pub IsOnlyIn : Ident → List Frame → RunEnd → List Reading → List Answer → Type 0
IsOnlyIn i all e [] answers = All (IsOnlyLog i all) e.logs
IsOnlyIn i all e (reading ∷ readings) [] = All (IsOnlyLog i all) e.logs
IsOnlyIn i all e (reading ∷ readings) (answer ∷ answers) =
    All (IsOnlyLog i all) e.logs × IsOnlyIn i all (left_by e reading answer) readings answers

-- Where one publication alone has that session and stream, whatever frames of them are read of what the driver sends are its
-- own at their positions, and so is each SETUP.
abbrev pub SentIsGood : Type 0
SentIsGood =
    (i : Ident) (all : List Frame) (settings : Settings) (policy : Rules) (peers : List Peer) (readings : List Reading)
    (answers : List Answer) → AreAnswers (opening_end settings policy peers) readings answers →
    IsOnlyIn i all (opening_end settings policy peers) readings answers →
    All (λ datagram. IsGood i (line_of i i.start all) datagram.bytes) (sent_in answers)
