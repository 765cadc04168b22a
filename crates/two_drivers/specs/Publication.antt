-- All frames of a publication, which are those that its log had when it was last there; and the promise, of two worlds. Own
-- rules.
use Rattle.std.specs.Prelude.{◌≡◌, ℕ, true, List, [], ◌∷◌, ◌++◌, length, All, Option, Some, None}
use Rattle.log_traffic.specs.Whole.{AnyWhole, whole, rebuilt}
use Rattle.driver_core.specs.LogRequests.{has_pair}
use Rattle.driver_core.specs.Renewal.{source_at}
use Rattle.driver_core.specs.Soundness.{AreSettings}
use Rattle.driver_laws.specs.WidthLaws.{AreSettingsOf32Bits}
use Rattle.log_steps.specs.declared.answer.Answer.{Answer}
use Rattle.driver_steps.specs.Ends.{RunEnd, log_at}
use Rattle.log_steps.specs.Moves.{WholeLog}
use Rattle.two_drivers.specs.Line.{IsRunOf}
use Rattle.stream_registry.specs.Origins.{is_remote}
use Rattle.stream_registry.specs.declared.row.LogRow.{LogRow}
use Rattle.term_log.specs.declared.ident.Ident.{Ident}
use Rattle.term_log.specs.Ident.{is_udp}
use Rattle.term_log.specs.Whole.{Whole}
use Rattle.two_drivers.specs.Drivers.{Opening}
use Rattle.two_drivers.specs.Standing.{AnswerBoth, HeldBoth, StandForEnds}
use Rattle.two_drivers.specs.declared.pair_step.PairStep.{PairStep}
use Rattle.two_drivers.specs.Worlds.{AreAnswersOfBoth, AreFresh, AtEach, TwoEnds, after_both, end_of_both, polled_of_all}

-- ---- a publication by its number

abbrev pub frames_in : AnyWhole → Option Whole
frames_in (whole w) = Some w
frames_in (rebuilt r) = None

abbrev pub seen_in : Option WholeLog → Option Whole
seen_in None = None
seen_in (Some log) = frames_in log.whole

abbrev pub seen : ℕ → RunEnd → Option Whole
seen publication e = seen_in (log_at e.logs publication)

abbrev pub later_of : Option Whole → Option Whole → Option Whole
later_of earlier None = earlier
later_of earlier (Some w) = Some w

-- its log as it was when it was last there, at some ends of a driver, in order
abbrev pub last_seen : ℕ → List RunEnd → Option Whole
last_seen publication [] = None
last_seen publication (e ∷ later) = later_of (seen publication e) (last_seen publication later)

-- no other publication over datagrams has that session and stream
abbrev pub IsSoleOf : Ident → ℕ → ℕ → AnyWhole → Type 0
IsSoleOf i publication source (whole w) =
    is_udp w.ident.kind ≡ true → w.ident.session ≡ i.session → w.ident.stream ≡ i.stream → source ≡ publication
IsSoleOf i publication source (rebuilt r) = Unit {0}

abbrev pub IsSole : Ident → ℕ → WholeLog → Type 0
IsSole i publication log = IsSoleOf i publication log.source log.whole

abbrev pub AreSole : Ident → ℕ → RunEnd → Type 0
AreSole i publication e = All (IsSole i publication) e.logs

-- ---- the promise

-- the first's driver at each end of a run
abbrev pub firsts_after : TwoEnds → List PairStep → List Answer → List RunEnd
firsts_after e [] answers = []
firsts_after e (step ∷ steps) [] = []
firsts_after e (step ∷ steps) (answer ∷ answers) =
    (after_both e step answer).first.driver ∷ firsts_after (after_both e step answer) steps answers

abbrev pub firsts_in : TwoEnds → List PairStep → List Answer → List PairStep → List Answer → List RunEnd
firsts_in e before earlier steps answers =
    e.first.driver ∷ firsts_after e before earlier ++ firsts_after (end_of_both e before earlier) steps answers

-- the registry has the pair, and the log of its source is an image of the publication's session and stream
pub record IsPair (i : Ident) (source subscription : ℕ) (e : RunEnd) : Type 0 where
  pub row : LogRow
  pub live : source_at e.registry.streams.sources source ≡ Some row
  pub image : is_remote row ≡ true
  pub session : row.session ≡ i.session
  pub stream : row.stream ≡ i.stream
  pub pair : has_pair e.registry source subscription ≡ true

abbrev pub HasPair : Ident → ℕ → ℕ → TwoEnds → Type 0
HasPair i source subscription e = IsPair i source subscription e.second.driver

-- Two worlds in which no event was taken yet, and a publication of the first, where no other one over datagrams has its session
-- and stream: whatever was lost, came twice or in another order, and whatever either policy does, what the polls of one pair of
-- the second give of an image of that session and stream, from the pair's coming to its going, are the payloads, flags and
-- positions of a contiguous run of the frames that were appended to the publication, pads left out.
abbrev pub SecondGivesARunOfThePublication : Type 0
SecondGivesARunOfThePublication =
    (first second : Opening) (start : TwoEnds) (before : List PairStep) (earlier : List Answer) (steps : List PairStep)
    (answers : List Answer) (publication source subscription : ℕ) (last : Whole) → AreSettings first.settings →
    AreSettingsOf32Bits first.settings → AreSettings second.settings → AreFresh first second start →
    AreAnswersOfBoth start before earlier → AreAnswersOfBoth (end_of_both start before earlier) steps answers →
    last_seen publication (firsts_in start before earlier steps answers) ≡ Some last →
    All (AreSole last.ident publication) (firsts_in start before earlier steps answers) →
    AtEach (HasPair last.ident source subscription) (end_of_both start before earlier) steps answers →
    IsRunOf last.ident last.frames (polled_of_all source subscription steps answers)

-- The same of what `TwoWorlds::run` answers: `held` are both worlds as they are handed to it, `start` any ends that they stand for.
-- Of its steps some come before the pair does, then there are those while it is there, and then some more.
abbrev pub RunGivesARunOfThePublication : Type 0
RunGivesARunOfThePublication =
    (first second : Opening) (held : HeldBoth) (start : TwoEnds) (before : List PairStep) (earlier : List Answer)
    (steps : List PairStep) (answers : List Answer) (more : List PairStep) (others : List Answer)
    (publication source subscription : ℕ) (last : Whole) →
    AreSettings first.settings → AreSettingsOf32Bits first.settings → AreSettings second.settings →
    AreFresh first second start → StandForEnds held start →
    AnswerBoth held (before ++ (steps ++ more)) (earlier ++ (answers ++ others)) → length before ≡ length earlier →
    length steps ≡ length answers → last_seen publication (firsts_in start before earlier steps answers) ≡ Some last →
    All (AreSole last.ident publication) (firsts_in start before earlier steps answers) →
    AtEach (HasPair last.ident source subscription) (end_of_both start before earlier) steps answers →
    IsRunOf last.ident last.frames (polled_of_all source subscription steps answers)
