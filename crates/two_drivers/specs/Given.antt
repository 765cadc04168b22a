-- A driver to which nothing comes of a stream but what one publication sent. Own rules.
use Rattle.std.specs.Prelude.{◌≡◌, ℕ, ◌<◌, List, [], ◌∷◌, All, Ok}
use Rattle.log_traffic.specs.Whole.{AnyWhole, whole, rebuilt}
use Rattle.driver_core.specs.declared.state.event.Event.{Event}
use Rattle.driver_core.specs.declared.state.event.Event.TheVariants.{Setup as SetUp}
use Rattle.driver_core.specs.declared.state.peer.Peer.{Peer}
use Rattle.driver_core.specs.declared.state.settings.Settings.{Settings}
use Rattle.driver_core.specs.Soundness.{AreSettings}
use Rattle.log_steps.specs.declared.answer.Answer.{Answer}
use Rattle.driver_steps.specs.declared.step.Step.{Step}
use Rattle.driver_steps.specs.declared.step.Step.TheVariants.{Conductor, Packet}
use Rattle.driver_steps.specs.Ends.{opening_end}
use Rattle.log_steps.specs.Moves.{WholeLog}
use Rattle.driver_steps.specs.Runs.{Reading, AreAnswers, end_of}
use Rattle.frame_codec.specs.declared.setup.Setup.{Setup}
use Rattle.frame_codec.specs.Datagram as contents
use Rattle.frame_codec.specs.Datagram.{packet_of}
use Rattle.frame_codec.specs.Frame.{Sent}
use Rattle.image_log.specs.Frame.{Frame as Kept}
use Rattle.two_drivers.specs.Line.{IsLine, stream_of}
use Rattle.two_drivers.specs.Mirror.{Mirrors}
use Rattle.two_drivers.specs.Sending.{IsOfLine, IsSetupOf}
use Rattle.policy_core.specs.RuleList.{Rules}
use Rattle.term_log.specs.declared.ident.Ident.{Ident}

-- ---- what comes

-- the SETUP is the publication's, if it is of its session and stream
abbrev pub IsGoodSetup : Ident → Setup → Type 0
IsGoodSetup i fields = fields.session_id ≡ i.session → fields.stream_id ≡ i.stream → IsSetupOf i fields

-- so it is with whatever is read of the datagram, and each frame stands in the line
pub record IsGood (i : Ident) (line : List Kept) (bytes : List ℕ) : Type 0 where
  pub frames :
      (frame : Sent) (later : List Sent) → packet_of bytes ≡ Ok (contents.frames (frame ∷ later)) →
      frame.header.place.session_id ≡ i.session → frame.header.place.stream_id ≡ i.stream →
      All (IsOfLine (stream_of i) line) (frame ∷ later)
  pub setup : (fields : Setup) → packet_of bytes ≡ Ok (contents.setup fields) → IsGoodSetup i fields

-- a SETUP can come as an event too
abbrev pub IsGoodEvent : Ident → Event → Type 0
IsGoodEvent i (SetUp now local from fields) = IsGoodSetup i fields
IsGoodEvent i event = Unit {0}

abbrev pub IsGoodStep : Ident → List Kept → Step → Type 0
IsGoodStep i line (Packet now local from bytes) = IsGood i line bytes
IsGoodStep i line (Conductor event) = IsGoodEvent i event
IsGoodStep i line step = Unit {0}

abbrev pub AreGood : Ident → List Kept → List Reading → Type 0
AreGood i line [] = Unit {0}
AreGood i line (reading ∷ readings) = IsGoodStep i line reading.step × AreGood i line readings

-- ---- what the logs hold then

abbrev pub MirrorsIf : Ident → List Kept → AnyWhole → Type 0
MirrorsIf i line (whole w) = Unit {0}
MirrorsIf i line (rebuilt r) = r.ident ≡ stream_of i → Mirrors line r

-- a log of the publication's stream has frames of the line alone
abbrev pub MirrorsLog : Ident → List Kept → WholeLog → Type 0
MirrorsLog i line log = MirrorsIf i line log.whole

abbrev pub GoodDatagramsAreMirrored : Type 0
GoodDatagramsAreMirrored =
    (i : Ident) (start : ℕ) (line : List Kept) (settings : Settings) (policy : Rules) (peers : List Peer)
    (readings : List Reading) (answers : List Answer) →
    0 < i.term_length → IsLine i.term_length start line → AreSettings settings → AreGood i line readings →
    AreAnswers (opening_end settings policy peers) readings answers →
    All (MirrorsLog i line) (end_of (opening_end settings policy peers) readings answers).logs
