-- What a poll gives of a remote publisher's stream came in datagrams of that publisher. Own rules.
use Rattle.std.specs.Prelude.{◌≡◌, ℕ, ◌==◌, List, [], ◌∷◌, ◌++◌, map, All, Contains, drop, Option, Some, Result, Ok, Err, if◌then◌else◌}
use Rattle.log_pairs.specs.Polling.{Fetched}
use Rattle.log_traffic.specs.Whole.{rebuilt}
use Rattle.channel_uri.specs.declared.address.Address.{Address}
use Rattle.driver_core.specs.declared.asked.image_request.Astray.{Astray}
use Rattle.driver_core.specs.declared.state.peer.Peer.{Peer}
use Rattle.driver_core.specs.declared.state.settings.Settings.{Settings}
use Rattle.driver_core.specs.State.{State}
use Rattle.log_steps.specs.declared.answer.Answer.{Answer}
use Rattle.log_steps.specs.declared.answer.Answer.TheVariants.{Polled, Received}
use Rattle.driver_steps.specs.declared.step.Step.{Step}
use Rattle.driver_steps.specs.declared.step.Step.TheVariants.{Packet, Poll}
use Rattle.driver_steps.specs.Ends.{image_by, log_at, opening_end, RunEnd}
use Rattle.driver_steps.specs.Runs.{Reading, AreAnswers, IsAnswerTo, end_of, left_by, read_by}
use Rattle.log_steps.specs.Moves.{WholeLog}
use Rattle.frame_codec.specs.declared.fault.BadPacket.{BadPacket}
use Rattle.frame_codec.specs.declared.flags.Flags.{Flags}
use Rattle.frame_codec.specs.Datagram.{Content, frames, packet_of}
use Rattle.frame_codec.specs.Fields.{byte_at}
use Rattle.frame_codec.specs.Frame.{Sent}
use Rattle.image_log.specs.Rebuilt.{Rebuilt}
use Rattle.policy_core.specs.RuleList.{Rules}

-- ---- what datagrams carried to an image

-- the bytes of frames that are for the image of that source: each frame's header and payload
abbrev pub carried_for : Result ℕ Astray → ℕ → List Sent → List (List ℕ)
carried_for (Ok image) source sent = if image == source then map (λ frame. frame.bytes) sent else []
carried_for (Err why) source sent = []

-- Frames of one datagram are for the image of the first one's session and stream at that endpoint, where they come from
-- its publisher's address, and it is still there.
abbrev pub carried_together : State → RunEnd → ℕ → Address → Address → List Sent → List (List ℕ)
carried_together s e source local from [] = []
carried_together s e source local from (frame ∷ later) =
    carried_for (image_by s e local from frame.header.place) source (frame ∷ later)

-- heartbeats, SETUPs, and what can't be read carry nothing
abbrev pub carried_on : State → RunEnd → ℕ → Address → Address → Result Content BadPacket → List (List ℕ)
carried_on s e source local from (Ok (frames sent)) = carried_together s e source local from sent
carried_on s e source local from read = []

-- those of a step by that registry: a datagram that was received
abbrev pub carried_by : State → RunEnd → ℕ → Step → Answer → List (List ℕ)
carried_by s e source (Packet now local from bytes) (Received words) = carried_on s e source local from (packet_of bytes)
carried_by s e source step answer = []

-- and those of a run
abbrev pub carried_in : RunEnd → ℕ → List Reading → List Answer → List (List ℕ)
carried_in e source [] answers = []
carried_in e source (reading ∷ readings) [] = []
carried_in e source (reading ∷ readings) (answer ∷ answers) =
    carried_by (read_by e reading.older) e source reading.step answer
    ++ carried_in (left_by e reading answer) source readings answers

-- ---- what a poll gives

-- the flags in a frame's header
abbrev pub flags_in : List ℕ → Flags
flags_in bytes = record { bits = byte_at 5 bytes }

-- the fragment is what one of these frames holds: its flags, and all that is after its header of 32 bytes
pub record IsCarried (carried : List (List ℕ)) (part : Fetched) : Type 0 where
  pub bytes : List ℕ
  pub there : Contains carried bytes
  pub flags_are : part.flags ≡ flags_in bytes
  pub payload_is : part.payload ≡ drop 32 bytes

-- of an image's log, after any run, whichever registry the poll goes by
abbrev pub PayloadsComeFromTheirPublisher : Type 0
PayloadsComeFromTheirPublisher =
    (settings : Settings) (policy : Rules) (peers : List Peer) (readings : List Reading) (answers : List Answer)
    (older : Option State) (now client subscription source limit : ℕ) (fragments : List Fetched) (log : WholeLog) (r : Rebuilt) →
    AreAnswers (opening_end settings policy peers) readings answers →
    log_at (end_of (opening_end settings policy peers) readings answers).logs source ≡ Some log → log.whole ≡ rebuilt r →
    IsAnswerTo (end_of (opening_end settings policy peers) readings answers)
    (record { older = older; step = Poll now client subscription source limit }) (Polled fragments) →
    All (IsCarried (carried_in (opening_end settings policy peers) source readings answers)) fragments
