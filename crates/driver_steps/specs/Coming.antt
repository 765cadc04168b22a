-- What a datagram comes to: a SETUP is an event, and any other is answered.
use Rattle.std.specs.Prelude.{◌≡◌, ℕ, List, Option, None, Result, Ok}
use Rattle.channel_uri.specs.declared.address.Address.{Address}
use Rattle.driver_core.specs.State.{State}
use Rattle.driver_steps.specs.declared.step.Step.TheVariants.{Packet}
use Rattle.log_steps.specs.declared.answered.Came.{Came}
use Rattle.log_steps.specs.declared.answered.Came.TheVariants.{Answered as CameAnswered, SetUp}
use Rattle.driver_steps.specs.EndDecisions.{DecidesUnless, nak_decided, status_decided, under}
use Rattle.driver_steps.specs.Ends.{RunEnd}
use Rattle.driver_steps.specs.Standing.{Held, Serves}
use Rattle.frame_codec.specs.declared.fault.BadPacket.{BadPacket}
use Rattle.frame_codec.specs.Datagram.{Content, nak, setup, status, packet_of}
use Rattle.policy_core.specs.declared.decision.Decision.{Decision}

-- what is decided of a datagram, at the end of a run: a NAK's, and a status message's
abbrev pub content_decided : RunEnd → Address → Result Content BadPacket → Option Decision
content_decided e from (Ok (nak fields)) = nak_decided e from fields
content_decided e from (Ok (status fields)) = status_decided e from fields
content_decided e from read = None

-- where it goes by that registry: a SETUP is handed back, and nothing is changed
abbrev pub ComesAs : State → Held → Held → ℕ → Address → Address → List ℕ → Result Content BadPacket → Came → Type 0
ComesAs s old new now local from bytes (Ok (setup fields)) came = (came ≡ SetUp fields) × (new ≡ old)
ComesAs s old new now local from bytes read (SetUp fields) = ⊥
ComesAs s old new now local from bytes read (CameAnswered told) =
    Serves s old new (Packet now local from bytes) told.answer
    × DecidesUnless (under old s) (λ e. content_decided e from read) told.answer told.decision

abbrev pub Comes : State → Held → Held → ℕ → Address → Address → List ℕ → Came → Type 0
Comes s old new now local from bytes came = ComesAs s old new now local from bytes (packet_of bytes) came
