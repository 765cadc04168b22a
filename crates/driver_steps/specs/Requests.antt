-- What a datagram does at the end of a run, by what is asked of it. Own rules.
use Rattle.std.specs.Prelude.{ℕ, List, ◌∷◌, Option, None, Result, Ok, Err}
use Rattle.channel_uri.specs.declared.address.Address.{Address}
use Rattle.driver_core.specs.declared.asked.image_request.Astray.{Astray}
use Rattle.driver_core.specs.State.{State}
use Rattle.log_steps.specs.declared.cause.Cause.TheVariants.{Astray as IsAstray}
use Rattle.log_steps.specs.declared.packets.PacketRequest.{PacketRequest}
use Rattle.driver_steps.specs.EndDecisions.{DecidesUnless, decision_in}
use Rattle.driver_steps.specs.Ends.{RunEnd, Moved, dropped, image_between, log_at, on_log}
use Rattle.log_steps.specs.Held.{HeldLog}
use Rattle.driver_steps.specs.OpenLogs.{HeldLogs, IsForFirst}
use Rattle.log_steps.specs.Receiving.{unheard}
use Rattle.log_steps.specs.declared.answer.Answer.{Answer}
use Rattle.frame_codec.specs.declared.header.TermPlace.{TermPlace}
use Rattle.frame_codec.specs.Datagram.{Content, frames, beat, setup}
use Rattle.policy_core.specs.declared.decision.Decision.{Decision}
use Rattle.log_steps.specs.Packets.{content_move, of_image, packet_request}

-- ---- which log it is for, by a registry, and what the policy decides of it

-- an image that the newest registry has no more has no log
abbrev pub of_stream_by : State → State → Address → Address → TermPlace → Result PacketRequest Astray
of_stream_by s newest local from place = of_image (image_between s newest local from place)

abbrev pub request_by : State → State → Address → Address → Content → Result PacketRequest Astray
request_by s newest local from (frames (frame ∷ later)) = of_stream_by s newest local from frame.header.place
request_by s newest local from (beat header) = of_stream_by s newest local from header.place
request_by s newest local from content = packet_request s local from content

-- ---- on the open logs

abbrev pub IsForRequest : List HeldLog → Result PacketRequest Astray → Content → Type 0
IsForRequest logs (Err why) content = Unit {0}
IsForRequest logs (Ok request) content = IsForFirst logs request.source content

abbrev pub on_request : RunEnd → ℕ → Address → Content → Result PacketRequest Astray → Moved
on_request e now from content (Err why) = dropped e (IsAstray why)
on_request e now from content (Ok request) = on_log e request.source (content_move now from request.decision content) unheard

-- what was decided of it is reported where its log is open
abbrev pub request_decided : RunEnd → Result PacketRequest Astray → Option Decision
request_decided e (Err why) = None
request_decided e (Ok request) = decision_in (log_at e.logs request.source) (λ log. request.decision)

-- for each end that the logs stand for, whichever registry is the newest
pub record LogsDecide (old : HeldLogs) (what : RunEnd → Option Decision) (answer : Answer) (decision : Option Decision) : Type 0 where
  pub on : (s : State) → DecidesUnless (record { registry = s; logs = old.logs }) what answer decision

-- it is no SETUP
abbrev pub IsOpenContent : Content → Type 0
IsOpenContent (setup fields) = ⊥
IsOpenContent content = Unit {0}
