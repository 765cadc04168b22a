-- A datagram goes to the log that it is for, as it is said of datagrams at the end of a run.
use Rattle.std.proofs.Common.{◌≡◌, ℕ, List, [], ◌∷◌, Option, Some, None, Result, Ok, Err, refl, sym, ap, subst, ◌∙◌}
use Rattle.std.specs.Prelude.{IfSome}
use Rattle.channel_uri.specs.declared.address.Address.{Address}
use Rattle.driver_core.specs.declared.asked.image_request.Astray.{Astray}
use Rattle.driver_core.specs.declared.asked.log_request.LogRequest.{LogRequest}
use Rattle.driver_core.specs.declared.asked.publication_request.JoinRequest.{JoinRequest}
use Rattle.driver_core.specs.ImageRequests.{image_for, image_named}
use Rattle.driver_core.specs.PublicationRequests.{joining_of, resending_of}
use Rattle.driver_core.specs.State.{State}
use Rattle.log_steps.specs.declared.answer.Answer.{Answer}
use Rattle.log_steps.specs.declared.packets.PacketRequest.{PacketRequest}
use Rattle.driver_steps.specs.declared.step.Step.TheVariants.{Packet}
use Rattle.log_steps.specs.declared.answered.Came.TheVariants.{Answered as CameAnswered}
use Rattle.log_steps.specs.declared.answered.Answered.{Answered}
use Rattle.driver_steps.specs.Coming.{Comes, ComesAs, content_decided}
use Rattle.driver_steps.specs.OpenLogs.{DecidesFirst, HeldLogs, held_at, MovesFirst}
use Rattle.driver_steps.specs.EndDecisions.{asked_decision, DecidesUnless, decision_in, told_decision, under}
use Rattle.driver_steps.specs.Ends.{image_between, image_by, is_same_image, log_at, on_asked, on_image, on_log, on_packet, on_told, RunEnd}
use Rattle.log_steps.specs.Held.{HeldLog}
use Rattle.log_steps.specs.Memory.{is_listed}
use Rattle.driver_steps.specs.StepMemory.{packet_takes}
use Rattle.log_steps.specs.Moves.{Move, WholeLog}
use Rattle.driver_steps.specs.Requests.{IsForRequest, IsOpenContent, LogsDecide, on_request, request_decided, request_by}
use Rattle.log_steps.specs.Packets.{IsSoundContent, content_move, of_asked, of_image, of_told}
use Rattle.log_steps.specs.Receiving.{beat_move, receive_move, unheard}
use Rattle.driver_steps.specs.Standing.{Held, Match, Serves, ServesAs}
use Rattle.driver_steps.proofs.EndDecisionLemmas.{decided_first}
use Rattle.driver_steps.proofs.ImageLemmas.{are_for_first}
use Rattle.driver_steps.proofs.RunLemmas.{IsTold, asked_told, first_told, heard_told, told_unless}
use Rattle.log_steps.proofs.HearingLemmas.{status_told}
use Rattle.driver_steps.proofs.ServingLemmas.{there_now}
use Rattle.frame_codec.specs.declared.fault.BadPacket.{BadPacket}
use Rattle.frame_codec.specs.declared.header.TermPlace.{TermPlace}
use Rattle.frame_codec.specs.declared.nak.Nak.{Nak}
use Rattle.frame_codec.specs.declared.status_message.StatusMessage.{StatusMessage}
use Rattle.frame_codec.specs.declared.datagram.Packet.{Packet as FramePacket}
use Rattle.frame_codec.specs.Datagram.{Content, content, frames, beat, nak, status, setup, packet_of}
use Rattle.frame_codec.specs.Steps.{Equals}
use Rattle.frame_codec.specs.Frame.{Sent}
use Rattle.frame_codec.specs.Sound.{AreOfOneTerm, AreTold}
use Rattle.log_traffic.specs.Asking.{nak_reply, status_answer}
use Rattle.policy_core.specs.declared.decision.Decision.{Decision}

-- ---- what it does, at an end

pub image_goes : (e : RunEnd) (now : ℕ) (from : Address) (content : Content) (move : WholeLog → Move) (found : Result ℕ Astray) →
    ((log : WholeLog) → content_move now from None content log ≡ move log) → content_move now from None content ≡ move →
    on_request e now from content (of_image found) ≡ on_image e move found
image_goes e now from content move (Ok source) each same = ap (λ (m : WholeLog → Move). on_log e source m unheard) same
image_goes e now from content move (Err why) each same = refl

asked_goes : (e : RunEnd) (now : ℕ) (from : Address) (fields : Nak) (request : Option LogRequest) →
    on_request e now from (nak fields) (of_asked request) ≡ on_asked e now from fields request
asked_goes e now from fields None = refl
asked_goes e now from fields (Some request) = refl

told_goes : (e : RunEnd) (now : ℕ) (from : Address) (fields : StatusMessage) (request : Option JoinRequest) →
    on_request e now from (status fields) (of_told request) ≡ on_told e now from fields request
told_goes e now from fields None = refl
told_goes e now from fields (Some request) = refl

-- by that registry, where the newest is the end's
pub packet_goes : (shown s : State) (e : RunEnd) (now : ℕ) (local from : Address) (content : Content) → IsOpenContent content →
    s ≡ e.registry → on_request e now from content (request_by shown s local from content) ≡ on_packet shown e now local from (Ok content)
packet_goes shown s e now local from (frames []) other same = refl
packet_goes shown s e now local from (frames (frame ∷ later)) other same =
    rw same
    (image_goes e now from (frames (frame ∷ later)) (receive_move now (frame ∷ later)) (image_by shown e local from frame.header.place)
    (λ log. refl) refl)
packet_goes shown s e now local from (beat header) other same =
    rw same (image_goes e now from (beat header) (beat_move now header.place) (image_by shown e local from header.place) (λ log. refl) refl)
packet_goes shown s e now local from (setup fields) other same = absurd other
packet_goes shown s e now local from (nak fields) other same =
    asked_goes e now from fields (resending_of shown from fields.session_id fields.stream_id)
packet_goes shown s e now local from (status fields) other same =
    told_goes e now from fields (joining_of shown from fields.session_id fields.stream_id)

-- ---- what is decided of it, at an end

none_in : (there : Option WholeLog) → decision_in there (λ log. let d : Option Decision = None in d) ≡ None
none_in None = refl
none_in (Some log) = refl

image_undecided : (e : RunEnd) (found : Result ℕ Astray) → request_decided e (of_image found) ≡ None
image_undecided e (Ok source) = none_in (log_at e.logs source)
image_undecided e (Err why) = refl

told_decided : (e : RunEnd) (request : Option JoinRequest) → request_decided e (of_told request) ≡ told_decision e request
told_decided e None = refl
told_decided e (Some request) = refl

asked_decided : (e : RunEnd) (request : Option LogRequest) → request_decided e (of_asked request) ≡ asked_decision e request
asked_decided e None = refl
asked_decided e (Some request) = refl

-- whichever is the newest
pub request_decides : (newest : State) (e : RunEnd) (local from : Address) (content : Content) →
    request_decided e (request_by e.registry newest local from content) ≡ content_decided e from (Ok content)
request_decides newest e local from (frames []) = refl
request_decides newest e local from (frames (frame ∷ later)) = image_undecided e _
request_decides newest e local from (beat header) = image_undecided e _
request_decides newest e local from (setup fields) = refl
request_decides newest e local from (nak fields) = asked_decided e (resending_of e.registry from fields.session_id fields.stream_id)
request_decides newest e local from (status fields) = told_decided e (joining_of e.registry from fields.session_id fields.stream_id)

-- ---- a driver

pub decides_by : (shown s : State) (logs : HeldLogs) (local from : Address) (content : Content) (answer : Answer) (decision : Option Decision) →
    LogsDecide logs (λ e. request_decided e (request_by shown s local from content)) answer decision →
    DecidesUnless (record { registry = shown; logs = logs.logs }) (λ e. content_decided e from (Ok content)) answer decision
decides_by shown s logs local from content answer decision decides = record {
  on = λ e stands.
      rw (← request_decides s e local from content, ← stands.registry) ((decides.on shown).on e stands);
}

-- ---- what it is answered is no want of memory

pub content_told : (now : ℕ) (from : Address) (decision : Option Decision) (content : Content) (log : WholeLog) →
    IsTold (content_move now from decision content log).answer
content_told now from decision (frames sent) log = tt
content_told now from decision (beat header) log = tt
content_told now from decision (setup fields) log = tt
content_told now from None (nak fields) log = tt
content_told now from (Some decision) (nak fields) log = asked_told from (nak_reply decision now fields log.recovery.gate log.whole)
content_told now from decision (status fields) log =
    status_told IsTold now from decision fields log (λ cause. tt) (heard_told (status_answer fields log.whole))

-- the decision is told where the log is other
pub first_decides : (old new : HeldLogs) (now : ℕ) (from : Address) (content : Content) (request : PacketRequest) (answer : Answer)
    (decision : Option Decision) → DecidesFirst request.source (λ log. request.decision) decision old →
    MovesFirst request.source (content_move now from request.decision content) unheard old new answer →
    LogsDecide old (λ e. let r : Result PacketRequest Astray = Ok request in request_decided e r) answer decision
first_decides old new now from content request answer decision decides moves = record {
  on = λ s. record {
    on = λ e stands.
        let is_told : IsTold answer =
        first_told e old new request.source (content_move now from request.decision content) unheard answer tt
        (content_told now from request.decision content) stands.logs moves in
        rw (told_unless answer (decision_in (log_at e.logs request.source) (λ log. request.decision)) is_told)
        (decided_first e request.source (λ log. request.decision) decision old stands.logs decides);
  };
}

-- ---- the frames may be handed to the log

request_frames : (s : State) (held : HeldLogs) (local from : Address) (frame : Sent) (later : List Sent) (found : Result ℕ Astray) →
    Match s held → ((source : ℕ) → found ≡ Ok source → image_for s local from frame.header.place.session_id frame.header.place.stream_id ≡ Ok source) →
    AreTold (frame ∷ later) → AreOfOneTerm (frame ∷ later) → IsForRequest held.logs (of_image found) (frames (frame ∷ later))
request_frames s held local from frame later (Ok source) match is told one =
    are_for_first s held local from (frame ∷ later) later frame source match refl (is source refl) told one
request_frames s held local from frame later (Err why) match is told one = tt

any_log : (held : Option HeldLog) → IfSome held (λ one. Unit {0})
any_log None = tt
any_log (Some held) = tt

image_any : (logs : List HeldLog) (header : _) (found : Result ℕ Astray) → IsForRequest logs (of_image found) (beat header)
image_any logs header (Ok source) = any_log (held_at logs source)
image_any logs header (Err why) = tt

asked_any : (logs : List HeldLog) (fields : Nak) (request : Option LogRequest) → IsForRequest logs (of_asked request) (nak fields)
asked_any logs fields None = tt
asked_any logs fields (Some request) = any_log (held_at logs request.source)

told_any : (logs : List HeldLog) (fields : StatusMessage) (request : Option JoinRequest) →
    IsForRequest logs (of_told request) (status fields)
told_any logs fields None = tt
told_any logs fields (Some request) = any_log (held_at logs request.source)

pub is_for_request : (shown s : State) (held : HeldLogs) (local from : Address) (content : Content) → Match s held → IsSoundContent content →
    IsForRequest held.logs (request_by shown s local from content) content
is_for_request shown s held local from (frames []) match sound = tt
is_for_request shown s held local from (frames (frame ∷ later)) match sound =
    let place : TermPlace = frame.header.place in
    request_frames s held local from frame later
    (image_between shown s local from place) match
    (there_now (is_same_image (image_named shown local place.session_id place.stream_id) (image_named s local place.session_id place.stream_id))
    (image_for shown local from place.session_id place.stream_id) (image_for s local from place.session_id place.stream_id)) sound.0 sound.1
is_for_request shown s held local from (beat header) match sound = image_any held.logs header _
is_for_request shown s held local from (setup fields) match sound = tt
is_for_request shown s held local from (nak fields) match sound = asked_any held.logs fields (resending_of shown from fields.session_id fields.stream_id)
is_for_request shown s held local from (status fields) match sound = told_any held.logs fields (joining_of shown from fields.session_id fields.stream_id)

-- ---- what a datagram comes to that is no SETUP

takes_listed : (answer : Answer) (content : Content) → IsOpenContent content →
    (let read : Result Content BadPacket = Ok content in packet_takes answer read) ≡ is_listed answer
takes_listed answer (frames sent) other = refl
takes_listed answer (beat header) other = refl
takes_listed answer (setup fields) other = absurd other
takes_listed answer (nak fields) other = refl
takes_listed answer (status fields) other = refl

comes_as : (shown : State) (old new : Held) (now : ℕ) (local from : Address) (bytes : List ℕ) (content : Content) (told : Answered) → IsOpenContent content →
    Serves shown old new (Packet now local from bytes) told.answer →
    DecidesUnless (under old shown) (λ e. content_decided e from (Ok content)) told.answer told.decision →
    ComesAs shown old new now local from bytes (Ok content) (CameAnswered told)
comes_as shown old new now local from bytes (frames sent) told other serves decides = (serves, decides)
comes_as shown old new now local from bytes (beat header) told other serves decides = (serves, decides)
comes_as shown old new now local from bytes (setup fields) told other serves decides = absurd other
comes_as shown old new now local from bytes (nak fields) told other serves decides = (serves, decides)
comes_as shown old new now local from bytes (status fields) told other serves decides = (serves, decides)

pub comes_told : (shown : State) (old new : Held) (now : ℕ) (local from : Address) (bytes : List ℕ) (content : Content) (told : Answered) →
    IsOpenContent content → packet_of bytes ≡ Ok content → ServesAs old new (λ e. on_packet shown e now local from (Ok content)) told.answer →
    DecidesUnless (under old shown) (λ e. content_decided e from (Ok content)) told.answer told.decision →
    Comes shown old new now local from bytes (CameAnswered told)
comes_told shown old new now local from bytes content told other is serves decides =
    let all : Serves shown old new (Packet now local from bytes) told.answer = record {
      on = λ e stands. rw is (serves.on e stands);
      without_memory = λ e stands.
          rw (is, takes_listed (on_packet shown e now local from (Ok content)).answer content other) (serves.without_memory e stands);
    } in
    subst (λ (read : Result Content BadPacket). ComesAs shown old new now local from bytes read (CameAnswered told)) (sym is)
    (comes_as shown old new now local from bytes content told other all decides)

-- as it was read
pub read_as : (bytes : List ℕ) (packet : FramePacket) (read : Result FramePacket BadPacket) → Equals content read (packet_of bytes) → read ≡ Ok packet →
    packet_of bytes ≡ Ok (content packet)
read_as bytes packet (Ok other) equals is =
    let same : other ≡ packet = cc in
    equals ∙ ap (λ (p : FramePacket). let r : Result Content BadPacket = Ok (content p) in r) same
read_as bytes packet (Err fault) equals is = absurd (cc is)
