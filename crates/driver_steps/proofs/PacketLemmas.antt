-- What a datagram comes to.
use Rattle.std.proofs.Common.{◌≡◌, ℕ, List, [], ◌∷◌, map, Option, Some, None, Result, Ok, Err, refl, ap}
use Rattle.log_traffic.specs.Held.{for_stream}
use Rattle.log_traffic.specs.Whole.{AnyWhole, whole, rebuilt, beaten, made_for as made_any, readers_in, received}
use Rattle.driver_core.specs.declared.state.event.Event.TheVariants.{Setup as SetUp}
use Rattle.driver_core.specs.declared.asked.image_request.Astray.{Astray}
use Rattle.driver_core.specs.declared.asked.image_request.Astray.TheVariants.{NoStream}
use Rattle.driver_core.specs.declared.asked.log_request.LogRequest.{LogRequest}
use Rattle.driver_core.specs.declared.asked.publication_request.JoinRequest.{JoinRequest}
use Rattle.driver_core.specs.PublicationRequests.{joining_of, resending_of}
use Rattle.log_steps.specs.declared.cause.Cause.{Cause}
use Rattle.log_steps.specs.declared.cause.Cause.TheVariants.{Astray as IsAstray, Unread}
use Rattle.driver_core.specs.State.{State}
use Rattle.driver_steps.specs.Ends.{conducted, dropped, image_by, Moved, on_asked, on_image, on_log, on_packet, on_told, RunEnd}
use Rattle.log_steps.specs.Hearing.{nak_move, status_move}
use Rattle.log_steps.specs.Moves.{WholeLog, Move}
use Rattle.driver_steps.proofs.QuietLemmas.{IsQuiet, nak_quiet, status_quiet}
use Rattle.log_steps.specs.Receiving.{beat_move, receive_move, unheard}
use Rattle.channel_uri.specs.declared.address.Address.{Address}
use Rattle.frame_codec.specs.declared.fault.BadPacket.{BadPacket}
use Rattle.frame_codec.specs.declared.header.TermPlace.{TermPlace}
use Rattle.frame_codec.specs.declared.nak.Nak.{Nak}
use Rattle.frame_codec.specs.declared.setup.Setup.{Setup}
use Rattle.frame_codec.specs.declared.status_message.StatusMessage.{StatusMessage}
use Rattle.frame_codec.specs.Datagram.{Content, frames, beat, nak, status, setup}
use Rattle.frame_codec.specs.Frame.{Sent}
use Rattle.image_log.specs.Rebuilt.{Rebuilt, after_insert}
use Rattle.log_pairs.specs.declared.pair.Pair.{Pair}
use Rattle.log_traffic.specs.Receiving.{after_beat, after_data, after_frame, after_frames}

-- ---- one of these

-- what has to be shown of each
pub record PacketCases (P : Moved → Type 0) (e : RunEnd) (now : ℕ) (local from : Address) : Type 0 where
  pub drops : (cause : Cause) → P (dropped e cause)
  pub receives : (source : ℕ) (sent : List Sent) → P (on_log e source (receive_move now sent) unheard)
  pub hears : (source : ℕ) (place : TermPlace) → P (on_log e source (beat_move now place) unheard)
  pub asks : (source : ℕ) (move : WholeLog → Move) → IsQuiet move → P (on_log e source move unheard)
  pub sets_up : (fields : Setup) → P (conducted e (SetUp now local from fields))

image_cases : (P : Moved → Type 0) (e : RunEnd) (move : WholeLog → Move) →
    ((source : ℕ) → P (on_log e source move unheard)) → ((cause : Cause) → P (dropped e cause)) → (found : Result ℕ Astray) →
    P (on_image e move found)
image_cases P e move moves drops (Ok source) = moves source
image_cases P e move moves drops (Err why) = drops (IsAstray why)

pub asked_cases : (P : Moved → Type 0) (e : RunEnd) (now : ℕ) (from : Address) (fields : Nak) →
    ((source : ℕ) (move : WholeLog → Move) → IsQuiet move → P (on_log e source move unheard)) →
    ((cause : Cause) → P (dropped e cause)) → (request : Option LogRequest) → P (on_asked e now from fields request)
asked_cases P e now from fields asks drops None = drops (IsAstray NoStream)
asked_cases P e now from fields asks drops (Some request) =
    asks request.source (nak_move now from request.decision fields) (nak_quiet now from request.decision fields)

pub told_cases : (P : Moved → Type 0) (e : RunEnd) (now : ℕ) (from : Address) (fields : StatusMessage) →
    ((source : ℕ) (move : WholeLog → Move) → IsQuiet move → P (on_log e source move unheard)) →
    ((cause : Cause) → P (dropped e cause)) → (request : Option JoinRequest) → P (on_told e now from fields request)
told_cases P e now from fields asks drops None = drops (IsAstray NoStream)
told_cases P e now from fields asks drops (Some request) =
    asks request.source (status_move now from request.decision fields) (status_quiet now from request.decision fields)

pub packet_cases : (P : Moved → Type 0) (s : State) (e : RunEnd) (now : ℕ) (local from : Address) → PacketCases P e now local from →
    (read : Result Content BadPacket) → P (on_packet s e now local from read)
packet_cases P s e now local from cases (Err fault) = cases.drops (Unread fault)
packet_cases P s e now local from cases (Ok (frames [])) = cases.drops (IsAstray NoStream)
packet_cases P s e now local from cases (Ok (frames (frame ∷ later))) =
    image_cases P e (receive_move now (frame ∷ later)) (λ source. cases.receives source (frame ∷ later)) cases.drops
    (image_by s e local from frame.header.place)
packet_cases P s e now local from cases (Ok (beat header)) =
    image_cases P e (beat_move now header.place) (λ source. cases.hears source header.place) cases.drops
    (image_by s e local from header.place)
packet_cases P s e now local from cases (Ok (setup fields)) = cases.sets_up fields
packet_cases P s e now local from cases (Ok (nak fields)) =
    asked_cases P e now from fields cases.asks cases.drops (resending_of s from fields.session_id fields.stream_id)
packet_cases P s e now local from cases (Ok (status fields)) =
    told_cases P e now from fields cases.asks cases.drops (joining_of s from fields.session_id fields.stream_id)

-- ---- a log is made for the same then, and the same read it

pub frames_ident : (r : Rebuilt) (sent : List Sent) → (after_frames r sent).ident ≡ r.ident
unfolding after_frame after_insert
frames_ident r [] = refl
frames_ident r (frame ∷ later) = frames_ident (after_frame r frame) later

pub frames_pairs : (r : Rebuilt) (sent : List Sent) → (after_frames r sent).pairs ≡ r.pairs
unfolding after_frame after_insert
frames_pairs r [] = refl
frames_pairs r (frame ∷ later) = frames_pairs (after_frame r frame) later

pub received_made : (now : ℕ) (sent : List Sent) (w : AnyWhole) → made_any (received now sent w) ≡ made_any w
unfolding after_data
received_made now sent (whole w) = refl
received_made now sent (rebuilt r) = ap (λ ident. for_stream ident) (frames_ident r sent)

pub received_readers : (now : ℕ) (sent : List Sent) (w : AnyWhole) → readers_in (received now sent w) ≡ readers_in w
unfolding after_data
received_readers now sent (whole w) = refl
received_readers now sent (rebuilt r) = ap (λ pairs. map (λ (pair : Pair). pair.subscription) pairs) (frames_pairs r sent)

pub beaten_made : (now : ℕ) (place : TermPlace) (w : AnyWhole) → made_any (beaten now place w) ≡ made_any w
unfolding after_beat
beaten_made now place (whole w) = refl
beaten_made now place (rebuilt r) = refl

pub beaten_readers : (now : ℕ) (place : TermPlace) (w : AnyWhole) → readers_in (beaten now place w) ≡ readers_in w
unfolding after_beat
beaten_readers now place (whole w) = refl
beaten_readers now place (rebuilt r) = refl
