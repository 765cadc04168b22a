-- At the end of every run the frames of each publication's log are sound where they stand, and its sender stands where one begins.
use Rattle.std.proofs.Common.{◌≡◌, ℕ, ◌==◌, not, nat_lt, Bool, true, false, cond, List, [], ◌∷◌, length, Option, Some, None, Result, Ok, Err, refl, subst}
use Rattle.std.specs.List.{All}
use Rattle.std.proofs.lemmas.Bool.{cond_both}
use Rattle.std.proofs.lemmas.List.Elements.{All-nil}
use Rattle.log_traffic.specs.Asking.{after_status as after_hearing}
use Rattle.log_traffic.specs.Reporting.{after_report}
use Rattle.log_traffic.specs.Sending.{after_turn}
use Rattle.log_traffic.specs.Whole.{AnyWhole, whole, rebuilt, beaten, polled as any_polled, position_in, received, rejoined}
use Rattle.channel_uri.specs.declared.address.Address.{Address}
use Rattle.driver_core.specs.declared.state.event.Event.TheVariants.{Setup as SetUp}
use Rattle.driver_core.specs.declared.asked.image_request.Astray.{Astray}
use Rattle.driver_core.specs.declared.asked.log_request.LogRequest.{LogRequest}
use Rattle.driver_core.specs.declared.state.peer.Peer.{Peer}
use Rattle.driver_core.specs.declared.state.settings.Settings.{Settings}
use Rattle.driver_core.specs.LogRequests.{offering_of, receiving_of}
use Rattle.driver_core.specs.PublicationRequests.{joining_of, publisher_of, resending_of}
use Rattle.driver_core.specs.Readers.{readers_of}
use Rattle.driver_core.specs.SendRequests.{sending_of}
use Rattle.driver_core.specs.State.{State}
use Rattle.driver_laws.proofs.WholeLemmas.{IsWell, cut_ident, heard_ident, offered_ident, well_begins, well_cuts, well_hears, well_offers, with_readers}
use Rattle.log_steps.specs.declared.answer.Answer.{Answer}
use Rattle.log_steps.specs.declared.answer.Answer.TheVariants.{Offered as OfferedAs, Gone as IsGone}
use Rattle.log_steps.specs.declared.answer.Offered.TheVariants.{Closed}
use Rattle.driver_steps.specs.declared.step.Step.{Step}
use Rattle.driver_steps.specs.declared.step.Step.TheVariants.{Conductor, Packet, Offer as Offers, Poll as Polls, Image, List as Lists, Send, Value}
use Rattle.driver_steps.specs.Ends.{image_by, moved_by, on_asked, on_image, on_offered, on_packet, on_report, on_told, opening_end, RunEnd}
use Rattle.driver_core.specs.declared.asked.publication_request.JoinRequest.{JoinRequest}
use Rattle.log_steps.proofs.HearingLemmas.{status_whole}
use Rattle.log_steps.specs.Hearing.{nak_move, status_move}
use Rattle.log_steps.specs.Idents.{begins_by, ident_of}
use Rattle.log_steps.specs.Moves.{WholeLog, Move, offer_move, offer_to, offer_under, poll_move, poll_under}
use Rattle.log_steps.specs.Receiving.{beat_move, receive_move, unheard}
use Rattle.log_steps.specs.Reporting.{report_move}
use Rattle.driver_steps.specs.Runs.{Reading, end_of}
use Rattle.log_steps.specs.Sending.{pace_of, send_by, send_move}
use Rattle.driver_steps.proofs.EndLemmas.{run_keeps}
use Rattle.driver_steps.proofs.LiveLemmas.{IsKept, event_keeps, log_keeps}
use Rattle.frame_codec.specs.declared.fault.BadPacket.{BadPacket}
use Rattle.frame_codec.specs.declared.header.TermPlace.{TermPlace}
use Rattle.frame_codec.specs.declared.nak.Nak.{Nak}
use Rattle.frame_codec.specs.declared.status_message.StatusMessage.{StatusMessage}
use Rattle.frame_codec.specs.Datagram.{Content, frames, beat, nak, status, setup, packet_of}
use Rattle.frame_codec.specs.Frame.{Sent}
use Rattle.policy_core.specs.declared.verdict.Verdict.{Verdict}
use Rattle.policy_core.specs.RuleList.{Rules}
use Rattle.log_traffic.specs.declared.cutting.Pace.{Pace}
use Rattle.log_traffic.specs.Cutting.{cut_of}
use Rattle.stream_registry.specs.declared.row.Origin.{Origin}
use Rattle.stream_registry.specs.declared.row.Origin.TheVariants.{Published, Remote}
use Rattle.stream_registry.specs.declared.row.LogRow.{LogRow}
use Rattle.term_log.specs.Ident.{IsIdent, is_udp}
use Rattle.term_log.specs.Log.{greatest_message}
use Rattle.term_log.specs.Whole.{Whole, is_connected, offered, polled as term_polled, polled_from, rejoined as term_rejoined}

-- ---- logs

-- so it is with a log whose sizes are sound
abbrev pub WellIf : AnyWhole → Type 0
WellIf (whole w) = IsIdent w.ident → IsWell w
WellIf (rebuilt r) = Unit {0}

abbrev pub WellLog : WholeLog → Type 0
WellLog log = WellIf log.whole

-- ---- events

begins_well : (settings : Settings) (now : ℕ) (log : LogRow) (origin : Origin) → WellIf (begins_by settings now log origin)
begins_well settings now log (Published exclusive since) = well_begins (ident_of settings log)
begins_well settings now log (Remote address initial_term join) = tt

rejoined_well : (numbers : List ℕ) (w : AnyWhole) → WellIf w → WellIf (rejoined numbers w)
unfolding term_rejoined
rejoined_well numbers (whole w) well = λ sound. with_readers w _ refl refl refl (well sound)
rejoined_well numbers (rebuilt r) well = tt

well_kept : IsKept WellLog
well_kept = record {
  begins = λ settings now log. begins_well settings now log log.origin;
  rejoins = λ pairs log. rejoined_well (readers_of pairs log.source) log.whole;
}

-- ---- polls and offers

polled_from_well : (w : Whole) (subscription limit : ℕ) (o : Option ℕ) → (IsIdent w.ident → IsWell w) →
    IsIdent (polled_from w subscription limit o).after.ident → IsWell (polled_from w subscription limit o).after
polled_from_well w subscription limit None well = well
polled_from_well w subscription limit (Some at) well = λ sound. with_readers w _ refl refl refl (well sound)

polled_well : (subscription limit : ℕ) (w : AnyWhole) → WellIf w → WellIf (any_polled w subscription limit).after
unfolding term_polled
polled_well subscription limit (whole w) well = polled_from_well w subscription limit _ well
polled_well subscription limit (rebuilt r) well = tt

poll_under_well : (subscription limit : ℕ) (log : WholeLog) (o : Option LogRequest) (at : Option ℕ) → WellLog log →
    WellLog (poll_under subscription limit log o at).after
poll_under_well subscription limit log None at well = well
poll_under_well subscription limit log (Some request) None well = well
poll_under_well subscription limit log (Some request) (Some at) well =
    cond_both (not request.decision.verdict.allow) _ _ (λ (move : Move). WellLog move.after) (λ _. well)
    (λ _. polled_well subscription limit log.whole well)

taken_well : (w : Whole) (message : List ℕ) → (IsIdent w.ident → IsWell w) → WellIf (whole (offered w message))
taken_well w message well = λ sound.
    (let same = subst IsIdent (offered_ident w message) sound in
    well_offers w same (well same) message)

offer_to_well : (now timeout : ℕ) (verdict : Verdict) (message : List ℕ) (log : WholeLog) (w : AnyWhole) → log.whole ≡ w → WellLog log →
    WellLog (offer_to now timeout verdict message log w).after
offer_to_well now timeout verdict message log (whole w) is well =
    let P : Move → Type 0 = λ move. WellLog move.after in
    cond_both (not verdict.allow) _ _ P (λ _. well)
    (λ _. cond_both (nat_lt (greatest_message w.ident) (length message)) _ _ P (λ _. well)
    (λ _. cond_both (not (is_connected w now timeout)) _ _ P (λ _. well)
    (λ _. taken_well w message (subst WellIf is well))))
offer_to_well now timeout verdict message log (rebuilt r) is well = well

offer_under_well : (s : State) (now : ℕ) (message : List ℕ) (log : WholeLog) (o : Option LogRequest) → WellLog log →
    WellLog (offer_under s.settings.connection_timeout o now message log).after
offer_under_well s now message log None well = well
offer_under_well s now message log (Some request) well =
    cond_both (not (request.source == log.source)) _ _ (λ (move : Move). WellLog move.after) (λ _. well)
    (λ _. offer_to_well now s.settings.connection_timeout request.decision.verdict message log log.whole refl well)

offer_well : (s : State) (e : RunEnd) (now client registration : ℕ) (message : List ℕ) (o : Option LogRequest) → All WellLog e.logs →
    All WellLog (on_offered s e now client registration message o).after.logs
unfolding offer_move
offer_well s e now client registration message None well = well
offer_well s e now client registration message (Some request) well =
    log_keeps WellLog e request.source (offer_move s now client registration message) (OfferedAs Closed)
    (λ log found there. offer_under_well s now message log (offering_of s client registration) there.holds) well

-- ---- datagrams

received_well : (now : ℕ) (sent : List Sent) (w : AnyWhole) → WellIf w → WellIf (received now sent w)
received_well now sent (whole w) well = well
received_well now sent (rebuilt r) well = tt

beaten_well : (now : ℕ) (place : TermPlace) (w : AnyWhole) → WellIf w → WellIf (beaten now place w)
beaten_well now place (whole w) well = well
beaten_well now place (rebuilt r) well = tt

status_well : (now : ℕ) (message : StatusMessage) (w : AnyWhole) → WellIf w → WellIf (after_hearing now message w)
status_well now message (whole w) well =
    λ sound. well_hears w (well (subst IsIdent (heard_ident now message w) sound)) now message
status_well now message (rebuilt r) well = tt

asked_well : (e : RunEnd) (now : ℕ) (from : Address) (fields : Nak) (request : Option LogRequest) → All WellLog e.logs →
    All WellLog (on_asked e now from fields request).after.logs
asked_well e now from fields None well = well
asked_well e now from fields (Some request) well =
    log_keeps WellLog e request.source (nak_move now from request.decision fields) unheard (λ log found there. there.holds) well

told_well : (e : RunEnd) (now : ℕ) (from : Address) (fields : StatusMessage) (request : Option JoinRequest) → All WellLog e.logs →
    All WellLog (on_told e now from fields request).after.logs
told_well e now from fields None well = well
told_well e now from fields (Some request) well =
    log_keeps WellLog e request.source (status_move now from request.decision fields) unheard
    (λ log found there.
    status_whole WellIf now from request.decision fields log there.holds (status_well now fields log.whole there.holds)) well

image_well : (e : RunEnd) (move : WholeLog → Move) (found : Result ℕ Astray) → ((log : WholeLog) → WellLog log → WellLog (move log).after) →
    All WellLog e.logs → All WellLog (on_image e move found).after.logs
image_well e move (Err why) keeps well = well
image_well e move (Ok source) keeps well =
    log_keeps WellLog e source move unheard (λ log found there. keeps log there.holds) well

packet_well : (s : State) (e : RunEnd) (now : ℕ) (local from : Address) (read : Result Content BadPacket) → All WellLog e.logs →
    All WellLog (on_packet s e now local from read).after.logs
packet_well s e now local from (Err fault) well = well
packet_well s e now local from (Ok (frames [])) well = well
packet_well s e now local from (Ok (frames (frame ∷ later))) well =
    image_well e (receive_move now (frame ∷ later)) (image_by s e local from frame.header.place)
    (λ log. received_well now (frame ∷ later) log.whole) well
packet_well s e now local from (Ok (beat header)) well =
    image_well e (beat_move now header.place) (image_by s e local from header.place) (λ log. beaten_well now header.place log.whole) well
packet_well s e now local from (Ok (setup fields)) well = event_keeps WellLog e (SetUp now local from fields) well_kept well
packet_well s e now local from (Ok (nak fields)) well =
    asked_well e now from fields (resending_of s from fields.session_id fields.stream_id) well
packet_well s e now local from (Ok (status fields)) well =
    told_well e now from fields (joining_of s from fields.session_id fields.stream_id) well

-- ---- turns

turned_well : (b : Bool) (pace : Pace) (now : ℕ) (w : Whole) → (IsIdent w.ident → IsWell w) →
    WellIf (cond b (whole (cut_of pace now w)) (whole w))
turned_well true pace now w well = λ sound. well_cuts w (well (subst IsIdent (cut_ident pace now w) sound)) pace now
turned_well false pace now w well = well

turn_well : (pace : Pace) (now : ℕ) (w : AnyWhole) → WellIf w → WellIf (after_turn pace now w)
turn_well pace now (whole w) well = turned_well (is_udp w.ident.kind) pace now w well
turn_well pace now (rebuilt r) well = tt

send_by_well : (s : State) (now : ℕ) (log : WholeLog) (lingers : Option Bool) → WellLog log → WellLog (send_by s now log lingers).after
send_by_well s now log None well = well
send_by_well s now log (Some lingers) well = turn_well (pace_of s.settings) now log.whole well

report_well : (now : ℕ) (receiver : _) (w : AnyWhole) → WellIf w → WellIf (after_report now receiver w)
report_well now receiver (whole w) well = well
report_well now receiver (rebuilt r) well = tt

report_by_well : (s : State) (e : RunEnd) (now source : ℕ) (to : Option Address) → All WellLog e.logs →
    All WellLog (on_report s e now source to).after.logs
report_by_well s e now source None well = well
report_by_well s e now source (Some to) well =
    log_keeps WellLog e source (report_move now s.settings.receiver_id to) IsGone
    (λ log found there. report_well now log.recovery.receiver log.whole there.holds) well

-- ---- any step

moved_well : (s : State) (e : RunEnd) (step : Step) → All WellLog e.logs → All WellLog (moved_by s e step).after.logs
unfolding poll_move send_move
moved_well s e (Conductor event) well = event_keeps WellLog e event well_kept well
moved_well s e (Packet now local from bytes) well = packet_well s e now local from (packet_of bytes) well
moved_well s e (Offers now client registration message) well =
    offer_well s e now client registration message (offering_of s client registration) well
moved_well s e (Polls now client subscription source limit) well =
    log_keeps WellLog e source (poll_move s client subscription limit) IsGone
    (λ log found there.
    poll_under_well subscription limit log (receiving_of s client subscription log.source) (position_in log.whole subscription) there.holds) well
moved_well s e (Send now source) well =
    log_keeps WellLog e source (send_move s now) IsGone
    (λ log found there. send_by_well s now log (sending_of s log.source) there.holds) well
moved_well s e (Image now source) well = report_by_well s e now source (publisher_of s source) well
moved_well s e (Lists now client) well = well
moved_well s e (Value now client number) well = well

-- ---- runs

opening_well : (settings : Settings) (policy : Rules) (peers : List Peer) → All WellLog (opening_end settings policy peers).logs
unfolding opening_end
opening_well settings policy peers = All-nil WellLog

pub ends_well : (settings : Settings) (policy : Rules) (peers : List Peer) (readings : List Reading) (answers : List Answer) →
    All WellLog (end_of (opening_end settings policy peers) readings answers).logs
ends_well settings policy peers readings answers =
    run_keeps (λ e. All WellLog e.logs) moved_well (opening_end settings policy peers) readings answers (opening_well settings policy peers)
