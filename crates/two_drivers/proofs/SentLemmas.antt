-- Whatever frames and SETUPs of a publication's stream are read of what a driver sends are the publication's.
use Rattle.std.proofs.Common.{◌≡◌, ℤ, ℕ, ◌==◌, ◌+◌, not, nat_lt, Bool, true, false, cond, List, [], ◌∷◌, ◌++◌, length, Option, Some, None, Result, Ok, Err, refl, sym, ap, ◌∙◌, subst, arith, append_assoc}
use Rattle.std.specs.List.{All}
use Rattle.std.proofs.lemmas.Bool.{cond_both}
use Rattle.std.proofs.lemmas.List.Elements.{All-nil, All-cons, All-head, All-append, All-map, All-weaker}
use Rattle.log_traffic.specs.declared.asking.NakReply.{NakReply}
use Rattle.log_traffic.specs.declared.asking.NakReply.TheVariants as replies
use Rattle.log_traffic.specs.Asking.{after_status as after_hearing, nak_reply, reply_by, status_answer}
use Rattle.log_traffic.specs.Reporting.{after_report, report_of}
use Rattle.log_traffic.specs.Sending.{after_turn, turn_of}
use Rattle.log_traffic.specs.Whole.{AnyWhole, whole, rebuilt, beaten, polled as any_polled, position_in, received, rejoined}
use Rattle.channel_uri.specs.declared.address.Address.{Address}
use Rattle.driver_core.specs.declared.state.event.Event.{Event}
use Rattle.driver_core.specs.declared.state.event.Event.TheVariants.{Setup as SetUp}
use Rattle.driver_core.specs.declared.asked.listing.Listed.{Listed}
use Rattle.driver_core.specs.declared.asked.listing.Listed.TheVariants as listed
use Rattle.driver_core.specs.declared.asked.listing.Shown.{Shown}
use Rattle.driver_core.specs.declared.asked.listing.Shown.TheVariants as shown
use Rattle.driver_core.specs.declared.asked.log_request.LogRequest.{LogRequest}
use Rattle.driver_core.specs.declared.state.outcome.Response.{Response}
use Rattle.driver_core.specs.declared.state.outcome.Response.TheVariants as response
use Rattle.driver_core.specs.declared.state.peer.Peer.{Peer}
use Rattle.driver_core.specs.declared.state.replies.Message.{Message}
use Rattle.driver_core.specs.declared.asked.send_request.Outlet.{Outlet}
use Rattle.driver_core.specs.declared.state.settings.Settings.{Settings}
use Rattle.driver_core.specs.Listing.{list, value}
use Rattle.driver_core.specs.LogRequests.{offering_of, receiving_of}
use Rattle.driver_core.specs.PublicationRequests.{joining_of, publisher_of, resending_of}
use Rattle.driver_core.specs.Readers.{readers_of}
use Rattle.driver_core.specs.SendRequests.{outlets_of, sending_of}
use Rattle.driver_core.specs.State.{State}
use Rattle.log_steps.specs.declared.answer.Answer.{Answer}
use Rattle.log_steps.specs.declared.answer.Answer.TheVariants.{Offered as OfferedAs, Gone as IsGone}
use Rattle.log_steps.specs.declared.answer.Offered.TheVariants.{Closed}
use Rattle.driver_steps.specs.declared.step.Step.{Step}
use Rattle.driver_steps.specs.declared.step.Step.TheVariants.{Conductor, Packet, Offer as Offers, Poll as Polls, Image, List as Lists, Send, Value}
use Rattle.log_steps.specs.Answers.{answer_listed, answer_of, answer_shown, answered_by}
use Rattle.driver_steps.specs.Ends.{conducted, image_by, log_at, moved_by, moved_on, on_asked, on_log, on_offered, on_packet, on_report, on_told, opening_end, RunEnd}
use Rattle.driver_core.specs.declared.asked.publication_request.JoinRequest.{JoinRequest}
use Rattle.log_steps.proofs.HearingLemmas.{status_told, status_whole}
use Rattle.log_steps.specs.Hearing.{answer_asked, answer_heard, nak_move, status_move}
use Rattle.log_steps.specs.Idents.{begins_by, ident_of}
use Rattle.log_steps.specs.Moves.{WholeLog, Move, offer_move, offer_to, offer_under, poll_move, poll_under}
use Rattle.log_steps.specs.Receiving.{beat_move, receive_move, unheard}
use Rattle.log_steps.specs.Reporting.{answer_reported, report_move}
use Rattle.driver_steps.specs.Runs.{Reading, AreAnswers, IsAnswerTo, left_by, moved_to, read_by}
use Rattle.log_steps.specs.Sending.{answer_sent, pace_of, send_by, send_move, standing_of}
use Rattle.driver_steps.proofs.EndLemmas.{after_both}
use Rattle.driver_steps.proofs.LiveLemmas.{IsKept, event_keeps, found_log, log_keeps, step_either}
use Rattle.frame_codec.specs.declared.fault.BadPacket.{BadPacket}
use Rattle.frame_codec.specs.declared.header.TermPlace.{TermPlace}
use Rattle.frame_codec.specs.declared.nak.Nak.{Nak}
use Rattle.frame_codec.specs.declared.setup.Setup.{Setup}
use Rattle.frame_codec.specs.declared.status_message.StatusMessage.{StatusMessage}
use Rattle.frame_codec.specs.Datagram as contents
use Rattle.frame_codec.specs.Datagram.{Content, frames, beat, nak, status, setup, packet_of}
use Rattle.frame_codec.specs.Frame.{Sent}
use Rattle.image_log.specs.Frame.{Frame as Kept}
use Rattle.image_log.specs.declared.ident.Ident.{Ident as StreamIdent}
use Rattle.log_traffic.specs.declared.receiver.Due.{Due}
use Rattle.log_traffic.specs.Frames.{datagrams_of, nak_datagrams, nak_frame, status_datagrams, status_frame}
use Rattle.log_traffic.specs.Receiver.{Receiving, due_of}
use Rattle.two_drivers.specs.Line.{IsIn, kept_as, line_of, stream_of}
use Rattle.two_drivers.specs.Sending.{IsDatagramOf, IsFit, IsOfLine, IsOfLog, IsSetupOf, IsWell, all_of}
use Rattle.two_drivers.proofs.ReadingLemmas.{datagrams_read, nak_silent, resends_read, status_silent}
use Rattle.two_drivers.proofs.WellLemmas.{well_begins, well_cuts, well_hears, well_offers}
use Rattle.policy_core.specs.declared.decision.Decision.{Decision}
use Rattle.policy_core.specs.declared.verdict.Verdict.{Verdict}
use Rattle.policy_core.specs.RuleList.{Rules}
use Rattle.log_traffic.specs.declared.cutting.Pace.{Pace}
use Rattle.log_traffic.specs.declared.hearing.StatusAnswer.{StatusAnswer}
use Rattle.log_traffic.specs.declared.hearing.StatusAnswer.TheVariants as heard
use Rattle.log_traffic.specs.Cutting.{cut_of, datagram_of}
use Rattle.log_traffic.specs.Resending.{resent_of}
use Rattle.retransmit_gate.specs.declared.answer.Answer.{Answer as Word}
use Rattle.retransmit_gate.specs.declared.answer.Answer.TheVariants as words
use Rattle.stream_registry.specs.declared.row.Origin.{Origin}
use Rattle.stream_registry.specs.declared.row.Origin.TheVariants.{Published, Remote}
use Rattle.stream_registry.specs.declared.row.LogRow.{LogRow}
use Rattle.term_log.specs.declared.ident.Ident.{Ident}
use Rattle.term_log.specs.Frames.{Frame, span, total}
use Rattle.term_log.specs.Ident.{is_udp}
use Rattle.term_log.specs.Log.{greatest_message}
use Rattle.term_log.specs.Whole.{Whole, is_connected, polled as term_polled, polled_from, rejoined as term_rejoined}
use Rattle.two_drivers.specs.Given.{IsGood}
use Rattle.two_drivers.specs.Sent.{Datagram, IsFitLog, IsOnly, IsOnlyIn, IsOnlyLog, IsPart, SentIsGood, all_to, let_to, sent_by, sent_in}

-- ---- all logs of publications are sound, whose sizes and numbers are

abbrev pub WellIf : AnyWhole → Type 0
WellIf (whole w) = IsFit w.ident → IsWell w
WellIf (rebuilt r) = Unit {0}

abbrev pub WellLog : WholeLog → Type 0
WellLog log = WellIf log.whole

begins_well : (settings : Settings) (now : ℕ) (log : LogRow) (origin : Origin) → WellIf (begins_by settings now log origin)
begins_well settings now log (Published exclusive since) = well_begins (ident_of settings log)
begins_well settings now log (Remote address initial_term join) = tt

with_readers : (w v : Whole) → v.ident ≡ w.ident → v.frames ≡ w.frames → v.sender ≡ w.sender → IsWell w → IsWell v
with_readers w v ident frames' sender well = record {
  run = rw (ident, frames') well.run;
  high = rw (ident, frames') well.high;
  aligned = rw (ident, frames') well.aligned;
  sent = rw (ident, frames', sender) well.sent;
}

rejoined_well : (numbers : List ℕ) (w : AnyWhole) → WellIf w → WellIf (rejoined numbers w)
unfolding term_rejoined
rejoined_well numbers (whole w) well = λ fit. with_readers w _ refl refl refl (well fit)
rejoined_well numbers (rebuilt r) well = tt

well_kept : IsKept WellLog
well_kept = record {
  begins = λ settings now log. begins_well settings now log log.origin;
  rejoins = λ pairs log. rejoined_well (readers_of pairs log.source) log.whole;
}

polled_well_from : (w : Whole) (subscription limit : ℕ) (o : Option ℕ) → (IsFit w.ident → IsWell w) →
    IsFit (polled_from w subscription limit o).after.ident → IsWell (polled_from w subscription limit o).after
polled_well_from w subscription limit None well = well
polled_well_from w subscription limit (Some at) well = λ fit. with_readers w _ refl refl refl (well fit)

polled_well : (subscription limit : ℕ) (w : AnyWhole) → WellIf w → WellIf (any_polled w subscription limit).after
unfolding term_polled
polled_well subscription limit (whole w) well = polled_well_from w subscription limit _ well
polled_well subscription limit (rebuilt r) well = tt

poll_under_well : (subscription limit : ℕ) (log : WholeLog) (o : Option LogRequest) (at : Option ℕ) → WellLog log →
    WellLog (poll_under subscription limit log o at).after
poll_under_well subscription limit log None at well = well
poll_under_well subscription limit log (Some request) None well = well
poll_under_well subscription limit log (Some request) (Some at) well =
    cond_both (not request.decision.verdict.allow) _ _ (λ (move : Move). WellLog move.after) (λ _. well)
    (λ _. polled_well subscription limit log.whole well)

offered_ident : (w : Whole) (message : List ℕ) → (Rattle.term_log.specs.Whole.offered w message).ident ≡ w.ident
unfolding Rattle.term_log.specs.Whole.offered
offered_ident w message = refl

offers_well : (now timeout : ℕ) (verdict : Verdict) (message : List ℕ) (log : WholeLog) (w : AnyWhole) → log.whole ≡ w → WellLog log →
    WellLog (offer_to now timeout verdict message log w).after
offers_well now timeout verdict message log (whole w) is well =
    let P : Move → Type 0 = λ move. WellLog move.after in
    let here : IsFit w.ident → IsWell w = subst WellIf is well in
    cond_both (not verdict.allow) _ _ P (λ _. well)
    (λ _. cond_both (nat_lt (greatest_message w.ident) (length message)) _ _ P (λ _. well)
    (λ _. cond_both (not (is_connected w now timeout)) _ _ P (λ _. well)
    (λ _ fit. (let same = subst IsFit (offered_ident w message) fit in well_offers w same (here same) message))))
offers_well now timeout verdict message log (rebuilt r) is well = well

offer_under_well : (s : State) (now : ℕ) (message : List ℕ) (log : WholeLog) (o : Option LogRequest) → WellLog log →
    WellLog (offer_under s.settings.connection_timeout o now message log).after
offer_under_well s now message log None well = well
offer_under_well s now message log (Some request) well =
    cond_both (not (request.source == log.source)) _ _ (λ (move : Move). WellLog move.after) (λ _. well)
    (λ _. offers_well now s.settings.connection_timeout request.decision.verdict message log log.whole refl well)

received_well : (now : ℕ) (sent : List Sent) (w : AnyWhole) → WellIf w → WellIf (received now sent w)
received_well now sent (whole w) well = well
received_well now sent (rebuilt r) well = tt

beaten_well : (now : ℕ) (place : TermPlace) (w : AnyWhole) → WellIf w → WellIf (beaten now place w)
beaten_well now place (whole w) well = well
beaten_well now place (rebuilt r) well = tt

heard_ident : (now : ℕ) (message : StatusMessage) (w : Whole) → (Rattle.log_traffic.specs.Hearing.heard_of now message w).ident ≡ w.ident
unfolding Rattle.log_traffic.specs.Hearing.heard_of
heard_ident now message w = refl

status_well : (now : ℕ) (message : StatusMessage) (w : AnyWhole) → WellIf w → WellIf (after_hearing now message w)
status_well now message (whole w) well =
    λ fit. well_hears w (well (subst IsFit (heard_ident now message w) fit)) now message
status_well now message (rebuilt r) well = tt

report_well : (now : ℕ) (receiver : Receiving) (w : AnyWhole) → WellIf w → WellIf (after_report now receiver w)
report_well now receiver (whole w) well = well
report_well now receiver (rebuilt r) well = tt

cut_ident : (pace : Pace) (now : ℕ) (w : Whole) → (cut_of pace now w).ident ≡ w.ident
cut_ident pace now w = Rattle.two_drivers.proofs.WellLemmas.cut_ident pace now w

turned_well : (b : Bool) (pace : Pace) (now : ℕ) (w : Whole) → (IsFit w.ident → IsWell w) → WellIf (cond b (whole (cut_of pace now w)) (whole w))
turned_well true pace now w well = λ fit. well_cuts w (well (subst IsFit (cut_ident pace now w) fit)) pace now
turned_well false pace now w well = well

turn_well : (pace : Pace) (now : ℕ) (w : AnyWhole) → WellIf w → WellIf (after_turn pace now w)
turn_well pace now (whole w) well = turned_well (is_udp w.ident.kind) pace now w well
turn_well pace now (rebuilt r) well = tt

send_by_well : (s : State) (now : ℕ) (log : WholeLog) (lingers : Option Bool) → WellLog log → WellLog (send_by s now log lingers).after
send_by_well s now log None well = well
send_by_well s now log (Some lingers) well = turn_well (pace_of s.settings) now log.whole well

-- ---- what holds of all logs after any step

asked_well : (e : RunEnd) (now : ℕ) (from : Address) (fields : Nak) (request : Option LogRequest) → All WellLog e.logs →
    All WellLog (on_asked e now from fields request).after.logs
asked_well e now from fields None well = well
asked_well e now from fields (Some request) well =
    log_keeps WellLog e request.source (nak_move now from request.decision fields) unheard (λ log found there. there.holds) well

told_well : (e : RunEnd) (now : ℕ) (from : Address) (fields : StatusMessage) (request : Option JoinRequest) → All WellLog e.logs →
    All WellLog (on_told e now from fields request).after.logs
told_well e now from fields None well = well
told_well e now from fields (Some request) well =
    log_keeps WellLog e request.source (status_move now from request.decision fields) unheard
    (λ log found there.
    status_whole WellIf now from request.decision fields log there.holds (status_well now fields log.whole there.holds)) well

frames_well : (e : RunEnd) (now : ℕ) (sent : List Sent) (found : Result ℕ _) → All WellLog e.logs →
    All WellLog (Rattle.driver_steps.specs.Ends.on_image e (receive_move now sent) found).after.logs
frames_well e now sent (Err why) well = well
frames_well e now sent (Ok source) well =
    log_keeps WellLog e source (receive_move now sent) unheard (λ log found there. received_well now sent log.whole there.holds) well

beats_well : (e : RunEnd) (now : ℕ) (place : TermPlace) (found : Result ℕ _) → All WellLog e.logs →
    All WellLog (Rattle.driver_steps.specs.Ends.on_image e (beat_move now place) found).after.logs
beats_well e now place (Err why) well = well
beats_well e now place (Ok source) well =
    log_keeps WellLog e source (beat_move now place) unheard (λ log found there. beaten_well now place log.whole there.holds) well

packet_well : (s : State) (e : RunEnd) (now : ℕ) (local from : Address) (read : Result Content BadPacket) → All WellLog e.logs →
    All WellLog (on_packet s e now local from read).after.logs
packet_well s e now local from (Err fault) well = well
packet_well s e now local from (Ok (frames [])) well = well
packet_well s e now local from (Ok (frames (frame ∷ later))) well =
    frames_well e now (frame ∷ later) (image_by s e local from frame.header.place) well
packet_well s e now local from (Ok (beat header)) well = beats_well e now header.place (image_by s e local from header.place) well
packet_well s e now local from (Ok (setup fields)) well = event_keeps WellLog e (SetUp now local from fields) well_kept well
packet_well s e now local from (Ok (nak fields)) well = asked_well e now from fields (resending_of s from fields.session_id fields.stream_id) well
packet_well s e now local from (Ok (status fields)) well = told_well e now from fields (joining_of s from fields.session_id fields.stream_id) well

offer_well : (s : State) (e : RunEnd) (now client registration : ℕ) (message : List ℕ) (o : Option LogRequest) → All WellLog e.logs →
    All WellLog (on_offered s e now client registration message o).after.logs
unfolding offer_move
offer_well s e now client registration message None well = well
offer_well s e now client registration message (Some request) well =
    log_keeps WellLog e request.source (offer_move s now client registration message) (OfferedAs Closed)
    (λ log found there. offer_under_well s now message log (offering_of s client registration) there.holds) well

report_by_well : (s : State) (e : RunEnd) (now source : ℕ) (to : Option Address) → All WellLog e.logs →
    All WellLog (on_report s e now source to).after.logs
report_by_well s e now source None well = well
report_by_well s e now source (Some to) well =
    log_keeps WellLog e source (report_move now s.settings.receiver_id to) IsGone
    (λ log found there. report_well now log.recovery.receiver log.whole there.holds) well

moved_well : (s : State) (e : RunEnd) (step : Step) → All WellLog e.logs → All WellLog (moved_by s e step).after.logs
unfolding poll_move send_move
moved_well s e (Conductor event) well = event_keeps WellLog e event well_kept well
moved_well s e (Packet now local from bytes) well = packet_well s e now local from (packet_of bytes) well
moved_well s e (Offers now client registration message) well =
    offer_well s e now client registration message (offering_of s client registration) well
moved_well s e (Polls now client subscription source limit) well =
    log_keeps WellLog e source (poll_move s client subscription limit) IsGone
    (λ log found there.
    poll_under_well subscription limit log (receiving_of s client subscription log.source) (position_in log.whole subscription) there.holds) well
moved_well s e (Send now source) well =
    log_keeps WellLog e source (send_move s now) IsGone
    (λ log found there. send_by_well s now log (sending_of s log.source) there.holds) well
moved_well s e (Image now source) well = report_by_well s e now source (publisher_of s source) well
moved_well s e (Lists now client) well = well
moved_well s e (Value now client number) well = well

pub step_well : (e : RunEnd) (reading : Reading) (answer : Answer) → All WellLog e.logs → All WellLog (left_by e reading answer).logs
step_well e reading answer well =
    after_both (λ end. All WellLog end.logs) e (moved_to e reading) answer well
    (moved_well (read_by e reading.older) e reading.step well)

-- ---- what is read of what a log sends

line_both : (i : Ident) (position : ℕ) (fs gs : List Frame) → line_of i position (fs ++ gs) ≡ line_of i position fs ++ line_of i (position + total fs) gs
line_both i position [] gs = ap (λ (p : ℕ). line_of i p gs) (omega arith)
line_both i position (f ∷ fs) gs =
    let here : position + span f + total fs ≡ position + (span f + total fs) = omega arith in
    ap (λ (l : List Kept). kept_as i position f ∷ l)
    (line_both i (position + span f) fs gs ∙ ap (λ (p : ℕ). line_of i (position + span f) fs ++ line_of i p gs) here)

in_more : (line more : List Kept) (f : Kept) → IsIn line f → IsIn (line ++ more) f
in_more line more f is = record {
  before = is.before;
  after = is.after ++ more;
  is = ap (λ (l : List Kept). l ++ more) is.is ∙ append_assoc is.before (f ∷ is.after) more;
}

-- of a part, and of all
part_line : (i : Ident) (all : List Frame) (w : Whole) → IsPart i all w → (f : Kept) → IsIn (all_of w) f → IsIn (line_of i i.start all) f
part_line i all w part f is =
    let same : all_of w ≡ line_of i i.start w.frames = ap (λ (j : Ident). line_of j j.start w.frames) part.ident in
    let whole' : line_of i i.start all ≡ line_of i i.start w.frames ++ line_of i (i.start + total w.frames) part.later =
    ap (line_of i i.start) part.frames ∙ line_both i i.start w.frames part.later in
    subst (λ (l : List Kept). IsIn l f) (sym whole')
    (in_more (line_of i i.start w.frames) (line_of i (i.start + total w.frames) part.later) f (subst (λ (l : List Kept). IsIn l f) same is))

datagram_good : (i : Ident) (all : List Frame) (w : Whole) (bytes : List ℕ) → IsOnly i all (whole w) → IsDatagramOf w.ident (all_of w) bytes →
    IsGood i (line_of i i.start all) bytes
datagram_good i all w bytes only is = record {
  frames = λ frame later read session stream.
      (let are = is.frames (frame ∷ later) read in
      let first = All-head (IsOfLog w.ident (all_of w)) frame later are in
      let part = only (sym first.session ∙ session) (sym first.stream ∙ stream) in
      All-weaker (IsOfLog w.ident (all_of w)) (IsOfLine (stream_of i) (line_of i i.start all))
      (λ one of.
      part_line i all w part _ (subst (λ (j : Ident). IsOfLine (stream_of j) (all_of w) one) part.ident of.there))
      (frame ∷ later) are);
  setup = λ fields read session stream.
      (let of = is.setup fields read in
      let part = only (sym of.session ∙ session) (sym of.stream ∙ stream) in
      subst (λ (j : Ident). IsSetupOf j fields) part.ident of);
}

-- ---- what each step sends

abbrev pub AllGood : Ident → List Frame → List Datagram → Type 0
AllGood i all datagrams = All (λ (datagram : Datagram). IsGood i (line_of i i.start all) datagram.bytes) datagrams

none_sent : (i : Ident) (all : List Frame) → AllGood i all []
none_sent i all = All-nil (λ (datagram : Datagram). IsGood i (line_of i i.start all) datagram.bytes)

let_good : (i : Ident) (all : List Frame) (bytes : List ℕ) (outlets : List Outlet) → IsGood i (line_of i i.start all) bytes →
    AllGood i all (let_to bytes outlets)
let_good i all bytes [] good = none_sent i all
let_good i all bytes (outlet ∷ outlets) good =
    cond_both outlet.decision.verdict.allow (record { to = outlet.to; bytes = bytes } ∷ let_to bytes outlets) (let_to bytes outlets) (AllGood i all)
    (λ _.
    All-cons (λ (datagram : Datagram). IsGood i (line_of i i.start all) datagram.bytes) (record { to = outlet.to; bytes = bytes })
    (let_to bytes outlets) good (let_good i all bytes outlets good))
    (λ _. let_good i all bytes outlets good)

all_good : (i : Ident) (all : List Frame) (to : Address) (datagrams : List (List ℕ)) → All (IsGood i (line_of i i.start all)) datagrams →
    AllGood i all (all_to to datagrams)
all_good i all to datagrams good =
    All-map (λ (datagram : Datagram). IsGood i (line_of i i.start all) datagram.bytes) (λ bytes. record { to = to; bytes = bytes }) datagrams good

-- a turn of the sender
turn_good : (i : Ident) (all : List Frame) (pace : Pace) (now : ℕ) (lingers : Bool) (outlets : List Outlet) (w : Whole) (o : Option (List ℕ)) →
    datagram_of pace now lingers w ≡ o → IsOnly i all (whole w) → IsFit w.ident → IsWell w → AllGood i all (sent_by (answer_sent outlets (Some o)))
turn_good i all pace now lingers outlets w None is only fit well = none_sent i all
turn_good i all pace now lingers outlets w (Some bytes) is only fit well =
    let_good i all bytes outlets (datagram_good i all w bytes only (datagrams_read pace now lingers w bytes fit well is))

-- over datagrams it is another stream's, or these are all frames of it
abbrev pub OverUdp : Ident → List Frame → AnyWhole → Type 0
OverUdp i all (whole w) = is_udp w.ident.kind ≡ true → w.ident.session ≡ i.session → w.ident.stream ≡ i.stream → IsPart i all w
OverUdp i all (rebuilt r) = Unit {0}

pub record IsOverUdp (i : Ident) (all : List Frame) (log : WholeLog) : Type 0 where
  pub only : OverUdp i all log.whole
  pub fit : IsFitLog log.whole

over_any : (i : Ident) (all : List Frame) (w : AnyWhole) → IsOnly i all w → OverUdp i all w
over_any i all (whole w) only = λ udp. only
over_any i all (rebuilt r) only = tt

turn_by : (i : Ident) (all : List Frame) (pace : Pace) (now : ℕ) (lingers : Bool) (outlets : List Outlet) (w : Whole) (b : Bool) →
    is_udp w.ident.kind ≡ b → OverUdp i all (whole w) → IsFit w.ident → IsWell w →
    AllGood i all (sent_by (answer_sent outlets (cond b (Some (datagram_of pace now lingers w)) None)))
turn_by i all pace now lingers outlets w true udp only fit well =
    turn_good i all pace now lingers outlets w (datagram_of pace now lingers w) refl (only udp) fit well
turn_by i all pace now lingers outlets w false udp only fit well = none_sent i all

turn_sent : (i : Ident) (all : List Frame) (pace : Pace) (now : ℕ) (lingers : Bool) (outlets : List Outlet) (w : AnyWhole) →
    OverUdp i all w → IsFitLog w → WellIf w → AllGood i all (sent_by (answer_sent outlets (turn_of pace now lingers w)))
turn_sent i all pace now lingers outlets (whole w) only fit well =
    turn_by i all pace now lingers outlets w (is_udp w.ident.kind) refl only fit (well fit)
turn_sent i all pace now lingers outlets (rebuilt r) only fit well = none_sent i all

-- a NAK
reply_good : (i : Ident) (all : List Frame) (from : Address) (fields : Nak) (w : Whole) (word : Word) → IsOnly i all (whole w) → IsFit w.ident →
    IsWell w → AllGood i all (sent_by (answer_asked from (Some (reply_by fields w word))))
reply_good i all from fields w words.Empty only fit well = none_sent i all
reply_good i all from fields w words.OutOfWindow only fit well = none_sent i all
reply_good i all from fields w words.Lingering only fit well = none_sent i all
reply_good i all from fields w words.Busy only fit well = none_sent i all
reply_good i all from fields w words.Resend only fit well =
    all_good i all from (resent_of w fields)
    (All-weaker (IsDatagramOf w.ident (all_of w)) (IsGood i (line_of i i.start all)) (λ bytes is. datagram_good i all w bytes only is)
    (resent_of w fields) (resends_read w fields fit well))

nak_sent : (i : Ident) (all : List Frame) (now : ℕ) (from : Address) (decision : Decision) (fields : Nak) (gate : _) (w : AnyWhole) →
    IsOnly i all w → IsFitLog w → WellIf w → AllGood i all (sent_by (answer_asked from (nak_reply decision now fields gate w)))
nak_sent i all now from decision fields gate (whole w) only fit well =
    cond_both (not decision.verdict.allow) (replies.Denied decision.verdict) _
    (λ (reply : NakReply). AllGood i all (sent_by (answer_asked from (Some reply)))) (λ _. none_sent i all)
    (λ _. reply_good i all from fields w _ only fit (well fit))
nak_sent i all now from decision fields gate (rebuilt r) only fit well = none_sent i all

-- a turn of the receiver: NAKs and status messages are no frames
silent_good : (i : Ident) (line : List Kept) (bytes : List ℕ) → ((sent : List Sent) → packet_of bytes ≡ Ok (contents.frames sent) → ⊥) →
    ((fields : Setup) → packet_of bytes ≡ Ok (contents.setup fields) → ⊥) → IsGood i line bytes
silent_good i line bytes no_frames no_setup = record {
  frames = λ frame later read session stream. absurd (no_frames (frame ∷ later) read);
  setup = λ fields read. absurd (no_setup fields read);
}

due_naks : (i : Ident) (line : List Kept) (ident : StreamIdent) (due : Option _) → All (IsGood i line) (nak_datagrams ident due)
due_naks i line ident None = All-nil (IsGood i line)
due_naks i line ident (Some one) =
    All-cons (IsGood i line) _ []
    (silent_good i line _ (λ sent read. (nak_silent (nak_frame ident one)).frames sent read) (λ fields read. (nak_silent (nak_frame ident one)).setup fields read))
    (All-nil (IsGood i line))

due_statuses : (i : Ident) (line : List Kept) (ident : StreamIdent) (id : ℕ) (due : Option _) → All (IsGood i line) (status_datagrams ident id due)
due_statuses i line ident id None = All-nil (IsGood i line)
due_statuses i line ident id (Some one) =
    All-cons (IsGood i line) _ []
    (silent_good i line _ (λ sent read. (status_silent (status_frame ident id one)).frames sent read)
    (λ fields read. (status_silent (status_frame ident id one)).setup fields read))
    (All-nil (IsGood i line))

due_good : (i : Ident) (line : List Kept) (ident : StreamIdent) (id : ℕ) (due : Due) → All (IsGood i line) (datagrams_of ident id due)
unfolding datagrams_of
due_good i line ident id due =
    All-append (IsGood i line) (nak_datagrams ident due.nak) (status_datagrams ident id due.status) (due_naks i line ident due.nak)
    (due_statuses i line ident id due.status)

report_sent : (i : Ident) (all : List Frame) (now id : ℕ) (to : Address) (receiver : Receiving) (w : AnyWhole) →
    AllGood i all (sent_by (answer_reported to (report_of now id receiver w)))
report_sent i all now id to receiver (whole w) = none_sent i all
report_sent i all now id to receiver (rebuilt r) =
    all_good i all to (datagrams_of r.ident id (due_of receiver r now)) (due_good i (line_of i i.start all) r.ident id (due_of receiver r now))

-- ---- any step

-- what a log's move sends, or what is answered where there is none
move_sent : (i : Ident) (all : List Frame) (e : RunEnd) (source : ℕ) (move : WholeLog → Move) (absent : Answer) (o : Option WholeLog) →
    log_at e.logs source ≡ o → AllGood i all (sent_by absent) → All WellLog e.logs → All (IsOverUdp i all) e.logs →
    ((log : WholeLog) → log_at e.logs source ≡ Some log → WellLog log → IsOverUdp i all log → AllGood i all (sent_by (move log).answer)) →
    AllGood i all (sent_by (moved_on e source move absent o).answer)
move_sent i all e source move absent None found none well only sends = none
move_sent i all e source move absent (Some log) found none well only sends =
    sends log found (found_log WellLog source log e.logs well found).holds (found_log (IsOverUdp i all) source log e.logs only found).holds

log_sent : (i : Ident) (all : List Frame) (e : RunEnd) (source : ℕ) (move : WholeLog → Move) (absent : Answer) →
    AllGood i all (sent_by absent) → All WellLog e.logs → All (IsOverUdp i all) e.logs →
    ((log : WholeLog) → log_at e.logs source ≡ Some log → WellLog log → IsOverUdp i all log → AllGood i all (sent_by (move log).answer)) →
    AllGood i all (sent_by (on_log e source move absent).answer)
unfolding on_log
log_sent i all e source move absent none well only sends = move_sent i all e source move absent (log_at e.logs source) refl none well only sends

event_sent : (i : Ident) (all : List Frame) (told : Response) (replies' : List Message) → AllGood i all (sent_by (answered_by told replies'))
event_sent i all response.Nothing replies' = none_sent i all
event_sent i all (response.Attached number) replies' = none_sent i all
event_sent i all response.Full replies' = none_sent i all
event_sent i all response.Stopped replies' = none_sent i all
event_sent i all (response.PolicyInForce epoch) replies' = none_sent i all
event_sent i all response.PolicyFull replies' = none_sent i all
event_sent i all (response.Imaged number) replies' = none_sent i all
event_sent i all (response.Dropped fault) replies' = none_sent i all

conducted_sent : (i : Ident) (all : List Frame) (e : RunEnd) (event : Event) → AllGood i all (sent_by (conducted e event).answer)
unfolding conducted answer_of
conducted_sent i all e event = event_sent i all _ _

heard_sent : (i : Ident) (all : List Frame) (answer : Option StatusAnswer) → AllGood i all (sent_by (answer_heard answer))
heard_sent i all None = none_sent i all
heard_sent i all (Some heard.Elicited) = none_sent i all
heard_sent i all (Some (heard.Limit position)) = none_sent i all
heard_sent i all (Some heard.OutOfWindow) = none_sent i all

image_sent : (i : Ident) (all : List Frame) (e : RunEnd) (move : WholeLog → Move) (found : Result ℕ _) → All WellLog e.logs → All (IsOverUdp i all) e.logs →
    ((log : WholeLog) → AllGood i all (sent_by (move log).answer)) → AllGood i all (sent_by (Rattle.driver_steps.specs.Ends.on_image e move found).answer)
image_sent i all e move (Err why) well only sends = none_sent i all
image_sent i all e move (Ok source) well only sends =
    log_sent i all e source move unheard (none_sent i all) well only (λ log _ _ _. sends log)

-- the log that a NAK is for, by that registry: of another stream, or these are all frames of it
abbrev pub IsAsked : Ident → List Frame → State → RunEnd → Type 0
IsAsked i all s e =
    (from : Address) (session stream : ℤ) (request : LogRequest) (log : WholeLog) → resending_of s from session stream ≡ Some request →
    log_at e.logs request.source ≡ Some log → IsOnly i all log.whole

asked_sent : (i : Ident) (all : List Frame) (e : RunEnd) (now : ℕ) (from : Address) (fields : Nak) (request : Option LogRequest) → All WellLog e.logs →
    All (IsOverUdp i all) e.logs →
    ((one : LogRequest) (log : WholeLog) → request ≡ Some one → log_at e.logs one.source ≡ Some log → IsOnly i all log.whole) →
    AllGood i all (sent_by (on_asked e now from fields request).answer)
asked_sent i all e now from fields None well only asked = none_sent i all
asked_sent i all e now from fields (Some request) well only asked =
    log_sent i all e request.source (nak_move now from request.decision fields) unheard (none_sent i all) well only
    (λ log found fine one.
    nak_sent i all now from request.decision fields log.recovery.gate log.whole (asked request log refl found) one.fit fine)

told_sent : (i : Ident) (all : List Frame) (e : RunEnd) (now : ℕ) (from : Address) (fields : StatusMessage) (request : Option JoinRequest) →
    All WellLog e.logs → All (IsOverUdp i all) e.logs → AllGood i all (sent_by (on_told e now from fields request).answer)
told_sent i all e now from fields None well only = none_sent i all
told_sent i all e now from fields (Some request) well only =
    log_sent i all e request.source (status_move now from request.decision fields) unheard (none_sent i all) well only
    (λ log _ fine one.
    status_told (λ answer. AllGood i all (sent_by answer)) now from request.decision fields log (λ cause. none_sent i all)
    (heard_sent i all (status_answer fields log.whole)))

packet_sent : (i : Ident) (all : List Frame) (s : State) (e : RunEnd) (now : ℕ) (local from : Address) (read : Result Content BadPacket) →
    All WellLog e.logs → All (IsOverUdp i all) e.logs → IsAsked i all s e → AllGood i all (sent_by (on_packet s e now local from read).answer)
packet_sent i all s e now local from (Err fault) well only asked = none_sent i all
packet_sent i all s e now local from (Ok (frames [])) well only asked = none_sent i all
packet_sent i all s e now local from (Ok (frames (frame ∷ later))) well only asked =
    image_sent i all e (receive_move now (frame ∷ later)) (image_by s e local from frame.header.place) well only (λ log. none_sent i all)
packet_sent i all s e now local from (Ok (beat header)) well only asked =
    image_sent i all e (beat_move now header.place) (image_by s e local from header.place) well only (λ log. none_sent i all)
packet_sent i all s e now local from (Ok (setup fields)) well only asked = conducted_sent i all e (SetUp now local from fields)
packet_sent i all s e now local from (Ok (nak fields)) well only asked =
    asked_sent i all e now from fields (resending_of s from fields.session_id fields.stream_id) well only
    (λ one log is found. asked from fields.session_id fields.stream_id one log is found)
packet_sent i all s e now local from (Ok (status fields)) well only asked =
    told_sent i all e now from fields (joining_of s from fields.session_id fields.stream_id) well only

offer_answer : (i : Ident) (all : List Frame) (now timeout : ℕ) (verdict : Verdict) (message : List ℕ) (log : WholeLog) (w : AnyWhole) →
    AllGood i all (sent_by (offer_to now timeout verdict message log w).answer)
offer_answer i all now timeout verdict message log (whole w) =
    let P : Move → Type 0 = λ move. AllGood i all (sent_by move.answer) in
    cond_both (not verdict.allow) _ _ P (λ _. none_sent i all)
    (λ _. cond_both (nat_lt (greatest_message w.ident) (length message)) _ _ P (λ _. none_sent i all)
    (λ _. cond_both (not (is_connected w now timeout)) _ _ P (λ _. none_sent i all) (λ _. none_sent i all)))
offer_answer i all now timeout verdict message log (rebuilt r) = none_sent i all

offer_under_sent : (i : Ident) (all : List Frame) (s : State) (now : ℕ) (message : List ℕ) (log : WholeLog) (o : Option LogRequest) →
    AllGood i all (sent_by (offer_under s.settings.connection_timeout o now message log).answer)
offer_under_sent i all s now message log None = none_sent i all
offer_under_sent i all s now message log (Some request) =
    cond_both (not (request.source == log.source)) _ _ (λ (move : Move). AllGood i all (sent_by move.answer)) (λ _. none_sent i all)
    (λ _. offer_answer i all now s.settings.connection_timeout request.decision.verdict message log log.whole)

offer_sent : (i : Ident) (all : List Frame) (s : State) (e : RunEnd) (now client registration : ℕ) (message : List ℕ) (o : Option LogRequest) →
    All WellLog e.logs → All (IsOverUdp i all) e.logs → AllGood i all (sent_by (on_offered s e now client registration message o).answer)
unfolding offer_move
offer_sent i all s e now client registration message None well only = none_sent i all
offer_sent i all s e now client registration message (Some request) well only =
    log_sent i all e request.source (offer_move s now client registration message) (OfferedAs Closed) (none_sent i all) well only
    (λ log _ _ _. offer_under_sent i all s now message log (offering_of s client registration))

poll_under_sent : (i : Ident) (all : List Frame) (subscription limit : ℕ) (log : WholeLog) (o : Option LogRequest) (at : Option ℕ) →
    AllGood i all (sent_by (poll_under subscription limit log o at).answer)
poll_under_sent i all subscription limit log None at = none_sent i all
poll_under_sent i all subscription limit log (Some request) None = none_sent i all
poll_under_sent i all subscription limit log (Some request) (Some at) =
    cond_both (not request.decision.verdict.allow) _ _ (λ (move : Move). AllGood i all (sent_by move.answer)) (λ _. none_sent i all) (λ _. none_sent i all)

send_by_sent : (i : Ident) (all : List Frame) (s : State) (now : ℕ) (log : WholeLog) (lingers : Option Bool) → WellLog log → IsOverUdp i all log →
    AllGood i all (sent_by (send_by s now log lingers).answer)
send_by_sent i all s now log None well one = none_sent i all
send_by_sent i all s now log (Some lingers) well one =
    turn_sent i all (pace_of s.settings) now lingers (outlets_of s (standing_of s.settings now log) log.source) log.whole one.only one.fit well

report_by_sent : (i : Ident) (all : List Frame) (s : State) (e : RunEnd) (now source : ℕ) (to : Option Address) → All WellLog e.logs →
    All (IsOverUdp i all) e.logs → AllGood i all (sent_by (on_report s e now source to).answer)
report_by_sent i all s e now source None well only = none_sent i all
report_by_sent i all s e now source (Some to) well only =
    log_sent i all e source (report_move now s.settings.receiver_id to) IsGone (none_sent i all) well only
    (λ log _ _ _. report_sent i all now s.settings.receiver_id to log.recovery.receiver log.whole)

listed_sent : (i : Ident) (all : List Frame) (told : Listed) → AllGood i all (sent_by (answer_listed told))
listed_sent i all (listed.Counters rows) = none_sent i all
listed_sent i all listed.WrongClient = none_sent i all

shown_sent : (i : Ident) (all : List Frame) (told : Shown) → AllGood i all (sent_by (answer_shown told))
shown_sent i all (shown.Value number) = none_sent i all
shown_sent i all (shown.Denied decision) = none_sent i all
shown_sent i all shown.UnknownCounter = none_sent i all
shown_sent i all shown.WrongClient = none_sent i all

moved_sent : (i : Ident) (all : List Frame) (s : State) (e : RunEnd) (step : Step) → All WellLog e.logs → All (IsOverUdp i all) e.logs → IsAsked i all s e →
    AllGood i all (sent_by (moved_by s e step).answer)
unfolding poll_move send_move
moved_sent i all s e (Conductor event) well only asked = conducted_sent i all e event
moved_sent i all s e (Packet now local from bytes) well only asked = packet_sent i all s e now local from (packet_of bytes) well only asked
moved_sent i all s e (Offers now client registration message) well only asked =
    offer_sent i all s e now client registration message (offering_of s client registration) well only
moved_sent i all s e (Polls now client subscription source limit) well only asked =
    log_sent i all e source (poll_move s client subscription limit) IsGone (none_sent i all) well only
    (λ log _ _ _. poll_under_sent i all subscription limit log (receiving_of s client subscription log.source) (position_in log.whole subscription))
moved_sent i all s e (Send now source) well only asked =
    log_sent i all e source (send_move s now) IsGone (none_sent i all) well only
    (λ log _ fine one. send_by_sent i all s now log (sending_of s log.source) fine one)
moved_sent i all s e (Image now source) well only asked = report_by_sent i all s e now source (publisher_of s source) well only
moved_sent i all s e (Lists now client) well only asked = listed_sent i all (list s client)
moved_sent i all s e (Value now client number) well only asked = shown_sent i all (value s client number)

pub step_sends : (i : Ident) (all : List Frame) (e : RunEnd) (reading : Reading) (answer : Answer) → IsAnswerTo e reading answer → All WellLog e.logs →
    All (IsOverUdp i all) e.logs → IsAsked i all (read_by e reading.older) e → AllGood i all (sent_by answer)
step_sends i all e reading answer is well only asked =
    step_either (λ told end. AllGood i all (sent_by told)) e (moved_to e reading) answer is (none_sent i all)
    (moved_sent i all (read_by e reading.older) e reading.step well only asked)

-- whatever the registry, where no log but the publication's has its session and stream
pub step_sent : (i : Ident) (all : List Frame) (e : RunEnd) (reading : Reading) (answer : Answer) → IsAnswerTo e reading answer → All WellLog e.logs →
    All (IsOnlyLog i all) e.logs → AllGood i all (sent_by answer)
step_sent i all e reading answer is well only =
    step_sends i all e reading answer is well
    (All-weaker (IsOnlyLog i all) (IsOverUdp i all) (λ log one. record { only = over_any i all log.whole one.only; fit = one.fit }) e.logs only)
    (λ from session stream request log asked found. (found_log (IsOnlyLog i all) request.source log e.logs only found).holds.only)

-- ---- runs

run_sent : (i : Ident) (all : List Frame) (e : RunEnd) (readings : List Reading) (answers : List Answer) → AreAnswers e readings answers →
    All WellLog e.logs → IsOnlyIn i all e readings answers → AllGood i all (sent_in answers)
run_sent i all e [] [] are well only = none_sent i all
run_sent i all e [] (answer ∷ answers) are well only = absurd are
run_sent i all e (reading ∷ readings) [] are well only = absurd are
run_sent i all e (reading ∷ readings) (answer ∷ answers) are well only =
    All-append (λ (datagram : Datagram). IsGood i (line_of i i.start all) datagram.bytes) (sent_by answer) (sent_in answers)
    (step_sent i all e reading answer are.0 well only.0)
    (run_sent i all (left_by e reading answer) readings answers are.1 (step_well e reading answer well) only.1)

pub opening_well : (settings : Settings) (policy : Rules) (peers : List Peer) → All WellLog (opening_end settings policy peers).logs
unfolding opening_end
opening_well settings policy peers = All-nil WellLog

pub sent_good : SentIsGood
sent_good i all settings policy peers readings answers are only =
    run_sent i all (opening_end settings policy peers) readings answers are (opening_well settings policy peers) only
