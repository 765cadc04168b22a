-- Where whatever a driver is given of a stream is one publication's, the logs of that stream have its frames alone.
use Rattle.std.proofs.Common.{◌≡◌, ℕ, ℤ, ◌<◌, ◌==◌, not, nat_lt, Bool, true, false, cond, List, [], ◌∷◌, ◌++◌, length, map, Option, Some, None, Result, Ok, Err, refl, sym, ap, ◌∙◌, subst}
use Rattle.std.specs.List.{All}
use Rattle.std.proofs.lemmas.Bool.{and_parts, cond_both}
use Rattle.std.proofs.lemmas.Bool.Decides.{Decides-int_eq}
use Rattle.std.proofs.lemmas.List.Elements.{All-nil, All-cons, All-head, All-tail, All-map}
use Rattle.log_traffic.specs.Asking.{after_status as after_hearing}
use Rattle.log_traffic.specs.Held.{Made}
use Rattle.log_traffic.specs.Reporting.{after_report}
use Rattle.log_traffic.specs.Sending.{after_turn}
use Rattle.log_traffic.specs.Whole.{AnyWhole, whole, rebuilt, beaten, made_for as made_any, polled as any_polled, position_in, received, rejoined}
use Rattle.log_traffic.proofs.AnyLemmas.{data_ident, polled_ident}
use Rattle.channel_uri.specs.declared.address.Address.{Address}
use Rattle.channel_uri.specs.Address.{is_same}
use Rattle.channel_uri.specs.Channel.{Shape, endpoint_shape}
use Rattle.driver_core.specs.declared.state.event.Event.TheVariants.{Setup as SetUp}
use Rattle.driver_core.specs.declared.asked.image_request.Astray.{Astray}
use Rattle.driver_core.specs.declared.asked.image_request.Astray.TheVariants.{Stranger}
use Rattle.driver_core.specs.declared.asked.log_request.LogRequest.{LogRequest}
use Rattle.driver_core.specs.declared.state.peer.Peer.{Peer}
use Rattle.driver_core.specs.declared.state.settings.Settings.{Settings}
use Rattle.driver_core.specs.ImageRequests.{image_for, received_by, sent_to}
use Rattle.driver_core.specs.LogRequests.{offering_of, receiving_of}
use Rattle.driver_core.specs.PublicationRequests.{joining_of, publisher_of, resending_of}
use Rattle.driver_core.specs.Readers.{readers_of}
use Rattle.driver_core.specs.SendRequests.{sending_of}
use Rattle.driver_core.specs.Soundness.{AreSettings}
use Rattle.driver_core.specs.State.{State}
use Rattle.log_steps.specs.declared.answer.Answer.{Answer}
use Rattle.log_steps.specs.declared.answer.Answer.TheVariants.{Offered as OfferedAs, Gone as IsGone}
use Rattle.log_steps.specs.declared.answer.Offered.TheVariants.{Closed}
use Rattle.driver_steps.specs.declared.step.Step.{Step}
use Rattle.driver_steps.specs.declared.step.Step.TheVariants.{Conductor, Packet, Offer as Offers, Poll as Polls, Image, List as Lists, Send, Value}
use Rattle.driver_steps.specs.Ends.{image_by, log_at, moved_by, on_asked, on_image, on_offered, on_packet, on_report, on_told, opening_end, RunEnd}
use Rattle.driver_core.specs.declared.asked.publication_request.JoinRequest.{JoinRequest}
use Rattle.log_steps.proofs.HearingLemmas.{status_whole}
use Rattle.log_steps.specs.Hearing.{nak_move, status_move}
use Rattle.log_steps.specs.Idents.{begins_by, made_by, made_of, stream_ident}
use Rattle.driver_steps.specs.Laws.{made_as, made_for}
use Rattle.log_steps.specs.Moves.{WholeLog, Move, offer_move, offer_to, offer_under, poll_move, poll_under}
use Rattle.log_steps.specs.Receiving.{beat_move, receive_move, unheard}
use Rattle.log_steps.specs.Reporting.{report_move}
use Rattle.driver_steps.specs.Runs.{Reading, AreAnswers, IsAnswerTo, end_of, left_by, moved_to, read_by}
use Rattle.log_steps.specs.Sending.{pace_of, send_by, send_move}
use Rattle.driver_steps.proofs.EndLemmas.{after_both}
use Rattle.driver_steps.proofs.FollowLemmas.{Follows, ends_follow}
use Rattle.driver_steps.proofs.ImageLemmas.{IsOfStream}
use Rattle.driver_steps.proofs.LiveLemmas.{IsKept, event_keeps, found_log, log_keeps}
use Rattle.driver_steps.proofs.ServingLemmas.{there_now}
use Rattle.driver_steps.proofs.SourceLemmas.{Found, found_only}
use Rattle.frame_codec.specs.declared.fault.BadPacket.{BadPacket}
use Rattle.frame_codec.specs.declared.header.TermPlace.{TermPlace}
use Rattle.frame_codec.specs.declared.nak.Nak.{Nak}
use Rattle.frame_codec.specs.declared.status_message.StatusMessage.{StatusMessage}
use Rattle.frame_codec.specs.Datagram.{Content, frames, beat, nak, status, setup, packet_of}
use Rattle.frame_codec.specs.Frame.{Sent}
use Rattle.image_log.specs.Frame.{Frame as Kept}
use Rattle.image_log.specs.Handed.{position_in as place_in}
use Rattle.image_log.specs.Rebuilt.{Rebuilt, settled}
use Rattle.image_log.specs.declared.ident.Ident.{Ident as StreamIdent}
use Rattle.log_traffic.specs.Receiver.{Receiving, after_status}
use Rattle.log_traffic.specs.Receiving.{after_beat, after_data, after_frame, after_frames}
use Rattle.log_traffic.proofs.ReceivingLemmas.{ident_stays}
use Rattle.two_drivers.specs.Line.{IsLine, stream_of}
use Rattle.two_drivers.specs.Mirror.{Mirrors}
use Rattle.two_drivers.specs.Sending.{IsOfLine}
use Rattle.two_drivers.proofs.MirrorLemmas.{opens, polls, rejoins, takes_in}
use Rattle.policy_core.specs.declared.verdict.Verdict.{Verdict}
use Rattle.policy_core.specs.RuleList.{Rules}
use Rattle.log_traffic.specs.declared.cutting.Pace.{Pace}
use Rattle.stream_registry.specs.declared.row.Origin.{Origin}
use Rattle.stream_registry.specs.declared.row.Origin.TheVariants.{Published, Remote}
use Rattle.stream_registry.specs.declared.row.LogRow.{LogRow}
use Rattle.stream_registry.specs.Images.{image_at, is_image_at}
use Rattle.stream_registry.specs.Origins.{address_of}
use Rattle.term_log.specs.declared.ident.Ident.{Ident}
use Rattle.term_log.specs.Ident.{is_udp}
use Rattle.term_log.specs.Log.{greatest_message}
use Rattle.term_log.specs.Whole.{Whole, is_connected}
use Rattle.two_drivers.specs.Given.{AreGood, GoodDatagramsAreMirrored, IsGood, IsGoodStep, MirrorsIf, MirrorsLog}

some_term : (i : Ident) (r : Rebuilt) → 0 < i.term_length → r.ident ≡ stream_of i → 0 < r.ident.term_length
some_term i r some same = subst (λ (j : StreamIdent). 0 < j.term_length) (sym same) some

-- ---- a log that begins, and who reads it

begins_mirror : (i : Ident) (line : List Kept) (settings : Settings) (now : ℕ) (log : LogRow) (origin : Origin) →
    MirrorsIf i line (begins_by settings now log origin)
begins_mirror i line settings now log (Published exclusive since) = tt
begins_mirror i line settings now log (Remote address initial_term join) =
    λ same. (let is = opens line (stream_ident log initial_term) join in record { frames = is.frames; order = is.order })

rejoined_mirror : (i : Ident) (line : List Kept) → 0 < i.term_length → (subscriptions : List ℕ) (w : AnyWhole) → MirrorsIf i line w →
    MirrorsIf i line (rejoined subscriptions w)
unfolding settled
rejoined_mirror i line some subscriptions (whole w) mirrors = tt
rejoined_mirror i line some subscriptions (rebuilt r) mirrors =
    λ same. rejoins line r subscriptions (some_term i r some same) (mirrors same)

mirror_kept : (i : Ident) (line : List Kept) → 0 < i.term_length → IsKept (MirrorsLog i line)
mirror_kept i line some = record {
  begins = λ settings now log. begins_mirror i line settings now log log.origin;
  rejoins = λ pairs log. rejoined_mirror i line some (readers_of pairs log.source) log.whole;
}

-- ---- a poll

polled_mirror : (i : Ident) (line : List Kept) → 0 < i.term_length → (subscription limit : ℕ) (w : AnyWhole) → MirrorsIf i line w →
    MirrorsIf i line (any_polled w subscription limit).after
polled_mirror i line some subscription limit (whole w) mirrors = tt
polled_mirror i line some subscription limit (rebuilt r) mirrors =
    λ same.
    (let before = sym (polled_ident r subscription limit) ∙ same in
    polls line r subscription limit (some_term i r some before) (mirrors before))

poll_under_mirror : (i : Ident) (line : List Kept) → 0 < i.term_length → (subscription limit : ℕ) (log : WholeLog) (o : Option LogRequest)
    (at : Option ℕ) → MirrorsLog i line log → MirrorsLog i line (poll_under subscription limit log o at).after
poll_under_mirror i line some subscription limit log None at mirrors = mirrors
poll_under_mirror i line some subscription limit log (Some request) None mirrors = mirrors
poll_under_mirror i line some subscription limit log (Some request) (Some at) mirrors =
    cond_both (not request.decision.verdict.allow) _ _ (λ (move : Move). MirrorsLog i line move.after) (λ _. mirrors)
    (λ _. polled_mirror i line some subscription limit log.whole mirrors)

-- ---- an offer

offers_mirror : (i : Ident) (line : List Kept) (now timeout : ℕ) (verdict : Verdict) (message : List ℕ) (log : WholeLog)
    (w : AnyWhole) → MirrorsLog i line log → MirrorsLog i line (offer_to now timeout verdict message log w).after
offers_mirror i line now timeout verdict message log (whole w) mirrors =
    let P : Move → Type 0 = λ move. MirrorsLog i line move.after in
    cond_both (not verdict.allow) _ _ P (λ _. mirrors)
    (λ _. cond_both (nat_lt (greatest_message w.ident) (length message)) _ _ P (λ _. mirrors)
    (λ _. cond_both (not (is_connected w now timeout)) _ _ P (λ _. mirrors) (λ _. tt)))
offers_mirror i line now timeout verdict message log (rebuilt r) mirrors = mirrors

offer_under_mirror : (i : Ident) (line : List Kept) (s : State) (now : ℕ) (message : List ℕ) (log : WholeLog)
    (o : Option LogRequest) → MirrorsLog i line log → MirrorsLog i line (offer_under s.settings.connection_timeout o now message log).after
offer_under_mirror i line s now message log None mirrors = mirrors
offer_under_mirror i line s now message log (Some request) mirrors =
    cond_both (not (request.source == log.source)) _ _ (λ (move : Move). MirrorsLog i line move.after) (λ _. mirrors)
    (λ _. offers_mirror i line now s.settings.connection_timeout request.decision.verdict message log log.whole mirrors)

-- ---- frames, heartbeats

frames_mirror : (i : Ident) (start : ℕ) (line : List Kept) → IsLine i.term_length start line → (sent : List Sent) (r : Rebuilt) →
    r.ident ≡ stream_of i → All (IsOfLine (stream_of i) line) sent → Mirrors line r → Mirrors line (after_frames r sent)
unfolding after_frame
frames_mirror i start line is [] r same are mirrors = mirrors
frames_mirror i start line is (frame ∷ later) r same are mirrors =
    let there : IsOfLine r.ident line frame =
    subst (λ (j : StreamIdent). IsOfLine j line frame) (sym same) (All-head (IsOfLine (stream_of i) line) frame later are) in
    let one = takes_in i.term_length start line r (place_in r.ident frame.header.place) frame.bytes is there
    (ap (λ (j : StreamIdent). j.term_length) same) mirrors in
    frames_mirror i start line is later (after_frame r frame) (ident_stays r frame ∙ same)
    (All-tail (IsOfLine (stream_of i) line) frame later are) one

-- of its stream, those that come stand in the line
abbrev AreFine : Ident → List Kept → List Sent → AnyWhole → Type 0
AreFine i line sent (whole w) = Unit {0}
AreFine i line sent (rebuilt r) = r.ident ≡ stream_of i → All (IsOfLine (stream_of i) line) sent

received_mirror : (i : Ident) (start : ℕ) (line : List Kept) → IsLine i.term_length start line → (now : ℕ) (sent : List Sent) (w : AnyWhole) →
    AreFine i line sent w → MirrorsIf i line w → MirrorsIf i line (received now sent w)
unfolding after_data
received_mirror i start line is now sent (whole w) fine mirrors = tt
received_mirror i start line is now sent (rebuilt r) fine mirrors =
    λ same.
    (let before : r.ident ≡ stream_of i = sym (data_ident r now sent) ∙ same in
    let m = frames_mirror i start line is sent r before (fine before) (mirrors before) in
    record { frames = m.frames; order = m.order })

beaten_mirror : (i : Ident) (line : List Kept) (now : ℕ) (place : TermPlace) (w : AnyWhole) → MirrorsIf i line w →
    MirrorsIf i line (beaten now place w)
unfolding after_beat
beaten_mirror i line now place (whole w) mirrors = tt
beaten_mirror i line now place (rebuilt r) mirrors =
    λ same. (let m = mirrors same in record { frames = m.frames; order = m.order })

-- ---- what is heard, told and sent

status_mirror : (i : Ident) (line : List Kept) (now : ℕ) (message : StatusMessage) (w : AnyWhole) → MirrorsIf i line w →
    MirrorsIf i line (after_hearing now message w)
status_mirror i line now message (whole w) mirrors = tt
status_mirror i line now message (rebuilt r) mirrors = mirrors

told_mirror : (i : Ident) (line : List Kept) (b : Bool) (r s : Rebuilt) → s.ident ≡ r.ident → (Mirrors line r → Mirrors line s) →
    MirrorsIf i line (rebuilt r) → MirrorsIf i line (rebuilt (cond b s r))
told_mirror i line true r s same goes mirrors = λ is. goes (mirrors (sym same ∙ is))
told_mirror i line false r s same goes mirrors = mirrors

report_mirror : (i : Ident) (line : List Kept) (now : ℕ) (receiver : Receiving) (w : AnyWhole) → MirrorsIf i line w →
    MirrorsIf i line (after_report now receiver w)
unfolding after_status
report_mirror i line now receiver (whole w) mirrors = tt
report_mirror i line now receiver (rebuilt r) mirrors =
    told_mirror i line _ r _ refl (λ m. record { frames = m.frames; order = m.order }) mirrors

turned_whole : (i : Ident) (line : List Kept) (b : Bool) (w v : Whole) → MirrorsIf i line (cond b (whole v) (whole w))
turned_whole i line true w v = tt
turned_whole i line false w v = tt

turn_mirror : (i : Ident) (line : List Kept) (pace : Pace) (now : ℕ) (w : AnyWhole) → MirrorsIf i line w → MirrorsIf i line (after_turn pace now w)
turn_mirror i line pace now (whole w) mirrors = turned_whole i line (is_udp w.ident.kind) w _
turn_mirror i line pace now (rebuilt r) mirrors = mirrors

send_by_mirror : (i : Ident) (line : List Kept) (s : State) (now : ℕ) (log : WholeLog) (lingers : Option Bool) → MirrorsLog i line log →
    MirrorsLog i line (send_by s now log lingers).after
send_by_mirror i line s now log None mirrors = mirrors
send_by_mirror i line s now log (Some lingers) mirrors = turn_mirror i line (pace_of s.settings) now log.whole mirrors

-- ---- the log of an image is of its row's stream

stream_made : (settings : Settings) (session stream : ℤ) (log : LogRow) (origin : Origin) → log.session ≡ session →
    log.stream ≡ stream → IsOfStream session stream (made_by settings log origin)
stream_made settings session stream log (Published exclusive since) same_session same_stream = tt
stream_made settings session stream log (Remote address initial_term join) same_session same_stream =
    (same_session, same_stream)

stream_found : (settings : Settings) (channel : Shape) (session stream : ℤ) (log : LogRow) →
    is_image_at channel session stream log ≡ true → IsOfStream session stream (made_of settings log)
unfolding is_image_at
stream_found settings channel session stream log is =
    let first = and_parts _ _ is in
    let second = and_parts _ _ first.0 in
    let third = and_parts _ _ second.0 in
    stream_made settings session stream log log.origin ((Decides-int_eq log.session session).0 third.1)
    ((Decides-int_eq log.stream stream).0 second.1)

number_sent : (from : Address) (image : LogRow) (publisher : Option Address) (source : ℕ) →
    sent_to from image publisher ≡ Ok source → image.number ≡ source
number_sent from image None source is = absurd (cc is)
number_sent from image (Some publisher) source is = number_by (is_same publisher from) is
  where
    number_by : (b : Bool) → cond {A = Result ℕ Astray} b (Ok image.number) (Err Stranger) ≡ Ok source → image.number ≡ source
    number_by true same = cc same
    number_by false same = absurd (cc same)

-- what is made for that number is of the stream
abbrev IsMadeFor : ℤ → ℤ → ℕ → ℕ × Made → Type 0
IsMadeFor session stream number made = made.0 ≡ number → IsOfStream session stream made.1

unmapped : {X Y : Type 0} (P : Y → Type 0) (f : X → Y) (xs : List X) → All P (map f xs) → All (λ x. P (f x)) xs
unmapped P f [] all = All-nil (λ x. P (f x))
unmapped P f (x ∷ xs) all =
    All-cons (λ x. P (f x)) x xs (All-head P (f x) (map f xs) all) (unmapped P f xs (All-tail P (f x) (map f xs) all))

stream_by : (e : RunEnd) (from : Address) (channel : Shape) (session stream : ℤ) (source : ℕ) (log : WholeLog) (found : Option LogRow) →
    Follows e → image_at e.registry.streams channel session stream ≡ found → received_by from found ≡ Ok source →
    log_at e.logs source ≡ Some log → IsOfStream session stream (made_any log.whole)
stream_by e from channel session stream source log None follows is received there = absurd (cc received)
stream_by e from channel session stream source log (Some image) follows is received there =
    let number = number_sent from image (address_of image) source received in
    let s : State = e.registry in
    let Q : ℕ × Made → Type 0 = IsMadeFor session stream image.number in
    let R : LogRow → Type 0 = λ row. IsOfStream session stream (made_of s.settings row) in
    let found : Found R 0 s.last_number s.streams.sources image =
    found_only R (is_image_at channel session stream) 0 s.last_number s.streams.sources image
    (stream_found s.settings channel session stream) follows.sound.numbered is in
    let rows : All Q (map (made_as s.settings) s.streams.sources) = All-map Q (made_as s.settings) s.streams.sources found.only in
    let all : All (λ (one : WholeLog). Q (made_for one)) e.logs = unmapped Q made_for e.logs (subst (All Q) (sym follows.logs.made) rows) in
    let one = found_log (λ (one : WholeLog). Q (made_for one)) source log e.logs all there in
    one.holds (one.source_is ∙ sym number)

pub stream_at : (e : RunEnd) (local from : Address) (session stream : ℤ) (source : ℕ) (log : WholeLog) → Follows e →
    image_for e.registry local from session stream ≡ Ok source → log_at e.logs source ≡ Some log →
    IsOfStream session stream (made_any log.whole)
unfolding image_for
stream_at e local from session stream source log follows for there =
    stream_by e from (endpoint_shape local) session stream source log
    (image_at e.registry.streams (endpoint_shape local) session stream) follows refl for there

-- ---- a datagram

fine_frames : (i : Ident) (line : List Kept) (bytes : List ℕ) (frame : Sent) (later : List Sent) (w : AnyWhole) → IsGood i line bytes →
    packet_of bytes ≡ Ok (frames (frame ∷ later)) →
    IsOfStream frame.header.place.session_id frame.header.place.stream_id (made_any w) → AreFine i line (frame ∷ later) w
fine_frames i line bytes frame later (whole w) good read of = tt
fine_frames i line bytes frame later (rebuilt r) good read of =
    λ same.
    good.frames frame later read (sym of.0 ∙ ap (λ (j : StreamIdent). j.session_id) same) (sym of.1 ∙ ap (λ (j : StreamIdent). j.stream_id) same)

receive_mirror : (i : Ident) (start : ℕ) (line : List Kept) → IsLine i.term_length start line → (e : RunEnd) (now : ℕ) (local from : Address)
    (bytes : List ℕ) (frame : Sent) (later : List Sent) (found : Result ℕ Astray) → Follows e → IsGood i line bytes →
    packet_of bytes ≡ Ok (frames (frame ∷ later)) →
    ((source : ℕ) → found ≡ Ok source → image_for e.registry local from frame.header.place.session_id frame.header.place.stream_id ≡ Ok source) →
    All (MirrorsLog i line) e.logs → All (MirrorsLog i line) (on_image e (receive_move now (frame ∷ later)) found).after.logs
receive_mirror i start line is e now local from bytes frame later (Err why) follows good read for mirrors = mirrors
receive_mirror i start line is e now local from bytes frame later (Ok source) follows good read for mirrors =
    log_keeps (MirrorsLog i line) e source (receive_move now (frame ∷ later)) unheard
    (λ log found there.
    received_mirror i start line is now (frame ∷ later) log.whole
    (fine_frames i line bytes frame later log.whole good read
    (stream_at e local from frame.header.place.session_id frame.header.place.stream_id source log follows (for source refl) found))
    there.holds)
    mirrors

beat_mirror : (i : Ident) (line : List Kept) (e : RunEnd) (now : ℕ) (place : TermPlace) (found : Result ℕ Astray) →
    All (MirrorsLog i line) e.logs → All (MirrorsLog i line) (on_image e (beat_move now place) found).after.logs
beat_mirror i line e now place (Err why) mirrors = mirrors
beat_mirror i line e now place (Ok source) mirrors =
    log_keeps (MirrorsLog i line) e source (beat_move now place) unheard
    (λ log found there. beaten_mirror i line now place log.whole there.holds) mirrors

asked_mirror : (i : Ident) (line : List Kept) (e : RunEnd) (now : ℕ) (from : Address) (fields : Nak) (request : Option LogRequest) →
    All (MirrorsLog i line) e.logs → All (MirrorsLog i line) (on_asked e now from fields request).after.logs
asked_mirror i line e now from fields None mirrors = mirrors
asked_mirror i line e now from fields (Some request) mirrors =
    log_keeps (MirrorsLog i line) e request.source (nak_move now from request.decision fields) unheard
    (λ log found there. there.holds) mirrors

heard_mirror : (i : Ident) (line : List Kept) (e : RunEnd) (now : ℕ) (from : Address) (fields : StatusMessage) (request : Option JoinRequest) →
    All (MirrorsLog i line) e.logs → All (MirrorsLog i line) (on_told e now from fields request).after.logs
heard_mirror i line e now from fields None mirrors = mirrors
heard_mirror i line e now from fields (Some request) mirrors =
    log_keeps (MirrorsLog i line) e request.source (status_move now from request.decision fields) unheard
    (λ log found there.
    status_whole (MirrorsIf i line) now from request.decision fields log there.holds (status_mirror i line now fields log.whole there.holds)) mirrors

packet_mirror : (i : Ident) (start : ℕ) (line : List Kept) → 0 < i.term_length → IsLine i.term_length start line → (s : State) (e : RunEnd)
    (now : ℕ) (local from : Address) (bytes : List ℕ) (read : Result Content BadPacket) → packet_of bytes ≡ read → Follows e →
    IsGood i line bytes → All (MirrorsLog i line) e.logs → All (MirrorsLog i line) (on_packet s e now local from read).after.logs
packet_mirror i start line some is s e now local from bytes (Err fault) reads follows good mirrors = mirrors
packet_mirror i start line some is s e now local from bytes (Ok (frames [])) reads follows good mirrors = mirrors
packet_mirror i start line some is s e now local from bytes (Ok (frames (frame ∷ later))) reads follows good mirrors =
    receive_mirror i start line is e now local from bytes frame later (image_by s e local from frame.header.place) follows good reads
    (λ source found. there_now _ _ _ source found) mirrors
packet_mirror i start line some is s e now local from bytes (Ok (beat header)) reads follows good mirrors =
    beat_mirror i line e now header.place (image_by s e local from header.place) mirrors
packet_mirror i start line some is s e now local from bytes (Ok (setup fields)) reads follows good mirrors =
    event_keeps (MirrorsLog i line) e (SetUp now local from fields) (mirror_kept i line some) mirrors
packet_mirror i start line some is s e now local from bytes (Ok (nak fields)) reads follows good mirrors =
    asked_mirror i line e now from fields (resending_of s from fields.session_id fields.stream_id) mirrors
packet_mirror i start line some is s e now local from bytes (Ok (status fields)) reads follows good mirrors =
    heard_mirror i line e now from fields (joining_of s from fields.session_id fields.stream_id) mirrors

-- ---- any step

offer_mirror : (i : Ident) (line : List Kept) (s : State) (e : RunEnd) (now client registration : ℕ) (message : List ℕ)
    (o : Option LogRequest) → All (MirrorsLog i line) e.logs →
    All (MirrorsLog i line) (on_offered s e now client registration message o).after.logs
unfolding offer_move
offer_mirror i line s e now client registration message None mirrors = mirrors
offer_mirror i line s e now client registration message (Some request) mirrors =
    log_keeps (MirrorsLog i line) e request.source (offer_move s now client registration message) (OfferedAs Closed)
    (λ log found there.
    offer_under_mirror i line s now message log (offering_of s client registration) there.holds)
    mirrors

report_by_mirror : (i : Ident) (line : List Kept) (s : State) (e : RunEnd) (now source : ℕ) (to : Option Address) →
    All (MirrorsLog i line) e.logs → All (MirrorsLog i line) (on_report s e now source to).after.logs
report_by_mirror i line s e now source None mirrors = mirrors
report_by_mirror i line s e now source (Some to) mirrors =
    log_keeps (MirrorsLog i line) e source (report_move now s.settings.receiver_id to) IsGone
    (λ log found there. report_mirror i line now log.recovery.receiver log.whole there.holds) mirrors

moved_mirror : (i : Ident) (start : ℕ) (line : List Kept) → 0 < i.term_length → IsLine i.term_length start line → (s : State) (e : RunEnd)
    (step : Step) → Follows e → IsGoodStep i line step → All (MirrorsLog i line) e.logs → All (MirrorsLog i line) (moved_by s e step).after.logs
unfolding poll_move send_move
moved_mirror i start line some is s e (Conductor event) follows good mirrors =
    event_keeps (MirrorsLog i line) e event (mirror_kept i line some) mirrors
moved_mirror i start line some is s e (Packet now local from bytes) follows good mirrors =
    packet_mirror i start line some is s e now local from bytes (packet_of bytes) refl follows good mirrors
moved_mirror i start line some is s e (Offers now client registration message) follows good mirrors =
    offer_mirror i line s e now client registration message (offering_of s client registration) mirrors
moved_mirror i start line some is s e (Polls now client subscription source limit) follows good mirrors =
    log_keeps (MirrorsLog i line) e source (poll_move s client subscription limit) IsGone
    (λ log found there.
    poll_under_mirror i line some subscription limit log (receiving_of s client subscription log.source)
    (position_in log.whole subscription) there.holds)
    mirrors
moved_mirror i start line some is s e (Send now source) follows good mirrors =
    log_keeps (MirrorsLog i line) e source (send_move s now) IsGone
    (λ log found there. send_by_mirror i line s now log (sending_of s log.source) there.holds) mirrors
moved_mirror i start line some is s e (Image now source) follows good mirrors =
    report_by_mirror i line s e now source (publisher_of s source) mirrors
moved_mirror i start line some is s e (Lists now client) follows good mirrors = mirrors
moved_mirror i start line some is s e (Value now client number) follows good mirrors = mirrors

pub step_mirror : (i : Ident) (start : ℕ) (line : List Kept) → 0 < i.term_length → IsLine i.term_length start line → (e : RunEnd)
    (reading : Reading) (answer : Answer) → Follows e → IsGoodStep i line reading.step → All (MirrorsLog i line) e.logs →
    All (MirrorsLog i line) (left_by e reading answer).logs
step_mirror i start line some is e reading answer follows good mirrors =
    after_both (λ end. All (MirrorsLog i line) end.logs) e (moved_to e reading) answer mirrors
    (moved_mirror i start line some is (read_by e reading.older) e reading.step follows good mirrors)

-- ---- runs

pub end_push : (e : RunEnd) (before : List Reading) (earlier : List Answer) (reading : Reading) (answer : Answer) → AreAnswers e before earlier →
    end_of e (before ++ reading ∷ []) (earlier ++ answer ∷ []) ≡ left_by (end_of e before earlier) reading answer
end_push e [] [] reading answer are = refl
end_push e [] (one ∷ earlier) reading answer are = absurd are
end_push e (first ∷ before) [] reading answer are = absurd are
end_push e (first ∷ before) (one ∷ earlier) reading answer are = end_push (left_by e first one) before earlier reading answer are.1

pub answers_push : (e : RunEnd) (before : List Reading) (earlier : List Answer) (reading : Reading) (answer : Answer) → AreAnswers e before earlier →
    IsAnswerTo (end_of e before earlier) reading answer → AreAnswers e (before ++ reading ∷ []) (earlier ++ answer ∷ [])
answers_push e [] [] reading answer are is = (is, tt)
answers_push e [] (one ∷ earlier) reading answer are is = absurd are
answers_push e (first ∷ before) [] reading answer are is = absurd are
answers_push e (first ∷ before) (one ∷ earlier) reading answer are is =
    (are.0, answers_push (left_by e first one) before earlier reading answer are.1 is)

pub run_mirror : (i : Ident) (start : ℕ) (line : List Kept) → 0 < i.term_length → IsLine i.term_length start line → (settings : Settings)
    (policy : Rules) (peers : List Peer) → AreSettings settings → (before : List Reading) (earlier : List Answer) (readings : List Reading)
    (answers : List Answer) → AreAnswers (opening_end settings policy peers) before earlier →
    AreAnswers (end_of (opening_end settings policy peers) before earlier) readings answers → AreGood i line readings →
    All (MirrorsLog i line) (end_of (opening_end settings policy peers) before earlier).logs →
    All (MirrorsLog i line) (end_of (end_of (opening_end settings policy peers) before earlier) readings answers).logs
run_mirror i start line some is settings policy peers sound before earlier [] answers were are good mirrors = mirrors
run_mirror i start line some is settings policy peers sound before earlier (reading ∷ readings) [] were are good mirrors = absurd are
run_mirror i start line some is settings policy peers sound before earlier (reading ∷ readings) (answer ∷ answers) were are good mirrors =
    let first : RunEnd = opening_end settings policy peers in
    let e : RunEnd = end_of first before earlier in
    let follows = ends_follow settings policy peers before earlier sound were in
    let next = step_mirror i start line some is e reading answer follows good.0 mirrors in
    let same = end_push first before earlier reading answer were in
    subst (λ (x : RunEnd). All (MirrorsLog i line) (end_of x readings answers).logs) same
    (run_mirror i start line some is settings policy peers sound (before ++ reading ∷ []) (earlier ++ answer ∷ []) readings answers
    (answers_push first before earlier reading answer were are.0)
    (subst (λ (x : RunEnd). AreAnswers x readings answers) (sym same) are.1) good.1
    (subst (λ (x : RunEnd). All (MirrorsLog i line) x.logs) (sym same) next))

pub opening_mirrors : (i : Ident) (line : List Kept) (settings : Settings) (policy : Rules) (peers : List Peer) →
    All (MirrorsLog i line) (opening_end settings policy peers).logs
unfolding opening_end
opening_mirrors i line settings policy peers = All-nil (MirrorsLog i line)

pub good_mirrored : GoodDatagramsAreMirrored
good_mirrored i start line settings policy peers readings answers some is sound good are =
    run_mirror i start line some is settings policy peers sound [] [] readings answers tt are good
    (opening_mirrors i line settings policy peers)
