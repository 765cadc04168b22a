-- The frames in an image's log were carried by datagrams of its publisher, and a poll gives what they hold.
use Rattle.std.proofs.Common.{◌≡◌, ℕ, ◌-◌, ◌==◌, not, nat_lt, List, [], ◌∷◌, ◌++◌, length, map, take, drop, Option, Some, None, Result, Ok, Err, refl, sym, ap, ◌∙◌, subst, append_assoc}
use Rattle.std.specs.List.{All, Contains}
use Rattle.std.proofs.lemmas.Bool.{cond_both, eq-eqb}
use Rattle.std.proofs.lemmas.List.Elements.{All-nil, All-cons, All-head, All-tail, All-append, All-take, All-drop, All-filter, All-weaker, All-contains_itself, Contains-append_left, Contains-append_right}
use Rattle.channel_uri.specs.declared.address.Address.{Address}
use Rattle.driver_core.specs.declared.state.event.Event.TheVariants.{Setup as SetUp}
use Rattle.driver_core.specs.declared.asked.image_request.Astray.{Astray}
use Rattle.driver_core.specs.declared.asked.log_request.LogRequest.{LogRequest}
use Rattle.driver_core.specs.declared.state.peer.Peer.{Peer}
use Rattle.driver_core.specs.declared.state.settings.Settings.{Settings}
use Rattle.driver_core.specs.LogRequests.{offering_of, receiving_of}
use Rattle.driver_core.specs.PublicationRequests.{joining_of, publisher_of, resending_of}
use Rattle.driver_core.specs.Readers.{readers_of}
use Rattle.driver_core.specs.State.{State}
use Rattle.driver_steps.proofs.PacketLemmas.{asked_cases, told_cases}
use Rattle.driver_steps.proofs.QuietLemmas.{IsQuiet, report_cases, send_quiet, still_holds}
use Rattle.driver_steps.proofs.LiveLemmas.{IsKept, event_keeps, found_log, log_keeps, poll_gives, step_either}
use Rattle.log_steps.specs.Sending.{send_move}
use Rattle.log_steps.specs.declared.answer.Answer.{Answer}
use Rattle.log_steps.specs.declared.answer.Answer.TheVariants.{NoMemory, Offered as OfferedAs, Polled, Gone as IsGone, Received}
use Rattle.log_steps.specs.declared.answer.Offered.TheVariants.{Closed}
use Rattle.driver_steps.specs.declared.step.Step.{Step}
use Rattle.driver_steps.specs.declared.step.Step.TheVariants.{Conductor, Packet, Offer as Offers, Poll as Polls, Image, List as Lists, Send, Value}
use Rattle.driver_steps.specs.CarryingLaws.{carried_for, carried_on, carried_by, carried_in, IsCarried, PayloadsComeFromTheirPublisher}
use Rattle.driver_steps.specs.Ends.{image_by, log_at, Moved, moved_by, moved_on, on_image, on_log, on_offered, on_packet, opening_end, RunEnd}
use Rattle.driver_steps.specs.Runs.{Reading, AreAnswers, IsAnswerTo, end_of, left_by, moved_to, read_by}
use Rattle.log_steps.specs.Idents.{begins_by}
use Rattle.log_steps.specs.Moves.{WholeLog, Move, offer_to, offer_under, offer_move, poll_under, poll_move}
use Rattle.log_steps.specs.Receiving.{beat_move, receive_move, unheard}
use Rattle.frame_codec.specs.declared.fault.BadPacket.{BadPacket}
use Rattle.frame_codec.specs.declared.header.TermPlace.{TermPlace}
use Rattle.frame_codec.specs.Datagram.{Content, frames, beat, nak, status, setup, packet_of}
use Rattle.frame_codec.specs.Frame.{Sent}
use Rattle.image_log.specs.declared.insert.Insert.{Insert}
use Rattle.image_log.specs.declared.insert.Insert.TheVariants.{Taken, Repeat, Overlap, Below, Beyond}
use Rattle.image_log.specs.Frame.{Frame, framed}
use Rattle.image_log.specs.Handed.{position_in as place_in, span_of}
use Rattle.image_log.specs.Order.{begins_from, begins_within, rank}
use Rattle.image_log.specs.Polling.{fetched, polled as image_polled, polled_frame, polled_from, whole_from}
use Rattle.image_log.specs.Reading.{is_pad}
use Rattle.image_log.specs.Rebuilt.{Rebuilt, after_insert, contiguous_of, frames_after, insert_of, settled}
use Rattle.log_pairs.specs.Pairs.{position_of}
use Rattle.log_pairs.specs.Polling.{Fetched, Polled as Passed, counted, fragments_of, passed, with_fragment}
use Rattle.log_traffic.specs.Whole.{AnyWhole, whole, rebuilt, beaten, polled as any_polled, position_in, received, rejoined, words_in}
use Rattle.log_traffic.proofs.StillLemmas.{IsStill}
use Rattle.log_traffic.specs.Receiving.{after_beat, after_data, after_frame, after_frames}
use Rattle.policy_core.specs.declared.verdict.Verdict.{Verdict}
use Rattle.policy_core.specs.RuleList.{Rules}
use Rattle.stream_registry.specs.declared.row.Origin.{Origin}
use Rattle.stream_registry.specs.declared.row.Origin.TheVariants.{Published, Remote}
use Rattle.stream_registry.specs.declared.row.LogRow.{LogRow}
use Rattle.term_log.specs.Log.{greatest_message}
use Rattle.term_log.specs.Whole.{is_connected}

-- ---- the logs whose frames were carried

abbrev AreCarried : List (List ℕ) → List Frame → Type 0
AreCarried carried fs = All (λ (f : Frame). Contains carried f.bytes) fs

-- nothing comes from elsewhere into a publication's log
abbrev HoldsCarried : List (List ℕ) → AnyWhole → Type 0
HoldsCarried carried (whole w) = Unit {0}
HoldsCarried carried (rebuilt r) = AreCarried carried r.frames

-- to the log's source
abbrev Holds : (ℕ → List (List ℕ)) → WholeLog → Type 0
Holds carried log = HoldsCarried (carried log.source) log.whole

-- what was carried stays carried
abbrev IsMore : (ℕ → List (List ℕ)) → (ℕ → List (List ℕ)) → Type 0
IsMore carried more =
    (source : ℕ) (bytes : List ℕ) → Contains (carried source) bytes → Contains (more source) bytes

whole_more : (carried more : List (List ℕ)) → ((bytes : List ℕ) → Contains carried bytes → Contains more bytes) →
    (w : AnyWhole) → HoldsCarried carried w → HoldsCarried more w
whole_more carried more is (whole w) holds = tt
whole_more carried more is (rebuilt r) holds =
    All-weaker (λ (f : Frame). Contains carried f.bytes) (λ (f : Frame). Contains more f.bytes) (λ f has. is f.bytes has)
    r.frames holds

all_more : (carried more : ℕ → List (List ℕ)) → IsMore carried more → (logs : List WholeLog) → All (Holds carried) logs →
    All (Holds more) logs
all_more carried more is logs holds =
    All-weaker (Holds carried) (Holds more)
    (λ log. whole_more (carried log.source) (more log.source) (is log.source) log.whole) logs holds

-- ---- one log

begins_holds : (carried : List (List ℕ)) (settings : Settings) (now : ℕ) (log : LogRow) (origin : Origin) →
    HoldsCarried carried (begins_by settings now log origin)
begins_holds carried settings now log (Published exclusive since) = tt
begins_holds carried settings now log (Remote address initial_term join) =
    All-nil (λ (f : Frame). Contains carried f.bytes)

rejoined_holds : (carried : List (List ℕ)) (subscriptions : List ℕ) (w : AnyWhole) → HoldsCarried carried w →
    HoldsCarried carried (rejoined subscriptions w)
unfolding settled
rejoined_holds carried subscriptions (whole w) holds = tt
rejoined_holds carried subscriptions (rebuilt r) holds =
    All-filter (begins_from _) (λ (f : Frame). Contains carried f.bytes) r.frames holds

-- a log begins without frames, and who reads it brings none
holds_kept : (carried : ℕ → List (List ℕ)) → IsKept (Holds carried)
holds_kept carried = record {
  begins = λ settings now log. begins_holds (carried log.number) settings now log log.origin;
  rejoins = λ pairs log. rejoined_holds (carried log.source) (readers_of pairs log.source) log.whole;
}

polled_from_holds : (carried : List (List ℕ)) (r : Rebuilt) (subscription limit : ℕ) (o : Option ℕ) →
    AreCarried carried r.frames → AreCarried carried (polled_from r subscription limit o).after.frames
unfolding settled
polled_from_holds carried r subscription limit None holds = holds
polled_from_holds carried r subscription limit (Some at) holds =
    All-filter (begins_from _) (λ (f : Frame). Contains carried f.bytes) r.frames holds

polled_holds : (carried : List (List ℕ)) (subscription limit : ℕ) (w : AnyWhole) → HoldsCarried carried w →
    HoldsCarried carried (any_polled w subscription limit).after
unfolding image_polled
polled_holds carried subscription limit (whole w) holds = tt
polled_holds carried subscription limit (rebuilt r) holds =
    polled_from_holds carried r subscription limit (position_of r.pairs subscription) holds

poll_under_holds : (carried : ℕ → List (List ℕ)) (subscription limit : ℕ) (log : WholeLog) (o : Option LogRequest)
    (at : Option ℕ) → Holds carried log → Holds carried (poll_under subscription limit log o at).after
poll_under_holds carried subscription limit log None at holds = holds
poll_under_holds carried subscription limit log (Some request) None holds = holds
poll_under_holds carried subscription limit log (Some request) (Some at) holds =
    cond_both (not request.decision.verdict.allow) _ _ (λ (move : Move). Holds carried move.after) (λ _. holds)
    (λ _. polled_holds (carried log.source) subscription limit log.whole holds)

-- no offer is taken by an image's log
offers_holds : (carried : ℕ → List (List ℕ)) (now timeout : ℕ) (verdict : Verdict) (message : List ℕ) (log : WholeLog)
    (w : AnyWhole) → Holds carried log → Holds carried (offer_to now timeout verdict message log w).after
offers_holds carried now timeout verdict message log (whole w) holds =
    let P : Move → Type 0 = λ move. Holds carried move.after in
    cond_both (not verdict.allow) _ _ P (λ _. holds)
    (λ _. cond_both (nat_lt (greatest_message w.ident) (length message)) _ _ P (λ _. holds)
    (λ _. cond_both (not (is_connected w now timeout)) _ _ P (λ _. holds) (λ _. tt)))
offers_holds carried now timeout verdict message log (rebuilt r) holds = holds

offer_under_holds : (carried : ℕ → List (List ℕ)) (s : State) (now : ℕ) (message : List ℕ) (log : WholeLog)
    (o : Option LogRequest) → Holds carried log → Holds carried (offer_under s.settings.connection_timeout o now message log).after
offer_under_holds carried s now message log None holds = holds
offer_under_holds carried s now message log (Some request) holds =
    cond_both (not (request.source == log.source)) _ _ (λ (move : Move). Holds carried move.after) (λ _. holds)
    (λ _.
    offers_holds carried now s.settings.connection_timeout request.decision.verdict message log log.whole holds)

-- ---- a datagram comes to a log

-- whatever becomes of a frame, only that one can be new
taken_carried : (carried : List (List ℕ)) (answer : Insert) (fs : List Frame) (f : Frame) → Contains carried f.bytes →
    AreCarried carried fs → AreCarried carried (frames_after answer fs f)
taken_carried carried Taken fs f has are =
    let P : Frame → Type 0 = λ g. Contains carried g.bytes in
    let at : ℕ = rank f.position fs in
    All-append P (take at fs) (f ∷ drop at fs) (All-take P at fs are)
    (All-cons P f (drop at fs) has (All-drop P at fs are))
taken_carried carried Repeat fs f has are = are
taken_carried carried Overlap fs f has are = are
taken_carried carried Below fs f has are = are
taken_carried carried Beyond fs f has are = are

frame_carried : (carried : List (List ℕ)) (r : Rebuilt) (frame : Sent) → Contains carried frame.bytes →
    AreCarried carried r.frames → AreCarried carried (after_frame r frame).frames
unfolding after_frame after_insert
frame_carried carried r frame has are =
    let at : ℕ = place_in r.ident frame.header.place in
    taken_carried carried (insert_of r at frame.bytes) r.frames (framed at (span_of frame.bytes) frame.bytes) has are

frames_carried : (carried : List (List ℕ)) (sent : List Sent) (r : Rebuilt) →
    All (Contains carried) (map (λ (frame : Sent). frame.bytes) sent) → AreCarried carried r.frames →
    AreCarried carried (after_frames r sent).frames
frames_carried carried [] r given are = are
frames_carried carried (frame ∷ later) r given are =
    let others : List (List ℕ) = map (λ (frame : Sent). frame.bytes) later in
    frames_carried carried later (after_frame r frame) (All-tail (Contains carried) frame.bytes others given)
    (frame_carried carried r frame (All-head (Contains carried) frame.bytes others given) are)

received_holds : (carried : List (List ℕ)) (now : ℕ) (sent : List Sent) (w : AnyWhole) →
    All (Contains carried) (map (λ (frame : Sent). frame.bytes) sent) → HoldsCarried carried w →
    HoldsCarried carried (received now sent w)
unfolding after_data
received_holds carried now sent (whole w) given holds = tt
received_holds carried now sent (rebuilt r) given holds = frames_carried carried sent r given holds

beaten_holds : (carried : List (List ℕ)) (now : ℕ) (place : TermPlace) (w : AnyWhole) → HoldsCarried carried w →
    HoldsCarried carried (beaten now place w)
unfolding after_beat
beaten_holds carried now place (whole w) holds = tt
beaten_holds carried now place (rebuilt r) holds = holds

-- ---- steps

-- a datagram's frames are carried to the image that they are for
sent_for : (image source : ℕ) (sent : List Sent) → source ≡ image →
    carried_for (Ok image) source sent ≡ map (λ (frame : Sent). frame.bytes) sent
sent_for image source sent is = rw (eq-eqb image source (sym is)) refl

-- what is answered as received was carried
abbrev IsCarriedFor : (ℕ → List (List ℕ)) → (ℕ → List (List ℕ)) → Answer → Type 0
IsCarriedFor more comes answer =
    (words : List Insert) → answer ≡ Received words →
    (source : ℕ) (bytes : List ℕ) → Contains (comes source) bytes → Contains (more source) bytes

receive_holds : (more : ℕ → List (List ℕ)) (e : RunEnd) (now : ℕ) (sent : List Sent) (found : Result ℕ Astray) →
    IsCarriedFor more (λ source. carried_for found source sent) (on_image e (receive_move now sent) found).answer →
    All (Holds more) e.logs → All (Holds more) (on_image e (receive_move now sent) found).after.logs
unfolding on_log
receive_holds more e now sent (Err why) comes holds = holds
receive_holds more e now sent (Ok image) comes holds =
    let bytes : List (List ℕ) = map (λ (frame : Sent). frame.bytes) sent in
    log_keeps (Holds more) e image (receive_move now sent) unheard
    (λ log found there.
    let same = sent_for image log.source sent there.source_is in
    let told = ap (λ (o : Option WholeLog). (moved_on e image (receive_move now sent) unheard o).answer) found in
    received_holds (more log.source) now sent log.whole
    (All-weaker (Contains bytes) (Contains (more log.source))
    (λ one has.
    comes (words_in sent log.whole) told log.source one (subst (λ (all : List (List ℕ)). Contains all one) (sym same) has))
    bytes (All-contains_itself bytes))
    there.holds)
    holds

beat_holds : (more : ℕ → List (List ℕ)) (e : RunEnd) (now : ℕ) (place : TermPlace) (found : Result ℕ Astray) →
    All (Holds more) e.logs → All (Holds more) (on_image e (beat_move now place) found).after.logs
beat_holds more e now place (Err why) holds = holds
beat_holds more e now place (Ok image) holds =
    log_keeps (Holds more) e image (beat_move now place) unheard
    (λ log found there. beaten_holds (more log.source) now place log.whole there.holds) holds

-- what leaves the frames of a log
still_carried : (carried : List (List ℕ)) (w v : AnyWhole) → IsStill w v → HoldsCarried carried w → HoldsCarried carried v
still_carried carried (whole w) (whole v) still holds = tt
still_carried carried (whole w) (rebuilt s) still holds = absurd still
still_carried carried (rebuilt r) (whole v) still holds = tt
still_carried carried (rebuilt r) (rebuilt s) still holds = subst (AreCarried carried) (sym still.frames) holds

quiet_holds : (carried : ℕ → List (List ℕ)) (e : RunEnd) (source : ℕ) (move : WholeLog → Move) (absent : Answer) →
    IsQuiet move → All (Holds carried) e.logs → All (Holds carried) (on_log e source move absent).after.logs
quiet_holds carried e source move absent quiet holds =
    log_keeps (Holds carried) e source move absent
    (λ log found there.
    still_holds (λ n w. HoldsCarried (carried n) w) log (move log).after (quiet log)
    (still_carried (carried log.source) log.whole) there.holds)
    holds

packet_holds : (more : ℕ → List (List ℕ)) (s : State) (e : RunEnd) (now : ℕ) (local from : Address) (read : Result Content BadPacket) →
    IsCarriedFor more (λ source. carried_on s e source local from read) (on_packet s e now local from read).answer →
    All (Holds more) e.logs → All (Holds more) (on_packet s e now local from read).after.logs
packet_holds more s e now local from (Err fault) comes holds = holds
packet_holds more s e now local from (Ok (frames [])) comes holds = holds
packet_holds more s e now local from (Ok (frames (frame ∷ later))) comes holds =
    receive_holds more e now (frame ∷ later) (image_by s e local from frame.header.place) comes holds
packet_holds more s e now local from (Ok (beat header)) comes holds =
    beat_holds more e now header.place (image_by s e local from header.place) holds
packet_holds more s e now local from (Ok (setup fields)) comes holds =
    event_keeps (Holds more) e (SetUp now local from fields) (holds_kept more) holds
packet_holds more s e now local from (Ok (nak fields)) comes holds =
    asked_cases (λ what. All (Holds more) what.after.logs) e now from fields
    (λ source move quiet. quiet_holds more e source move unheard quiet holds) (λ cause. holds)
    (resending_of s from fields.session_id fields.stream_id)
packet_holds more s e now local from (Ok (status fields)) comes holds =
    told_cases (λ what. All (Holds more) what.after.logs) e now from fields
    (λ source move quiet. quiet_holds more e source move unheard quiet holds) (λ cause. holds)
    (joining_of s from fields.session_id fields.stream_id)

offer_holds : (more : ℕ → List (List ℕ)) (s : State) (e : RunEnd) (now client registration : ℕ) (message : List ℕ)
    (o : Option LogRequest) → All (Holds more) e.logs →
    All (Holds more) (on_offered s e now client registration message o).after.logs
unfolding offer_move
offer_holds more s e now client registration message None holds = holds
offer_holds more s e now client registration message (Some request) holds =
    log_keeps (Holds more) e request.source (offer_move s now client registration message) (OfferedAs Closed)
    (λ log found there.
    offer_under_holds more s now message log (offering_of s client registration) there.holds)
    holds

poll_holds : (more : ℕ → List (List ℕ)) (s : State) (e : RunEnd) (client subscription source limit : ℕ) → All (Holds more) e.logs →
    All (Holds more) (on_log e source (poll_move s client subscription limit) IsGone).after.logs
unfolding poll_move
poll_holds more s e client subscription source limit holds =
    log_keeps (Holds more) e source (poll_move s client subscription limit) IsGone
    (λ log found there.
    poll_under_holds more subscription limit log (receiving_of s client subscription log.source)
    (position_in log.whole subscription) there.holds)
    holds

-- what was carried before a step, and by it
abbrev pub carried_with : (ℕ → List (List ℕ)) → State → RunEnd → Step → Answer → ℕ → List (List ℕ)
carried_with carried s e step answer source = carried source ++ carried_by s e source step answer

moved_holds : (carried : ℕ → List (List ℕ)) (s : State) (e : RunEnd) (step : Step) →
    All (Holds (carried_with carried s e step (moved_by s e step).answer)) e.logs →
    All (Holds (carried_with carried s e step (moved_by s e step).answer)) (moved_by s e step).after.logs
moved_holds carried s e (Packet now local from bytes) holds =
    let step : Step = Packet now local from bytes in
    let answer : Answer = (moved_by s e step).answer in
    packet_holds (carried_with carried s e step answer) s e now local from (packet_of bytes)
    (λ words is source one has.
    Contains-append_right (carried source) (carried_by s e source step answer) one
    (subst (λ (told : Answer). Contains (carried_by s e source step told) one) (sym is) has))
    holds
moved_holds carried s e (Conductor event) holds =
    let step : Step = Conductor event in
    let more : ℕ → List (List ℕ) = carried_with carried s e step (moved_by s e step).answer in
    event_keeps (Holds more) e event (holds_kept more) holds
moved_holds carried s e (Offers now client registration message) holds =
    let step : Step = Offers now client registration message in
    offer_holds (carried_with carried s e step (moved_by s e step).answer) s e now client registration message
    (offering_of s client registration) holds
moved_holds carried s e (Polls now client subscription source limit) holds =
    let step : Step = Polls now client subscription source limit in
    poll_holds (carried_with carried s e step (moved_by s e step).answer) s e client subscription source limit holds
moved_holds carried s e (Send now source) holds =
    let step : Step = Send now source in
    quiet_holds (carried_with carried s e step (moved_by s e step).answer) e source (send_move s now) IsGone
    (send_quiet s now) holds
moved_holds carried s e (Image now source) holds =
    let step : Step = Image now source in
    let more : ℕ → List (List ℕ) = carried_with carried s e step (moved_by s e step).answer in
    report_cases (λ what. All (Holds more) what.after.logs) s e now source holds
    (λ move quiet. quiet_holds more e source move IsGone quiet holds) (publisher_of s source)
moved_holds carried s e (Lists now client) holds = holds
moved_holds carried s e (Value now client number) holds = holds

with_more : (carried : ℕ → List (List ℕ)) (s : State) (e : RunEnd) (step : Step) (answer : Answer) → All (Holds carried) e.logs →
    All (Holds (carried_with carried s e step answer)) e.logs
with_more carried s e step answer holds =
    all_more carried (carried_with carried s e step answer)
    (λ source bytes has. Contains-append_left (carried source) (carried_by s e source step answer) bytes has) e.logs holds

-- what holds of what a step comes to
abbrev Came : (ℕ → List (List ℕ)) → State → RunEnd → Step → Moved → Type 0
Came carried s e step what = All (Holds (carried_with carried s e step what.answer)) what.after.logs

step_holds : (carried : ℕ → List (List ℕ)) (e : RunEnd) (reading : Reading) (answer : Answer) → IsAnswerTo e reading answer →
    All (Holds carried) e.logs →
    All (Holds (carried_with carried (read_by e reading.older) e reading.step answer)) (left_by e reading answer).logs
step_holds carried e reading answer is holds =
    let s : State = read_by e reading.older in
    step_either (λ told end. All (Holds (carried_with carried s e reading.step told)) end.logs) e (moved_to e reading) answer is
    (with_more carried s e reading.step NoMemory holds)
    (moved_holds carried s e reading.step (with_more carried s e reading.step (moved_by s e reading.step).answer holds))

-- ---- runs

-- what was carried before a run, and in it
abbrev carried_behind : (ℕ → List (List ℕ)) → RunEnd → List Reading → List Answer → ℕ → List (List ℕ)
carried_behind carried e readings answers source = carried source ++ carried_in e source readings answers

run_holds : (carried : ℕ → List (List ℕ)) (e : RunEnd) (readings : List Reading) (answers : List Answer) →
    AreAnswers e readings answers → All (Holds carried) e.logs →
    All (Holds (carried_behind carried e readings answers)) (end_of e readings answers).logs
run_holds carried e [] [] are holds =
    all_more carried (carried_behind carried e [] [])
    (λ source bytes has. Contains-append_left (carried source) [] bytes has) e.logs holds
run_holds carried e [] (answer ∷ answers) are holds = absurd are
run_holds carried e (reading ∷ readings) [] are holds = absurd are
run_holds carried e (reading ∷ readings) (answer ∷ answers) are holds =
    let next : RunEnd = left_by e reading answer in
    let s : State = read_by e reading.older in
    let now : ℕ → List (List ℕ) = carried_with carried s e reading.step answer in
    all_more (carried_behind now next readings answers) (carried_behind carried e (reading ∷ readings) (answer ∷ answers))
    (λ source bytes has.
    subst (λ (all : List (List ℕ)). Contains all bytes)
    (append_assoc (carried source) (carried_by s e source reading.step answer) (carried_in next source readings answers)) has)
    (end_of next readings answers).logs
    (run_holds now next readings answers are.1 (step_holds carried e reading answer are.0 holds))

-- ---- what a poll gives then

fetched_carried : (carried : List (List ℕ)) (limit : ℕ) (fs : List Frame) → AreCarried carried fs →
    All (IsCarried carried) (fragments_of (passed limit (map polled_frame fs)))
fetched_carried carried limit [] are = All-nil (IsCarried carried)
fetched_carried carried limit (f ∷ fs) are =
    let P : Frame → Type 0 = λ g. Contains carried g.bytes in
    let left : List Passed = passed (limit - counted (polled_frame f)) (map polled_frame fs) in
    let rest = fetched_carried carried (limit - counted (polled_frame f)) fs (All-tail P f fs are) in
    cond_both (limit == 0) [] (polled_frame f ∷ left)
    (λ (gs : List Passed). All (IsCarried carried) (fragments_of gs))
    (λ _. All-nil (IsCarried carried))
    (λ _.
    cond_both (is_pad f) None (Some (fetched f))
    (λ (o : Option Fetched). All (IsCarried carried) (with_fragment o (fragments_of left)))
    (λ _. rest)
    (λ _.
    All-cons (IsCarried carried) (fetched f) (fragments_of left)
    (record { bytes = f.bytes; there = All-head P f fs are; flags_are = refl; payload_is = refl }) rest))

from_carried : (carried : List (List ℕ)) (r : Rebuilt) (subscription limit : ℕ) (o : Option ℕ) →
    AreCarried carried r.frames →
    All (IsCarried carried) (polled_from r subscription limit o).fragments
from_carried carried r subscription limit None are = All-nil (IsCarried carried)
from_carried carried r subscription limit (Some at) are =
    fetched_carried carried limit (whole_from r at)
    (All-filter (begins_within at (contiguous_of r)) (λ (f : Frame). Contains carried f.bytes) r.frames are)

image_carried : (carried : List (List ℕ)) (r : Rebuilt) (subscription limit : ℕ) → AreCarried carried r.frames →
    All (IsCarried carried) (any_polled (rebuilt r) subscription limit).fragments
unfolding image_polled
image_carried carried r subscription limit are =
    from_carried carried r subscription limit (position_of r.pairs subscription) are

poll_carried : (carried : ℕ → List (List ℕ)) (s : State) (e : RunEnd) (client subscription source limit : ℕ)
    (fragments : List Fetched) (log : WholeLog) (r : Rebuilt) → log_at e.logs source ≡ Some log →
    log.whole ≡ rebuilt r → All (Holds carried) e.logs →
    Polled fragments ≡ (on_log e source (poll_move s client subscription limit) IsGone).answer →
    All (IsCarried (carried source)) fragments
unfolding on_log poll_move
poll_carried carried s e client subscription source limit fragments log r found same holds is =
    let move : WholeLog → Move = poll_move s client subscription limit in
    let there = found_log (Holds carried) source log e.logs holds found in
    let told : Polled fragments ≡ (move log).answer =
    is ∙ ap (λ (o : Option WholeLog). (moved_on e source move IsGone o).answer) found in
    let gives =
    poll_gives subscription limit log (receiving_of s client subscription log.source)
    (position_in log.whole subscription) fragments refl told in
    let given : fragments ≡ (any_polled (rebuilt r) subscription limit).fragments =
    gives.given_is ∙ ap (λ (w : AnyWhole). (any_polled w subscription limit).fragments) same in
    let are : AreCarried (carried source) r.frames =
    subst (HoldsCarried (carried source)) same
    (subst (λ (n : ℕ). HoldsCarried (carried n) log.whole) there.source_is there.holds) in
    subst (All (IsCarried (carried source))) (sym given) (image_carried (carried source) r subscription limit are)

-- in a run that begins without logs
opening_holds : (settings : Settings) (policy : Rules) (peers : List Peer) →
    All (Holds (λ source. [])) (opening_end settings policy peers).logs
unfolding opening_end
opening_holds settings policy peers = All-nil (Holds (λ source. []))

pub payloads_come : PayloadsComeFromTheirPublisher
payloads_come settings policy peers readings answers older now client subscription source limit fragments log r are found same is =
    let first : RunEnd = opening_end settings policy peers in
    let last : RunEnd = end_of first readings answers in
    let s : State = read_by last older in
    poll_carried (λ n. carried_in first n readings answers) s last client subscription source limit
    fragments log r found same (run_holds (λ n. []) first readings answers are (opening_holds settings policy peers)) is
