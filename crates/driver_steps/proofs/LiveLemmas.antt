-- The fragments in an open log were put there by offers that were granted, and a poll gives fragments of the log that
-- was asked for.
-- ---- polls of a whole log
-- the frames behind a frame's start, and those before it
use Rattle.std.proofs.Common.{◌≡◌, ℕ, ◌==◌, not, Bool, true, false, cond, List, [], ◌∷◌, ◌++◌, map, filter, Option, Some, None, refl, sym, ap, ◌∙◌, subst, append_assoc}
use Rattle.std.specs.List.{All, Contains}
use Rattle.std.specs.Prelude.{IfSome}
use Rattle.std.proofs.lemmas.Bool.{cond_both, eqb-true, eq-eqb}
use Rattle.std.proofs.lemmas.List.Elements.{All-nil, All-cons, All-head, All-tail, All-append, All-map, All-filter, All-weaker, Contains-append_left, Contains-append_right, Contains-push}
use Rattle.log_traffic.specs.Whole.{AnyWhole, whole, rebuilt, beaten, polled as any_polled, position_in, received}
use Rattle.log_traffic.proofs.AnyLemmas.{moved_there}
use Rattle.log_traffic.proofs.StillLemmas.{IsStill}
use Rattle.driver_core.specs.Change.{Change}
use Rattle.driver_core.specs.declared.asked.log_request.LogRequest.{LogRequest}
use Rattle.driver_core.specs.declared.state.peer.Peer.{Peer}
use Rattle.driver_core.specs.declared.state.settings.Settings.{Settings}
use Rattle.driver_core.specs.Conduct.{conduct}
use Rattle.driver_core.specs.LogRequests.{offering_of, receiving_of}
use Rattle.driver_core.specs.PublicationRequests.{publisher_of}
use Rattle.driver_core.specs.Pairs.{pairs_of}
use Rattle.driver_core.specs.Renewal.{source_at}
use Rattle.driver_core.specs.State.{State}
use Rattle.log_steps.specs.Sending.{send_move}
use Rattle.log_steps.specs.Receiving.{beat_move, receive_move, unheard}
use Rattle.driver_steps.proofs.PacketLemmas.{packet_cases}
use Rattle.driver_steps.proofs.QuietLemmas.{IsQuiet, report_cases, send_quiet, still_holds}
use Rattle.frame_codec.specs.declared.header.TermPlace.{TermPlace}
use Rattle.frame_codec.specs.Datagram.{packet_of}
use Rattle.frame_codec.specs.Frame.{Sent}
use Rattle.driver_core.specs.declared.state.event.Event.{Event}
use Rattle.driver_core.specs.declared.state.event.Event.TheVariants.{Setup as SetUp}
use Rattle.log_steps.specs.declared.answer.Answer.{Answer}
use Rattle.log_steps.specs.declared.answer.Answer.TheVariants.{NoMemory, Offered as OfferedAs, Polled, Gone as IsGone}
use Rattle.log_steps.specs.declared.answer.Offered.TheVariants.{At as PutAt, Closed}
use Rattle.driver_steps.specs.declared.step.Step.{Step}
use Rattle.driver_steps.specs.declared.step.Step.TheVariants.{Conductor, Packet, Offer as Offers, Poll as Polls, Image, List as Lists, Send, Value}
use Rattle.driver_steps.specs.Ends.{after_by, begun, conducted, inputs_of, IsAnswerOf, log_at, logs_after, Moved, moved_by, moved_on, on_log, on_offered, opened_for, opening_end, rejoined_log, RunEnd, stays_open, with_log}
use Rattle.driver_steps.specs.Runs.{Reading, AreAnswers, IsAnswerTo, end_of, left_by, moved_to, read_by}
use Rattle.log_steps.specs.Idents.{begins_of}
use Rattle.driver_steps.specs.Laws.{frames_for, put_into, granted_by, granted_in, AreNext, AreNextWhole, AreNextIn, ComeFromLog, BytesComeFromTheLiveLog}
use Rattle.log_steps.specs.Recovery.{recovering}
use Rattle.log_steps.specs.Moves.{WholeLog, Move, offer_to, offer_under, offer_move, poll_under, poll_move}
use Rattle.frame_codec.specs.declared.flags.Flags.{Flags}
use Rattle.image_log.specs.Polling.{Poll as ImagePoll, polled as image_polled, polled_frame, polled_from as image_polled_from, whole_from}
use Rattle.image_log.specs.Rebuilt.{Rebuilt, settled}
use Rattle.policy_core.specs.declared.verdict.Verdict.{Verdict}
use Rattle.policy_core.specs.RuleList.{Rules}
use Rattle.stream_registry.specs.declared.lingering.LogPlace.{LogPlace}
use Rattle.stream_registry.specs.declared.pairs.Pair.{Pair}
use Rattle.stream_registry.specs.declared.row.LogRow.{LogRow}
use Rattle.term_log.specs.declared.ident.Ident.{Ident}
use Rattle.term_log.specs.Frames.{Frame, fragment}
use Rattle.log_pairs.specs.Pairs.{position_of}
use Rattle.term_log.specs.PollLaws.{AreFragmentsOf}
use Rattle.log_pairs.specs.Polling.{Fetched, behind as behind_all, fragments_of, passed}
use Rattle.log_pairs.proofs.Pairing.{at_found}
use Rattle.term_log.specs.Polling.{polled_run}
use Rattle.term_log.specs.Whole.{Whole, Poll, frames_behind, polled_from, polled, AreStarts}
use Rattle.term_log.specs.Kept.{IsStart}
use Rattle.term_log.proofs.Polls.{behind_taken, taken as taken_from}
use Rattle.driver_steps.proofs.OwnedLemmas.{behind_start, passed_behind, polled_frames, OwnsFrames, OwnsAny, Owns, IsMore, all_more, begins_owns, rejoined_owns, offer_under_owns, poll_under_owns}

-- ---- all logs

-- what holds of each log that begins, and goes on to hold whoever reads it, is kept by events
pub record IsKept (P : WholeLog → Type 0) : Type 0 where
  pub begins :
      (settings : Settings) (now : ℕ) (log : LogRow) →
      P (record { source = log.number; whole = begins_of settings now log; recovery = recovering settings })
  pub rejoins : (pairs : List Pair) (log : WholeLog) → P log → P (rejoined_log pairs log)

begun_keeps : (P : WholeLog → Type 0) (s : State) (o : Option LogRow) → IsKept P → All P (begun s o)
begun_keeps P s None kept = All-nil P
begun_keeps P s (Some log) kept =
    let begins : WholeLog =
    record { source = log.number; whole = begins_of s.settings s.moment log; recovery = recovering s.settings } in
    All-cons P begins [] (kept.begins s.settings s.moment log) (All-nil P)

opened_keeps : (P : WholeLog → Type 0) (s : State) (o : Option LogPlace) → IsKept P → All P (opened_for s o)
opened_keeps P s None kept = All-nil P
opened_keeps P s (Some place) kept = begun_keeps P s (source_at s.streams.sources place.source) kept

after_keeps : (P : WholeLog → Type 0) (change : Change) (logs : List WholeLog) → IsKept P → All P logs →
    All P (logs_after change logs)
unfolding logs_after
after_keeps P change logs kept all =
    let pairs : List Pair = pairs_of change.after in
    let opened : List WholeLog = opened_for change.after change.outcome.opens in
    let kept_logs : List WholeLog = filter (stays_open change.outcome.closes) (logs ++ opened) in
    let both = All-append P logs opened all (opened_keeps P change.after change.outcome.opens kept) in
    let left = All-filter (stays_open change.outcome.closes) P (logs ++ opened) both in
    All-map P (rejoined_log pairs) kept_logs
    (All-weaker P (λ log. P (rejoined_log pairs log)) (kept.rejoins pairs) kept_logs left)

pub event_keeps : (P : WholeLog → Type 0) (e : RunEnd) (event : Event) → IsKept P → All P e.logs →
    All P (conducted e event).after.logs
unfolding conducted
event_keeps P e event kept all =
    after_keeps P (conduct e.registry event (inputs_of e.registry event e.logs)) e.logs kept all

-- the log that is found is one of them, of that source
pub record IsFound (P : WholeLog → Type 0) (source : ℕ) (log : WholeLog) : Type 0 where
  pub holds : P log
  pub source_is : log.source ≡ source

found_in : (P : WholeLog → Type 0) (source : ℕ) (first log : WholeLog) (logs : List WholeLog) (b : Bool) →
    (first.source == source) ≡ b → P first → (log_at logs source ≡ Some log → IsFound P source log) →
    cond b (Some first) (log_at logs source) ≡ Some log → IsFound P source log
found_in P source first log logs true same holds rest found =
    let is : first ≡ log = cc in
    subst (IsFound P source) is (record { holds = holds; source_is = eqb-true first.source source same })
found_in P source first log logs false same holds rest found = rest found

pub found_log : (P : WholeLog → Type 0) (source : ℕ) (log : WholeLog) (logs : List WholeLog) → All P logs →
    log_at logs source ≡ Some log → IsFound P source log
found_log P source log [] all found = absurd (cc)
found_log P source log (first ∷ logs) all found =
    found_in P source first log logs (first.source == source) refl (All-head P first logs all)
    (found_log P source log logs (All-tail P first logs all)) found

pub all_with : (P : WholeLog → Type 0) (source : ℕ) (log : WholeLog) (logs : List WholeLog) → All P logs → P log →
    All P (with_log logs source log)
all_with P source log [] all holds = all
all_with P source log (first ∷ logs) all holds =
    let rest = All-tail P first logs all in
    cond_both (first.source == source) _ _ (All P) (λ _. All-cons P log logs holds rest)
    (λ _.
    All-cons P first (with_log logs source log) (All-head P first logs all) (all_with P source log logs rest holds))

found_keeps : (P : WholeLog → Type 0) (e : RunEnd) (source : ℕ) (move : WholeLog → Move) (absent : Answer)
    (o : Option WholeLog) → log_at e.logs source ≡ o →
    ((log : WholeLog) → log_at e.logs source ≡ Some log → IsFound P source log → P (move log).after) → All P e.logs →
    All P (moved_on e source move absent o).after.logs
found_keeps P e source move absent None found keeps all = all
found_keeps P e source move absent (Some log) found keeps all =
    all_with P source _ e.logs all (keeps log found (found_log P source log e.logs all found))

-- what holds of all logs, and after its move of the one that moves
pub log_keeps : (P : WholeLog → Type 0) (e : RunEnd) (source : ℕ) (move : WholeLog → Move) (absent : Answer) →
    ((log : WholeLog) → log_at e.logs source ≡ Some log → IsFound P source log → P (move log).after) → All P e.logs →
    All P (on_log e source move absent).after.logs
unfolding on_log
log_keeps P e source move absent keeps all =
    found_keeps P e source move absent (log_at e.logs source) refl keeps all

-- ---- steps

-- the message's frames were granted to the source, if the answer is a position
abbrev IsPutInto : (ℕ → List Frame) → RunEnd → List ℕ → Option LogRequest → Answer → Type 0
IsPutInto more e message o answer =
    (position : ℕ) → answer ≡ OfferedAs (PutAt position) →
    (source : ℕ) (frame : Frame) → Contains (put_into e source message o) frame → Contains (more source) frame

-- an offer that is answered a position is allowed
pub is_allowed : (verdict : Bool) → not verdict ≡ false → verdict ≡ true
is_allowed true is = refl
is_allowed false is = absurd (cc is)

offers_allowed : (now timeout : ℕ) (verdict : Verdict) (message : List ℕ) (log : WholeLog) (w : AnyWhole) (position : ℕ) →
    (offer_to now timeout verdict message log w).answer ≡ OfferedAs (PutAt position) → verdict.allow ≡ true
offers_allowed now timeout verdict message log (whole frames) position =
    let P : Move → Type 0 = λ move. move.answer ≡ OfferedAs (PutAt position) → verdict.allow ≡ true in
    cond_both (not verdict.allow) _ _ P (λ _ other. absurd (cc other)) (λ granted _. is_allowed verdict.allow granted)
offers_allowed now timeout verdict message log (rebuilt frames) position = λ other. absurd (cc other)

put_is_allowed : (s : State) (now : ℕ) (message : List ℕ) (request : LogRequest) (log : WholeLog) (position : ℕ) →
    (offer_under s.settings.connection_timeout (Some request) now message log).answer ≡ OfferedAs (PutAt position) →
    request.decision.verdict.allow ≡ true
put_is_allowed s now message request log position =
    let P : Move → Type 0 = λ move. move.answer ≡ OfferedAs (PutAt position) → request.decision.verdict.allow ≡ true in
    cond_both (not (request.source == log.source)) _ _ P (λ _ other. absurd (cc other))
    (λ _. offers_allowed now s.settings.connection_timeout request.decision.verdict message log log.whole position)

-- the log that took the message is the one whose cut counts as granted
put_into_found : (e : RunEnd) (message : List ℕ) (request : LogRequest) (log : WholeLog) →
    log_at e.logs request.source ≡ Some log → log.source ≡ request.source → request.decision.verdict.allow ≡ true →
    put_into e log.source message (Some request) ≡ frames_for log.whole message
put_into_found e message request log found source_is allows =
    rw (source_is, eq-eqb request.source request.source refl, allows, found) refl

offer_found_owns : (granted more : ℕ → List Frame) (s : State) (e : RunEnd) (now client registration : ℕ) (message : List ℕ)
    (request : LogRequest) (o : Option WholeLog) → offering_of s client registration ≡ Some request →
    log_at e.logs request.source ≡ o → IsMore granted more →
    IsPutInto more e message (Some request)
    (moved_on e request.source (offer_move s now client registration message) (OfferedAs Closed) o).answer →
    All (Owns granted) e.logs →
    All (Owns more)
    (moved_on e request.source (offer_move s now client registration message) (OfferedAs Closed) o).after.logs
unfolding offer_move
offer_found_owns granted more s e now client registration message request None asked found is puts owned =
    all_more granted more is e.logs owned
offer_found_owns granted more s e now client registration message request (Some log) asked found is puts owned =
    let there = found_log (Owns granted) request.source log e.logs owned found in
    all_with (Owns more) request.source _ e.logs (all_more granted more is e.logs owned)
    (offer_under_owns granted more s now message log (offering_of s client registration) is there.holds
    (λ position answer frame has.
    let told : (offer_under s.settings.connection_timeout (Some request) now message log).answer ≡ OfferedAs (PutAt position) =
    ap (λ (o : Option LogRequest). (offer_under s.settings.connection_timeout o now message log).answer) (sym asked) ∙ answer in
    let allows = put_is_allowed s now message request log position told in
    let same = put_into_found e message request log found there.source_is allows in
    puts position answer log.source frame (subst (λ (fs : List Frame). Contains fs frame) (sym same) has)))

offer_owns : (granted more : ℕ → List Frame) (s : State) (e : RunEnd) (now client registration : ℕ) (message : List ℕ)
    (o : Option LogRequest) → offering_of s client registration ≡ o → IsMore granted more →
    IsPutInto more e message o (on_offered s e now client registration message o).answer → All (Owns granted) e.logs →
    All (Owns more) (on_offered s e now client registration message o).after.logs
unfolding on_log
offer_owns granted more s e now client registration message None asked is puts owned =
    all_more granted more is e.logs owned
offer_owns granted more s e now client registration message (Some request) asked is puts owned =
    offer_found_owns granted more s e now client registration message request (log_at e.logs request.source) asked refl is
    puts owned

poll_owns : (granted : ℕ → List Frame) (s : State) (e : RunEnd) (client subscription source limit : ℕ) → All (Owns granted) e.logs →
    All (Owns granted) (on_log e source (poll_move s client subscription limit) IsGone).after.logs
unfolding poll_move
poll_owns granted s e client subscription source limit owned =
    log_keeps (Owns granted) e source (poll_move s client subscription limit) IsGone
    (λ log found there.
    poll_under_owns granted subscription limit log (receiving_of s client subscription log.source)
    (position_in log.whole subscription) there.holds) owned

-- what was granted before a step, and by it
abbrev pub granted_with : (ℕ → List Frame) → State → RunEnd → Step → Answer → ℕ → List Frame
granted_with granted s e step answer source = granted source ++ granted_by s e source step answer

with_is_more : (granted : ℕ → List Frame) (s : State) (e : RunEnd) (step : Step) (answer : Answer) →
    IsMore granted (granted_with granted s e step answer)
with_is_more granted s e step answer source frame has =
    Contains-append_left (granted source) (granted_by s e source step answer) frame has

-- a step that puts nothing into a log
still_owns : (granted : ℕ → List Frame) (s : State) (e : RunEnd) (step : Step) (answer : Answer) (logs : List WholeLog) →
    All (Owns granted) logs → All (Owns (granted_with granted s e step answer)) logs
still_owns granted s e step answer logs owned =
    all_more granted (granted_with granted s e step answer) (with_is_more granted s e step answer) logs owned

-- a publication's log begins without frames, and who reads a log changes none of them
owns_kept : (granted : ℕ → List Frame) → IsKept (Owns granted)
owns_kept granted = record {
  begins = λ settings now log. begins_owns (granted log.number) settings now log log.origin;
  rejoins = rejoined_owns granted;
}

-- datagrams put nothing into a publication's log
received_owns : (granted : List Frame) (now : ℕ) (sent : List Sent) (w : AnyWhole) → OwnsAny granted w →
    OwnsAny granted (received now sent w)
received_owns granted now sent (whole w) owns = owns
received_owns granted now sent (rebuilt r) owns = tt

beaten_owns : (granted : List Frame) (now : ℕ) (place : TermPlace) (w : AnyWhole) → OwnsAny granted w →
    OwnsAny granted (beaten now place w)
beaten_owns granted now place (whole w) owns = owns
beaten_owns granted now place (rebuilt r) owns = tt

receive_owns : (granted : ℕ → List Frame) (e : RunEnd) (source now : ℕ) (sent : List Sent) → All (Owns granted) e.logs →
    All (Owns granted) (on_log e source (receive_move now sent) unheard).after.logs
receive_owns granted e source now sent owned =
    log_keeps (Owns granted) e source (receive_move now sent) unheard
    (λ log found there. received_owns (granted log.source) now sent log.whole there.holds) owned

beat_owns : (granted : ℕ → List Frame) (e : RunEnd) (source now : ℕ) (place : TermPlace) → All (Owns granted) e.logs →
    All (Owns granted) (on_log e source (beat_move now place) unheard).after.logs
beat_owns granted e source now place owned =
    log_keeps (Owns granted) e source (beat_move now place) unheard
    (λ log found there. beaten_owns (granted log.source) now place log.whole there.holds) owned

-- what leaves the frames and the readers of a log leaves who put them there
still_any : (granted : List Frame) (w v : AnyWhole) → IsStill w v → OwnsAny granted w → OwnsAny granted v
still_any granted (whole w) (whole v) still owns = record {
  read =
      subst (λ (i : Ident). AreStarts i.start v.frames v.pairs) (sym still.ident)
      (subst (λ (fs : List Frame). AreStarts w.ident.start fs v.pairs) (sym still.frames)
      (subst (AreStarts w.ident.start w.frames) (sym still.pairs) owns.read));
  owned = λ flags payload has.
      owns.owned flags payload (subst (λ (fs : List Frame). Contains fs (fragment flags payload)) still.frames has);
}
still_any granted (whole w) (rebuilt s) still owns = absurd still
still_any granted (rebuilt r) (whole v) still owns = absurd still
still_any granted (rebuilt r) (rebuilt s) still owns = tt

quiet_owns : (granted : ℕ → List Frame) (e : RunEnd) (source : ℕ) (move : WholeLog → Move) (absent : Answer) → IsQuiet move →
    All (Owns granted) e.logs → All (Owns granted) (on_log e source move absent).after.logs
quiet_owns granted e source move absent quiet owned =
    log_keeps (Owns granted) e source move absent
    (λ log found there.
    still_holds (λ n w. OwnsAny (granted n) w) log (move log).after (quiet log)
    (still_any (granted log.source) log.whole) there.holds)
    owned

moved_owns : (granted : ℕ → List Frame) (s : State) (e : RunEnd) (step : Step) → All (Owns granted) e.logs →
    All (Owns (granted_with granted s e step (moved_by s e step).answer)) (moved_by s e step).after.logs
moved_owns granted s e (Packet now local from bytes) owned =
    let step : Step = Packet now local from bytes in
    still_owns granted s e step (moved_by s e step).answer (moved_by s e step).after.logs
    (packet_cases (λ what. All (Owns granted) what.after.logs) s e now local from (record {
      drops = λ cause. owned;
      receives = λ source sent. receive_owns granted e source now sent owned;
      hears = λ source place. beat_owns granted e source now place owned;
      asks = λ source move quiet. quiet_owns granted e source move unheard quiet owned;
      sets_up = λ fields. event_keeps (Owns granted) e (SetUp now local from fields) (owns_kept granted) owned;
    }) (packet_of bytes))
moved_owns granted s e (Conductor event) owned =
    let step : Step = Conductor event in
    still_owns granted s e step (moved_by s e step).answer (moved_by s e step).after.logs
    (event_keeps (Owns granted) e event (owns_kept granted) owned)
moved_owns granted s e (Offers now client registration message) owned =
    let step : Step = Offers now client registration message in
    let answer : Answer = (moved_by s e step).answer in
    offer_owns granted (granted_with granted s e step answer) s e now client registration message
    (offering_of s client registration) refl (with_is_more granted s e step answer)
    (λ position is source frame has.
    Contains-append_right (granted source) (granted_by s e source step answer) frame
    (subst (λ (a : Answer). Contains (granted_by s e source step a) frame) (sym is) has))
    owned
moved_owns granted s e (Polls now client subscription source limit) owned =
    let step : Step = Polls now client subscription source limit in
    still_owns granted s e step (moved_by s e step).answer (moved_by s e step).after.logs
    (poll_owns granted s e client subscription source limit owned)
moved_owns granted s e (Send now source) owned =
    let step : Step = Send now source in
    still_owns granted s e step (moved_by s e step).answer (moved_by s e step).after.logs
    (quiet_owns granted e source (send_move s now) IsGone (send_quiet s now) owned)
moved_owns granted s e (Image now source) owned =
    let step : Step = Image now source in
    still_owns granted s e step (moved_by s e step).answer (moved_by s e step).after.logs
    (report_cases (λ what. All (Owns granted) what.after.logs) s e now source owned
    (λ move quiet. quiet_owns granted e source move IsGone quiet owned) (publisher_of s source))
moved_owns granted s e (Lists now client) owned =
    let step : Step = Lists now client in
    still_owns granted s e step (moved_by s e step).answer e.logs owned
moved_owns granted s e (Value now client number) owned =
    let step : Step = Value now client number in
    still_owns granted s e step (moved_by s e step).answer e.logs owned

-- a step leaves and is answered what it comes to
told_either : (P : Answer → RunEnd → Type 0) (what : Moved) (answer : Answer) → answer ≡ what.answer →
    P what.answer what.after → P answer what.after
told_either P what answer is holds = subst (λ (a : Answer). P a what.after) (sym is) holds

-- or it is refused memory, and all is as it was
pub step_either : (P : Answer → RunEnd → Type 0) (e : RunEnd) (what : Moved) (answer : Answer) → IsAnswerOf what answer →
    P NoMemory e → P what.answer what.after → P answer (after_by e what answer)
step_either P e what NoMemory is stays moves = stays
step_either P e what answer is stays moves = told_either P what answer is moves

-- those of the step that came to that
abbrev Came : (ℕ → List Frame) → State → RunEnd → Step → Moved → Type 0
Came granted s e step what = All (Owns (granted_with granted s e step what.answer)) what.after.logs

step_owns : (granted : ℕ → List Frame) (e : RunEnd) (reading : Reading) (answer : Answer) → IsAnswerTo e reading answer →
    All (Owns granted) e.logs →
    All (Owns (granted_with granted (read_by e reading.older) e reading.step answer)) (left_by e reading answer).logs
step_owns granted e reading answer is owned =
    let s : State = read_by e reading.older in
    step_either (λ told end. All (Owns (granted_with granted s e reading.step told)) end.logs) e (moved_to e reading) answer is
    (still_owns granted s e reading.step NoMemory e.logs owned)
    (moved_owns granted s e reading.step owned)

-- ---- runs

-- what was granted before a run, and in it
abbrev granted_behind : (ℕ → List Frame) → RunEnd → List Reading → List Answer → ℕ → List Frame
granted_behind granted e readings answers source = granted source ++ granted_in e source readings answers

run_owns : (granted : ℕ → List Frame) (e : RunEnd) (readings : List Reading) (answers : List Answer) →
    AreAnswers e readings answers →
    All (Owns granted) e.logs → All (Owns (granted_behind granted e readings answers)) (end_of e readings answers).logs
run_owns granted e [] [] are owned =
    all_more granted (granted_behind granted e [] [])
    (λ source frame has. Contains-append_left (granted source) [] frame has) e.logs owned
run_owns granted e [] (answer ∷ answers) are owned = absurd are
run_owns granted e (reading ∷ readings) [] are owned = absurd are
run_owns granted e (reading ∷ readings) (answer ∷ answers) are owned =
    let next : RunEnd = left_by e reading answer in
    let s : State = read_by e reading.older in
    let now : ℕ → List Frame = granted_with granted s e reading.step answer in
    all_more (granted_behind now next readings answers) (granted_behind granted e (reading ∷ readings) (answer ∷ answers))
    (λ source frame has.
    subst (λ (fs : List Frame). Contains fs frame)
    (append_assoc (granted source) (granted_by s e source reading.step answer) (granted_in next source readings answers)) has)
    (end_of next readings answers).logs
    (run_owns now next readings answers are.1 (step_owns granted e reading answer are.0 owned))

-- ---- what a poll gives then

-- what a poll gives was granted
fetched_granted : (granted : List Frame) (w : Whole) →
    ((flags : Flags) (payload : List ℕ) → Contains w.frames (fragment flags payload) →
    Contains granted (fragment flags payload)) →
    (fs : List Fetched) → AreFragmentsOf w fs →
    All (λ (part : Fetched). Contains granted (fragment part.flags part.payload)) fs
fetched_granted granted w owned [] are = All-nil (λ (part : Fetched). Contains granted (fragment part.flags part.payload))
fetched_granted granted w owned (f ∷ fs) are =
    let frame : Frame = fragment f.flags f.payload in
    let is = are.0 in
    let there : Contains w.frames frame =
    subst (λ (gs : List Frame). Contains gs frame) (sym is.is)
    (Contains-append_right is.before (frame ∷ is.after) frame
    (Contains-append_left (frame ∷ []) is.after frame (Contains-push [] frame))) in
    All-cons (λ (part : Fetched). Contains granted (fragment part.flags part.payload)) f
    fs (owned f.flags f.payload there) (fetched_granted granted w owned fs are.1)

polled_is : (w : Whole) (subscription limit at : ℕ) → position_of w.pairs subscription ≡ Some at →
    polled w subscription limit ≡ polled_from w subscription limit (Some at)
unfolding polled
polled_is w subscription limit at is = ap (polled_from w subscription limit) is

image_polled_is : (r : Rebuilt) (subscription limit at : ℕ) → position_of r.pairs subscription ≡ Some at →
    image_polled r subscription limit ≡ image_polled_from r subscription limit (Some at)
unfolding image_polled
image_polled_is r subscription limit at is = ap (image_polled_from r subscription limit) is

next_of_term : (granted : List Frame) (subscription limit at : ℕ) (fragments : List Fetched) (w : Whole) →
    OwnsFrames granted w → position_of w.pairs subscription ≡ Some at →
    fragments ≡ (polled w subscription limit).fragments → AreNext granted subscription limit fragments w
next_of_term granted subscription limit at fragments w owns stood given_is =
    let start : IsStart w.ident.start w.frames at =
    subst (λ (o : Option ℕ). IfSome o (IsStart w.ident.start w.frames)) stood
    (at_found (IsStart w.ident.start w.frames) subscription w.pairs owns.read) in
    let from = behind_start w at start in
    let later : List Frame = frames_behind at w.ident.start w.frames in
    let t = taken_from at limit later in
    let is = polled_is w subscription limit at stood in
    record {
      at = at;
      before = from.before;
      next = t.front;
      left = t.rest;
      stood = stood;
      frames_are = passed_behind w limit at from t;
      from = from.place;
      as_many = sym t.passes ∙ ap (λ (fs : List Frame). passed limit (polled_run at fs)) t.is;
      given_are = given_is ∙ ap (λ (p : Poll). p.fragments) is
          ∙ ap fragments_of t.passes;
      stands = ap (λ (p : Poll). position_of p.after.pairs subscription) is
          ∙ moved_there subscription (behind_all at (passed limit (polled_run at later))) at w.pairs stood
          ∙ ap (λ (n : ℕ). Some n) (behind_taken at limit later t);
      offered = subst (All (λ (part : Fetched). Contains granted (fragment part.flags part.payload))) (sym given_is)
          (fetched_granted granted w owns.owned (polled w subscription limit).fragments
          (polled_frames w subscription limit owns.read));
    }

next_of_image : (subscription limit at : ℕ) (fragments : List Fetched) (r : Rebuilt) →
    position_of r.pairs subscription ≡ Some at →
    fragments ≡ (image_polled r subscription limit).fragments → AreNextWhole subscription limit fragments r
unfolding settled
next_of_image subscription limit at fragments r stood given_is =
    let is = image_polled_is r subscription limit at stood in
    record {
      at = at;
      stood = stood;
      given_are = given_is ∙ ap (λ (p : ImagePoll). p.fragments) is;
      stands = ap (λ (p : ImagePoll). position_of p.after.pairs subscription) is
          ∙ moved_there subscription (behind_all at (passed limit (map polled_frame (whole_from r at)))) at r.pairs stood;
    }

next_of : (granted : List Frame) (subscription limit at : ℕ) (fragments : List Fetched) (w : AnyWhole) → OwnsAny granted w →
    position_in w subscription ≡ Some at → fragments ≡ (any_polled w subscription limit).fragments →
    AreNextIn granted subscription limit fragments w
next_of granted subscription limit at fragments (whole frames) owns stood given_is =
    next_of_term granted subscription limit at fragments frames owns stood given_is
next_of granted subscription limit at fragments (rebuilt frames) owns stood given_is =
    next_of_image subscription limit at fragments frames stood given_is

-- where the subscription stood, and what it is given
pub record IsGiven (subscription limit : ℕ) (fragments : List Fetched) (w : AnyWhole) : Type 0 where
  pub at : ℕ
  pub stood : position_in w subscription ≡ Some at
  pub given_is : fragments ≡ (any_polled w subscription limit).fragments

-- a poll that gives fragments gives those of the log
pub poll_gives : (subscription limit : ℕ) (log : WholeLog) (o : Option LogRequest) (at : Option ℕ)
    (fragments : List Fetched) → position_in log.whole subscription ≡ at →
    Polled fragments ≡ (poll_under subscription limit log o at).answer → IsGiven subscription limit fragments log.whole
poll_gives subscription limit log None at fragments stood is = absurd (cc is)
poll_gives subscription limit log (Some request) None fragments stood is = absurd (cc is)
poll_gives subscription limit log (Some request) (Some at) fragments stood is =
    record {
      at = at;
      stood = stood;
      given_is = cond_both (not request.decision.verdict.allow) _ _
          (λ (move : Move).
          Polled fragments ≡ move.answer → fragments ≡ (any_polled log.whole subscription limit).fragments)
          (λ _ other. absurd (cc other)) (λ _ same. cc same) is;
    }

poll_comes : (granted : ℕ → List Frame) (s : State) (e : RunEnd) (client subscription source limit : ℕ) (fragments : List Fetched)
    (o : Option WholeLog) → log_at e.logs source ≡ o → All (Owns granted) e.logs →
    Polled fragments ≡ (moved_on e source (poll_move s client subscription limit) IsGone o).answer →
    ComeFromLog e source subscription limit (granted source) fragments
unfolding poll_move
poll_comes granted s e client subscription source limit fragments None found owned is = absurd (cc is)
poll_comes granted s e client subscription source limit fragments (Some log) found owned is =
    let there = found_log (Owns granted) source log e.logs owned found in
    let gives =
    poll_gives subscription limit log (receiving_of s client subscription log.source)
    (position_in log.whole subscription) fragments refl is in
    record {
      log = log;
      live = found;
      next = next_of (granted source) subscription limit gives.at fragments log.whole
          (subst (λ (n : ℕ). OwnsAny (granted n) log.whole) there.source_is there.holds) gives.stood gives.given_is;
    }

-- in a run that begins without logs
opening_owns : (settings : Settings) (policy : Rules) (peers : List Peer) →
    All (Owns (λ source. [])) (opening_end settings policy peers).logs
unfolding opening_end
opening_owns settings policy peers = All-nil (Owns (λ source. []))

pub bytes_come : BytesComeFromTheLiveLog
unfolding on_log
bytes_come settings policy peers readings answers older now client subscription source limit fragments are is =
    let first : RunEnd = opening_end settings policy peers in
    let last : RunEnd = end_of first readings answers in
    let s : State = read_by last older in
    poll_comes (λ n. granted_in first n readings answers) s last client subscription source limit fragments
    (log_at last.logs source) refl
    (run_owns (λ n. []) first readings answers are (opening_owns settings policy peers)) is
