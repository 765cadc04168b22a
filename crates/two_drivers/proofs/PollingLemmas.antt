-- While a subscription reads a log whose frames are a line's, what its polls give is a run of the line.
use Rattle.std.proofs.Common.{◌≡◌, ℕ, ◌<◌, ◌==◌, ◌&&◌, not, nat_lt, Bool, true, false, cond, List, [], ◌∷◌, ◌++◌, length, map, filter, Option, Some, None, refl, sym, ap, ◌∙◌, subst, append_assoc}
use Rattle.std.specs.List.{All}
use Rattle.std.specs.Prelude.{IfSome}
use Rattle.std.proofs.lemmas.Bool.{and_parts, cond_both, eqb-true, eq-eqb}
use Rattle.std.proofs.lemmas.List.{append-nil}
use Rattle.std.proofs.lemmas.List.Elements.{All-nil, All-cons}
use Rattle.log_traffic.specs.Whole.{AnyWhole, whole, rebuilt, beaten, pairs_in, polled as any_polled, position_in, received, rejoined}
use Rattle.log_traffic.proofs.StillLemmas.{IsStill}
use Rattle.channel_uri.specs.declared.address.Address.{Address}
use Rattle.driver_core.specs.Change.{Change}
use Rattle.driver_core.specs.declared.state.event.Event.{Event}
use Rattle.driver_core.specs.declared.state.event.Event.TheVariants.{Setup as SetUp}
use Rattle.driver_core.specs.declared.asked.log_request.LogRequest.{LogRequest}
use Rattle.driver_core.specs.declared.state.peer.Peer.{Peer}
use Rattle.driver_core.specs.declared.state.settings.Settings.{Settings}
use Rattle.driver_core.specs.Conduct.{conduct}
use Rattle.driver_core.specs.LogRequests.{offering_of, receiving_of}
use Rattle.driver_core.specs.PublicationRequests.{publisher_of}
use Rattle.driver_core.specs.Pairs.{pairs_of}
use Rattle.driver_core.specs.Readers.{readers_of}
use Rattle.driver_core.specs.Soundness.{AreSettings}
use Rattle.driver_core.specs.State.{State}
use Rattle.log_steps.specs.declared.answer.Answer.{Answer}
use Rattle.log_steps.specs.declared.answer.Answer.TheVariants.{Denied, NoMemory, Offered as OfferedAs, Polled, Gone as IsGone}
use Rattle.log_steps.specs.declared.answer.Offered.TheVariants.{Closed}
use Rattle.driver_steps.specs.declared.step.Step.{Step}
use Rattle.driver_steps.specs.declared.step.Step.TheVariants.{Conductor, Packet, Offer as Offers, Poll as Polls, Image, List as Lists, Send, Value}
use Rattle.driver_steps.specs.Ends.{conducted, inputs_of, log_at, logs_after, moved_by, moved_on, on_log, on_offered, opened_for, opening_end, rejoined_log, RunEnd, stays_open, with_log}
use Rattle.driver_steps.specs.OpenLogs.{is_closed}
use Rattle.log_steps.specs.Moves.{WholeLog, Move, given, offer_move, offer_to, offer_under, poll_move, poll_under}
use Rattle.log_steps.specs.Receiving.{beat_move, receive_move, unheard}
use Rattle.driver_steps.specs.Runs.{Reading, AreAnswers, IsAnswerTo, end_of, left_by, moved_to, read_by}
use Rattle.log_steps.specs.Sending.{send_move}
use Rattle.driver_steps.proofs.LiveLemmas.{found_log, step_either}
use Rattle.driver_steps.proofs.PacketLemmas.{frames_pairs, packet_cases}
use Rattle.driver_steps.proofs.QuietLemmas.{IsQuiet, report_cases, send_quiet}
use Rattle.frame_codec.specs.declared.header.TermPlace.{TermPlace}
use Rattle.frame_codec.specs.Datagram.{packet_of}
use Rattle.frame_codec.specs.Frame.{Sent}
use Rattle.image_log.specs.Frame.{Frame as Kept}
use Rattle.image_log.specs.Polling.{polled as image_polled, polled_from}
use Rattle.image_log.specs.Rebuilt.{Rebuilt, contiguous_of, settled}
use Rattle.log_traffic.specs.Receiving.{after_beat, after_data}
use Rattle.log_pairs.specs.Pairs.{moved_one, position_of, reads_on, rejoined_pairs}
use Rattle.log_pairs.specs.Polling.{Fetched}
use Rattle.log_pairs.specs.declared.pair.Pair.{Pair as Reader}
use Rattle.two_drivers.specs.Line.{IsLine, IsRunTo}
use Rattle.two_drivers.specs.Mirror.{Mirrors}
use Rattle.two_drivers.proofs.LineLemmas.{polls_on}
use Rattle.policy_core.specs.declared.verdict.Verdict.{Verdict}
use Rattle.policy_core.specs.RuleList.{Rules}
use Rattle.stream_registry.specs.declared.lingering.LogPlace.{LogPlace}
use Rattle.stream_registry.specs.declared.pairs.Pair.{Pair}
use Rattle.term_log.specs.declared.ident.Ident.{Ident}
use Rattle.term_log.specs.Log.{greatest_message}
use Rattle.term_log.specs.Whole.{Whole, is_connected, offered, polled as term_polled, polled_from as term_polled_from}
use Rattle.two_drivers.specs.Given.{AreGood, MirrorsLog}
use Rattle.two_drivers.specs.Polling.{IsRun, PollsGiveARun, Reads, ReadsOn, polled_by, polled_in}
use Rattle.two_drivers.proofs.GivenLemmas.{answers_push, end_push, good_mirrored, step_mirror}
use Rattle.driver_steps.proofs.FollowLemmas.{ends_follow}

-- ---- where a subscription stands in the log of a source

abbrev pub stands_in : ℕ → Option WholeLog → Option ℕ
stands_in subscription None = None
stands_in subscription (Some log) = position_in log.whole subscription

abbrev pub stood : ℕ → ℕ → List WholeLog → Option ℕ
stood source subscription logs = stands_in subscription (log_at logs source)

-- where it is read, it stands there
reads_stood : (i : Ident) (source subscription : ℕ) (e : RunEnd) → (re : Reads i source subscription e) → stood source subscription e.logs ≡ Some re.at
reads_stood i source subscription e re =
    ap (stands_in subscription) re.live ∙ ap (λ (w : AnyWhole). position_in w subscription) re.whole_is ∙ re.stands

-- ---- a log that moves

-- it is of the same number, and each reader but that one of that log stands where it stood
record IsPut (source subscription : ℕ) (log new : WholeLog) : Type 0 where
  number : new.source ≡ log.source
  stays : log.source ≡ source → position_in new.whole subscription ≡ position_in log.whole subscription

put_by : (source subscription number : ℕ) (first log new : WholeLog) (logs : List WholeLog) (b c : Bool) → (first.source == number) ≡ b →
    (first.source == source) ≡ c → IsPut source subscription log new → cond b (Some first) (log_at logs number) ≡ Some log →
    (log_at logs number ≡ Some log → stood source subscription (with_log logs number new) ≡ stood source subscription logs) →
    stood source subscription (cond b (new ∷ logs) (first ∷ with_log logs number new)) ≡ stood source subscription (first ∷ logs)
put_by source subscription number first log new logs true true is at put found rest =
    let same : first ≡ log = cc in
    let here : (new.source == source) ≡ true = ap (λ (n : ℕ). n == source) (put.number ∙ ap (λ (l : WholeLog). l.source) (sym same)) ∙ at in
    let there : log.source ≡ source = ap (λ (l : WholeLog). l.source) (sym same) ∙ eqb-true first.source source at in
    rw (here, at) (put.stays there ∙ ap (λ (l : WholeLog). position_in l.whole subscription) (sym same))
put_by source subscription number first log new logs true false is at put found rest =
    let same : first ≡ log = cc in
    let here : (new.source == source) ≡ false = ap (λ (n : ℕ). n == source) (put.number ∙ ap (λ (l : WholeLog). l.source) (sym same)) ∙ at in
    rw (here, at) refl
put_by source subscription number first log new logs false true is at put found rest = rw at refl
put_by source subscription number first log new logs false false is at put found rest = rw at (rest found)

put_log : (source subscription number : ℕ) (log new : WholeLog) (logs : List WholeLog) → IsPut source subscription log new →
    log_at logs number ≡ Some log → stood source subscription (with_log logs number new) ≡ stood source subscription logs
put_log source subscription number log new [] put found = refl
put_log source subscription number log new (first ∷ logs) put found =
    put_by source subscription number first log new logs (first.source == number) (first.source == source) refl refl put found
    (put_log source subscription number log new logs put)

move_put : (source subscription : ℕ) (e : RunEnd) (number : ℕ) (move : WholeLog → Move) (absent : Answer) (o : Option WholeLog) →
    log_at e.logs number ≡ o → ((log : WholeLog) → IsPut source subscription log (move log).after) →
    stood source subscription (moved_on e number move absent o).after.logs ≡ stood source subscription e.logs
move_put source subscription e number move absent None found put = refl
move_put source subscription e number move absent (Some log) found put =
    put_log source subscription number log (move log).after e.logs (put log) found

log_put : (source subscription : ℕ) (e : RunEnd) (number : ℕ) (move : WholeLog → Move) (absent : Answer) →
    ((log : WholeLog) → IsPut source subscription log (move log).after) →
    stood source subscription (on_log e number move absent).after.logs ≡ stood source subscription e.logs
unfolding on_log
log_put source subscription e number move absent put = move_put source subscription e number move absent (log_at e.logs number) refl put

-- ---- moves that leave where readers stand

itself : (source subscription : ℕ) (log : WholeLog) → IsPut source subscription log log
itself source subscription log = record { number = refl; stays = λ _. refl }

still_pairs : (w v : AnyWhole) → IsStill w v → pairs_in v ≡ pairs_in w
still_pairs (whole w) (whole v) still = still.pairs
still_pairs (whole w) (rebuilt s) still = absurd still
still_pairs (rebuilt r) (whole v) still = absurd still
still_pairs (rebuilt r) (rebuilt s) still = still.pairs

quiet_put : (source subscription : ℕ) (move : WholeLog → Move) → IsQuiet move → (log : WholeLog) → IsPut source subscription log (move log).after
quiet_put source subscription move quiet log = record {
  number = (quiet log).source;
  stays = λ _.
      ap (λ (pairs : List Reader). position_of pairs subscription) (still_pairs log.whole (move log).after.whole (quiet log).whole);
}

received_pairs : (now : ℕ) (sent : List Sent) (w : AnyWhole) → pairs_in (received now sent w) ≡ pairs_in w
unfolding after_data
received_pairs now sent (whole w) = refl
received_pairs now sent (rebuilt r) = frames_pairs r sent

beaten_pairs : (now : ℕ) (place : TermPlace) (w : AnyWhole) → pairs_in (beaten now place w) ≡ pairs_in w
unfolding after_beat
beaten_pairs now place (whole w) = refl
beaten_pairs now place (rebuilt r) = refl

offer_put : (source subscription : ℕ) (now timeout : ℕ) (verdict : Verdict) (message : List ℕ) (log : WholeLog) (w : AnyWhole) →
    log.whole ≡ w → IsPut source subscription log (offer_to now timeout verdict message log w).after
unfolding offered
offer_put source subscription now timeout verdict message log (whole w) is =
    let P : Move → Type 0 = λ move. IsPut source subscription log move.after in
    cond_both (not verdict.allow) _ _ P (λ _. itself source subscription log)
    (λ _. cond_both (nat_lt (greatest_message w.ident) (length message)) _ _ P (λ _. itself source subscription log)
    (λ _. cond_both (not (is_connected w now timeout)) _ _ P (λ _. itself source subscription log)
    (λ _. record { number = refl; stays = λ _. ap (λ (x : AnyWhole). position_in x subscription) (sym is) })))
offer_put source subscription now timeout verdict message log (rebuilt r) is = itself source subscription log

offer_under_put : (source subscription : ℕ) (s : State) (now : ℕ) (message : List ℕ) (log : WholeLog) (o : Option LogRequest) →
    IsPut source subscription log (offer_under s.settings.connection_timeout o now message log).after
offer_under_put source subscription s now message log None = itself source subscription log
offer_under_put source subscription s now message log (Some request) =
    cond_both (not (request.source == log.source)) _ _ (λ (move : Move). IsPut source subscription log move.after)
    (λ _. itself source subscription log)
    (λ _. offer_put source subscription now s.settings.connection_timeout request.decision.verdict message log log.whole refl)

offers_put : (source subscription : ℕ) (s : State) (e : RunEnd) (now client registration : ℕ) (message : List ℕ) (o : Option LogRequest) →
    stood source subscription (on_offered s e now client registration message o).after.logs ≡ stood source subscription e.logs
unfolding offer_move
offers_put source subscription s e now client registration message None = refl
offers_put source subscription s e now client registration message (Some request) =
    log_put source subscription e request.source (offer_move s now client registration message) (OfferedAs Closed)
    (λ log. offer_under_put source subscription s now message log (offering_of s client registration))

-- ---- a poll of another log, or by another subscription

reader_moved : (subscription other position : ℕ) (b c : Bool) (pair : Reader) (pairs : List Reader) → (pair.subscription == other) ≡ b →
    (pair.subscription == subscription) ≡ c → (other == subscription) ≡ false →
    position_of (map (moved_one other position) pairs) subscription ≡ position_of pairs subscription →
    position_of (cond b (record pair { position = position }) pair ∷ map (moved_one other position) pairs) subscription
    ≡ position_of (pair ∷ pairs) subscription
reader_moved subscription other position true true pair pairs is at apart rest =
    let same : other ≡ subscription = sym (eqb-true pair.subscription other is) ∙ eqb-true pair.subscription subscription at in
    absurd (cc (sym (eq-eqb other subscription same) ∙ apart))
reader_moved subscription other position true false pair pairs is at apart rest = rw at rest
reader_moved subscription other position false true pair pairs is at apart rest = rw at refl
reader_moved subscription other position false false pair pairs is at apart rest = rw at rest

moved_elsewhere : (subscription other position : ℕ) (pairs : List Reader) → (other == subscription) ≡ false →
    position_of (map (moved_one other position) pairs) subscription ≡ position_of pairs subscription
moved_elsewhere subscription other position [] apart = refl
moved_elsewhere subscription other position (pair ∷ pairs) apart =
    reader_moved subscription other position (pair.subscription == other) (pair.subscription == subscription) pair pairs refl refl apart
    (moved_elsewhere subscription other position pairs apart)

term_elsewhere : (w : Whole) (subscription other limit : ℕ) (o : Option ℕ) → (other == subscription) ≡ false →
    position_of (term_polled_from w other limit o).after.pairs subscription ≡ position_of w.pairs subscription
term_elsewhere w subscription other limit None apart = refl
term_elsewhere w subscription other limit (Some at) apart = moved_elsewhere subscription other _ w.pairs apart

image_elsewhere : (r : Rebuilt) (subscription other limit : ℕ) (o : Option ℕ) → (other == subscription) ≡ false →
    position_of (polled_from r other limit o).after.pairs subscription ≡ position_of r.pairs subscription
unfolding settled
image_elsewhere r subscription other limit None apart = refl
image_elsewhere r subscription other limit (Some at) apart = moved_elsewhere subscription other _ r.pairs apart

polled_elsewhere : (w : AnyWhole) (subscription other limit : ℕ) → (other == subscription) ≡ false →
    position_in (any_polled w other limit).after subscription ≡ position_in w subscription
unfolding term_polled image_polled
polled_elsewhere (whole w) subscription other limit apart = term_elsewhere w subscription other limit (position_of w.pairs other) apart
polled_elsewhere (rebuilt r) subscription other limit apart = image_elsewhere r subscription other limit (position_of r.pairs other) apart

-- it is another one's
data IsOther (source subscription log number : ℕ) : Type 0 where
  other_log : (log == source) ≡ false → IsOther source subscription log number
  other_reader : (number == subscription) ≡ false → IsOther source subscription log number

given_put : (source subscription number limit : ℕ) (log : WholeLog) → IsOther source subscription log.source number →
    IsPut source subscription log (given number limit log).after
given_put source subscription number limit log (other_log apart) = record {
  number = refl;
  stays = λ same. absurd (cc (sym (eq-eqb log.source source same) ∙ apart));
}
given_put source subscription number limit log (other_reader apart) = record {
  number = refl;
  stays = λ _. polled_elsewhere log.whole subscription number limit apart;
}

poll_put : (source subscription number limit : ℕ) (log : WholeLog) (o : Option LogRequest) (at : Option ℕ) →
    IsOther source subscription log.source number → IsPut source subscription log (poll_under number limit log o at).after
poll_put source subscription number limit log None at other = itself source subscription log
poll_put source subscription number limit log (Some request) None other = itself source subscription log
poll_put source subscription number limit log (Some request) (Some at) other =
    cond_both (not request.decision.verdict.allow) _ _ (λ (move : Move). IsPut source subscription log move.after)
    (λ _. itself source subscription log) (λ _. given_put source subscription number limit log other)

-- ---- an event: who stays stands where it stood

-- who is among them reads on
data ReadsAmong (join : ℕ) (pairs : List Reader) (subscription : ℕ) (o : Option ℕ) : Type 0 where
  nobody : o ≡ None → ReadsAmong join pairs subscription o
  going_on : o ≡ Some (reads_on join (position_of pairs subscription)) → ReadsAmong join pairs subscription o

among_by : (join : ℕ) (pairs : List Reader) (subscription n : ℕ) (others : List ℕ) (b : Bool) → (n == subscription) ≡ b →
    ReadsAmong join pairs subscription (position_of (rejoined_pairs join pairs others) subscription) →
    ReadsAmong join pairs subscription (position_of (rejoined_pairs join pairs (n ∷ others)) subscription)
among_by join pairs subscription n others true same rest =
    going_on (rw same (ap (λ (m : ℕ). Some (reads_on join (position_of pairs m))) (eqb-true n subscription same)))
among_by join pairs subscription n others false same rest =
    elim rest [
      | nobody is ↦ nobody (rw same is)
      | going_on is ↦ going_on (rw same is)
    ]

among : (join : ℕ) (pairs : List Reader) (subscription : ℕ) (numbers : List ℕ) →
    ReadsAmong join pairs subscription (position_of (rejoined_pairs join pairs numbers) subscription)
among join pairs subscription [] = nobody refl
among join pairs subscription (n ∷ others) =
    among_by join pairs subscription n others (n == subscription) refl (among join pairs subscription others)

rejoined_at : (r : Rebuilt) (numbers : List ℕ) (subscription at now : ℕ) → position_of r.pairs subscription ≡ Some at →
    position_of (rejoined_pairs (contiguous_of r) r.pairs numbers) subscription ≡ Some now → now ≡ at
rejoined_at r numbers subscription at now stood' stands =
    elim (among (contiguous_of r) r.pairs subscription numbers) [
      | nobody is ↦ absurd (cc (sym is ∙ stands))
      | going_on is ↦ (let same = sym stands ∙ is ∙ ap (λ (o : Option ℕ). Some (reads_on (contiguous_of r) o)) stood' in cc same)
    ]

-- the first log of a number, once those behind it come and some close
filtered_by : (closes : List LogPlace) (source : ℕ) (first found : WholeLog) (logs : List WholeLog) (b c : Bool) → (first.source == source) ≡ b →
    is_closed closes first.source ≡ c → log_at (cond (not c) (first ∷ filter (stays_open closes) logs) (filter (stays_open closes) logs)) source ≡ Some found →
    (is_closed closes source ≡ true → log_at (filter (stays_open closes) logs) source ≡ None) →
    (log_at (filter (stays_open closes) logs) source ≡ Some found → log_at logs source ≡ Some found) →
    cond b (Some first) (log_at logs source) ≡ Some found
filtered_by closes source first found logs true true same closed is none rest =
    let number : first.source ≡ source = eqb-true first.source source same in
    absurd (cc (sym (none (ap (is_closed closes) (sym number) ∙ closed)) ∙ is))
filtered_by closes source first found logs true false same closed is none rest =
    subst (λ (b : Bool). cond b (Some first) (log_at (filter (stays_open closes) logs) source) ≡ Some found) same is
filtered_by closes source first found logs false true same closed is none rest = rest is
filtered_by closes source first found logs false false same closed is none rest =
    rest (subst (λ (b : Bool). cond b (Some first) (log_at (filter (stays_open closes) logs) source) ≡ Some found) same is)

none_by : (closes : List LogPlace) (source : ℕ) (first : WholeLog) (logs : List WholeLog) (b c : Bool) → (first.source == source) ≡ b →
    is_closed closes first.source ≡ c → is_closed closes source ≡ true → log_at (filter (stays_open closes) logs) source ≡ None →
    log_at (cond (not c) (first ∷ filter (stays_open closes) logs) (filter (stays_open closes) logs)) source ≡ None
none_by closes source first logs b true same left_open closed rest = rest
none_by closes source first logs true false same left_open closed rest =
    let number : first.source ≡ source = eqb-true first.source source same in
    absurd (cc (sym left_open ∙ ap (is_closed closes) number ∙ closed))
none_by closes source first logs false false same left_open closed rest = rw same rest

none_left : (closes : List LogPlace) (source : ℕ) (logs : List WholeLog) → is_closed closes source ≡ true →
    log_at (filter (stays_open closes) logs) source ≡ None
none_left closes source [] closed = refl
none_left closes source (first ∷ logs) closed =
    none_by closes source first logs (first.source == source) (is_closed closes first.source) refl refl closed (none_left closes source logs closed)

pub filtered_at : (closes : List LogPlace) (source : ℕ) (found : WholeLog) (logs : List WholeLog) →
    log_at (filter (stays_open closes) logs) source ≡ Some found → log_at logs source ≡ Some found
filtered_at closes source found [] is = is
filtered_at closes source found (first ∷ logs) is =
    filtered_by closes source first found logs (first.source == source) (is_closed closes first.source) refl refl is (none_left closes source logs)
    (filtered_at closes source found logs)

-- of logs of which others come behind
first_by : (source : ℕ) (first found log : WholeLog) (logs more : List WholeLog) (b : Bool) → (first.source == source) ≡ b →
    cond b (Some first) (log_at logs source) ≡ Some log → cond b (Some first) (log_at (logs ++ more) source) ≡ Some found →
    (log_at logs source ≡ Some log → log_at (logs ++ more) source ≡ Some found → found ≡ log) → found ≡ log
first_by source first found log logs more true same is there rest = cc (sym there ∙ is)
first_by source first found log logs more false same is there rest = rest is there

pub first_at : (source : ℕ) (found log : WholeLog) (logs more : List WholeLog) → log_at logs source ≡ Some log →
    log_at (logs ++ more) source ≡ Some found → found ≡ log
first_at source found log [] more is there = absurd (cc is)
first_at source found log (first ∷ logs) more is there =
    first_by source first found log logs more (first.source == source) refl is there (first_at source found log logs more)

-- where exactly others read them
pub record IsRejoined (pairs : List Pair) (source : ℕ) (logs : List WholeLog) (new : WholeLog) : Type 0 where
  pub log : WholeLog
  pub found : log_at logs source ≡ Some log
  pub is : new ≡ rejoined_log pairs log

rejoined_found : (pairs : List Pair) (source : ℕ) (first new : WholeLog) (logs : List WholeLog) (b : Bool) → (first.source == source) ≡ b →
    cond b (Some (rejoined_log pairs first)) (log_at (map (rejoined_log pairs) logs) source) ≡ Some new →
    (log_at (map (rejoined_log pairs) logs) source ≡ Some new → IsRejoined pairs source logs new) → IsRejoined pairs source (first ∷ logs) new
rejoined_found pairs source first new logs true same is rest = record { log = first; found = rw same refl; is = cc (sym is) }
rejoined_found pairs source first new logs false same is rest =
    let there = rest is in record { log = there.log; found = rw same there.found; is = there.is }

pub rejoined_in : (pairs : List Pair) (source : ℕ) (new : WholeLog) (logs : List WholeLog) →
    log_at (map (rejoined_log pairs) logs) source ≡ Some new → IsRejoined pairs source logs new
rejoined_in pairs source new [] is = absurd (cc is)
rejoined_in pairs source new (first ∷ logs) is =
    rejoined_found pairs source first new logs (first.source == source) refl is (rejoined_in pairs source new logs)

rejoined_position : (r : Rebuilt) (numbers : List ℕ) (subscription : ℕ) →
    position_in (rejoined numbers (rebuilt r)) subscription ≡ position_of (rejoined_pairs (contiguous_of r) r.pairs numbers) subscription
unfolding settled
rejoined_position r numbers subscription = refl

event_stays : (i : Ident) (source subscription at now : ℕ) (change : Change) (logs : List WholeLog) (log new : WholeLog) (r : Rebuilt) →
    log_at logs source ≡ Some log → log.whole ≡ rebuilt r → position_of r.pairs subscription ≡ Some at →
    log_at (logs_after change logs) source ≡ Some new → position_in new.whole subscription ≡ Some now → now ≡ at
unfolding logs_after
event_stays i source subscription at now change logs log new r live whole_is stands after' stood' =
    let pairs : List Pair = pairs_of change.after in
    let opened : List WholeLog = opened_for change.after change.outcome.opens in
    let there = rejoined_in pairs source new (filter (stays_open change.outcome.closes) (logs ++ opened)) after' in
    let was = filtered_at change.outcome.closes source there.log (logs ++ opened) there.found in
    let same : there.log ≡ log = first_at source there.log log logs opened live was in
    let whole' : there.log.whole ≡ rebuilt r = ap (λ (l : WholeLog). l.whole) same ∙ whole_is in
    let numbers : List ℕ = readers_of pairs there.log.source in
    let place : position_in (rejoined numbers (rebuilt r)) subscription ≡ Some now =
    ap (λ (w : AnyWhole). position_in (rejoined numbers w) subscription) (sym whole')
    ∙ ap (λ (l : WholeLog). position_in l.whole subscription) (sym there.is) ∙ stood' in
    rejoined_at r numbers subscription at now stands (sym (rejoined_position r numbers subscription) ∙ place)

-- ---- what a step gives

-- what was given so far, and by a step that was told that
abbrev pub Goes : Ident → List Kept → ℕ → ℕ → List Fetched → Step → Answer → RunEnd → Type 0
Goes i line source subscription so_far step told end =
    (re : Reads i source subscription end) → IsRunTo line re.at (so_far ++ polled_by source subscription step told)

some_same : (o : Option ℕ) (a b : ℕ) → o ≡ Some a → o ≡ Some b → b ≡ a
some_same o a b first second = cc (sym second ∙ first)

-- nothing is given, and the subscription stands where it stood
stays : (i : Ident) (line : List Kept) (source subscription at now : ℕ) (so_far more : List Fetched) → more ≡ [] → now ≡ at →
    IsRunTo line at so_far → IsRunTo line now (so_far ++ more)
stays i line source subscription at now so_far more none same run =
    subst (λ (n : ℕ). IsRunTo line n (so_far ++ more)) (sym same)
    (subst (λ (xs : List Fetched). IsRunTo line at xs) (sym (ap (λ (ys : List Fetched). so_far ++ ys) none ∙ append-nil so_far)) run)

pub put_goes : (i : Ident) (line : List Kept) (source subscription : ℕ) (so_far more : List Fetched) (e end : RunEnd) →
    (re : Reads i source subscription e) → more ≡ [] → stood source subscription end.logs ≡ stood source subscription e.logs →
    IsRunTo line re.at so_far → (after' : Reads i source subscription end) → IsRunTo line after'.at (so_far ++ more)
put_goes i line source subscription so_far more e end re none same run after' =
    stays i line source subscription re.at after'.at so_far more none
    (some_same (stood source subscription end.logs) re.at after'.at (same ∙ reads_stood i source subscription e re)
    (reads_stood i source subscription end after'))
    run

event_goes : (i : Ident) (line : List Kept) (source subscription : ℕ) (so_far : List Fetched) (e : RunEnd) (event : Event) →
    (re : Reads i source subscription e) → IsRunTo line re.at so_far →
    (after' : Reads i source subscription (conducted e event).after) → IsRunTo line after'.at (so_far ++ [])
unfolding conducted
event_goes i line source subscription so_far e event re run after' =
    stays i line source subscription re.at after'.at so_far [] refl
    (event_stays i source subscription re.at after'.at (conduct e.registry event (inputs_of e.registry event e.logs)) e.logs re.log after'.log re.r
    re.live re.whole_is re.stands after'.live
    (ap (λ (w : AnyWhole). position_in w subscription) after'.whole_is ∙ after'.stands))
    run

-- ---- a poll by the pair itself

with_by : (source : ℕ) (first log new : WholeLog) (logs : List WholeLog) (b : Bool) → (first.source == source) ≡ b → (new.source == source) ≡ true →
    cond b (Some first) (log_at logs source) ≡ Some log →
    (log_at logs source ≡ Some log → log_at (with_log logs source new) source ≡ Some new) →
    log_at (cond b (new ∷ logs) (first ∷ with_log logs source new)) source ≡ Some new
with_by source first log new logs true same here found rest = rw here refl
with_by source first log new logs false same here found rest = rw same (rest found)

with_there : (source : ℕ) (log new : WholeLog) (logs : List WholeLog) → (new.source == source) ≡ true → log_at logs source ≡ Some log →
    log_at (with_log logs source new) source ≡ Some new
with_there source log new [] here found = absurd (cc found)
with_there source log new (first ∷ logs) here found =
    with_by source first log new logs (first.source == source) refl here found (with_there source log new logs here)

poll_number : (number limit : ℕ) (log : WholeLog) (o : Option LogRequest) (at : Option ℕ) → (poll_under number limit log o at).after.source ≡ log.source
poll_number number limit log None at = refl
poll_number number limit log (Some request) None = refl
poll_number number limit log (Some request) (Some at) =
    cond_both (not request.decision.verdict.allow) _ _ (λ (move : Move). move.after.source ≡ log.source) (λ _. refl) (λ _. refl)

-- what the pair's poll gives goes on
abbrev PollGoes : List Kept → ℕ → ℕ → ℕ → ℕ → ℕ → List Fetched → Move → Type 0
PollGoes line now client source subscription limit so_far move =
    (at : ℕ) → position_in move.after.whole subscription ≡ Some at →
    IsRunTo line at (so_far ++ polled_by source subscription (Polls now client subscription source limit) move.answer)

own_poll : (source subscription now client limit : ℕ) (fragments : List Fetched) →
    polled_by source subscription (Polls now client subscription source limit) (Polled fragments) ≡ fragments
own_poll source subscription now client limit fragments = rw (eq-eqb source source refl, eq-eqb subscription subscription refl) refl

poll_keeps : (line : List Kept) (now client source subscription limit at : ℕ) (so_far : List Fetched) (log : WholeLog) (answer : Answer) →
    polled_by source subscription (Polls now client subscription source limit) answer ≡ [] → position_in log.whole subscription ≡ Some at →
    IsRunTo line at so_far → PollGoes line now client source subscription limit so_far (record { after = log; answer = answer })
poll_keeps line now client source subscription limit at so_far log answer none stands run next there =
    let same : at ≡ next = cc (sym stands ∙ there) in
    subst (λ (n : ℕ). IsRunTo line n (so_far ++ polled_by source subscription (Polls now client subscription source limit) answer)) same
    (subst (λ (xs : List Fetched). IsRunTo line at xs) (sym (ap (λ (ys : List Fetched). so_far ++ ys) none ∙ append-nil so_far)) run)

poll_gives_on : (i : Ident) (start : ℕ) (line : List Kept) (now client source subscription limit at : ℕ) (so_far : List Fetched) (log : WholeLog) (r : Rebuilt) →
    IsLine i.term_length start line → Mirrors line r → log.whole ≡ rebuilt r → position_of r.pairs subscription ≡ Some at → IsRunTo line at so_far →
    PollGoes line now client source subscription limit so_far (given subscription limit log)
poll_gives_on i start line now client source subscription limit at so_far log r is mirrors whole_is stands run next there =
    let on = polls_on i.term_length start line r subscription limit at so_far is mirrors stands run in
    let place : position_of (image_polled r subscription limit).after.pairs subscription ≡ Some next =
    ap (λ (w : AnyWhole). position_in (any_polled w subscription limit).after subscription) (sym whole_is) ∙ there in
    let gives : (any_polled log.whole subscription limit).fragments ≡ (image_polled r subscription limit).fragments =
    ap (λ (w : AnyWhole). (any_polled w subscription limit).fragments) whole_is in
    let goes : IsRunTo line next (so_far ++ (image_polled r subscription limit).fragments) =
    subst (λ (o : Option ℕ). IfSome o (λ n. IsRunTo line n (so_far ++ (image_polled r subscription limit).fragments))) place on in
    subst (λ (xs : List Fetched). IsRunTo line next (so_far ++ xs))
    (sym (own_poll source subscription now client limit (any_polled log.whole subscription limit).fragments ∙ gives)) goes

poll_under_goes : (i : Ident) (start : ℕ) (line : List Kept) (now client source subscription limit at : ℕ) (so_far : List Fetched) (log : WholeLog) (r : Rebuilt)
    (o : Option LogRequest) (place : Option ℕ) → IsLine i.term_length start line → Mirrors line r → log.whole ≡ rebuilt r →
    position_of r.pairs subscription ≡ Some at → IsRunTo line at so_far →
    PollGoes line now client source subscription limit so_far (poll_under subscription limit log o place)
poll_under_goes i start line now client source subscription limit at so_far log r None place is mirrors whole_is stands run =
    poll_keeps line now client source subscription limit at so_far log IsGone refl
    (ap (λ (w : AnyWhole). position_in w subscription) whole_is ∙ stands) run
poll_under_goes i start line now client source subscription limit at so_far log r (Some request) None is mirrors whole_is stands run =
    poll_keeps line now client source subscription limit at so_far log IsGone refl
    (ap (λ (w : AnyWhole). position_in w subscription) whole_is ∙ stands) run
poll_under_goes i start line now client source subscription limit at so_far log r (Some request) (Some place) is mirrors whole_is stands run =
    cond_both (not request.decision.verdict.allow) _ _ (PollGoes line now client source subscription limit so_far)
    (λ _.
    poll_keeps line now client source subscription limit at so_far log (Denied request.decision.verdict) refl
    (ap (λ (w : AnyWhole). position_in w subscription) whole_is ∙ stands) run)
    (λ _. poll_gives_on i start line now client source subscription limit at so_far log r is mirrors whole_is stands run)

own_goes : (i : Ident) (start : ℕ) (line : List Kept) (s : State) (e : RunEnd) (now client source subscription limit : ℕ) (so_far : List Fetched) →
    IsLine i.term_length start line → All (MirrorsLog i line) e.logs → (re : Reads i source subscription e) → IsRunTo line re.at so_far →
    (o : Option WholeLog) → log_at e.logs source ≡ o →
    (after' : Reads i source subscription (moved_on e source (poll_move s client subscription limit) IsGone o).after) →
    IsRunTo line after'.at
    (so_far ++ polled_by source subscription (Polls now client subscription source limit) (moved_on e source (poll_move s client subscription limit) IsGone o).answer)
unfolding poll_move
own_goes i start line s e now client source subscription limit so_far is mirrors re run None found after' =
    absurd (cc (sym found ∙ re.live))
own_goes i start line s e now client source subscription limit so_far is mirrors re run (Some log) found after' =
    let same : re.log ≡ log = cc (sym re.live ∙ found) in
    let whole_is : log.whole ≡ rebuilt re.r = ap (λ (l : WholeLog). l.whole) (sym same) ∙ re.whole_is in
    let one = found_log (MirrorsLog i line) source log e.logs mirrors found in
    let mirror : Mirrors line re.r = subst (Rattle.two_drivers.specs.Given.MirrorsIf i line) whole_is one.holds re.ident_is in
    let o : Option LogRequest = receiving_of s client subscription log.source in
    let at : Option ℕ = position_in log.whole subscription in
    let new : WholeLog = (poll_under subscription limit log o at).after in
    let number : (new.source == source) ≡ true =
    ap (λ (n : ℕ). n == source) (poll_number subscription limit log o at ∙ one.source_is) ∙ eq-eqb source source refl in
    let there : log_at (with_log e.logs source new) source ≡ Some new = with_there source log new e.logs number found in
    let stands : position_in new.whole subscription ≡ Some after'.at =
    ap (stands_in subscription) (sym there) ∙ reads_stood i source subscription _ after' in
    poll_under_goes i start line now client source subscription limit re.at so_far log re.r o at is mirror whole_is re.stands run after'.at stands

own_poll_goes : (i : Ident) (start : ℕ) (line : List Kept) (s : State) (e : RunEnd) (now client source subscription limit : ℕ) (so_far : List Fetched) →
    IsLine i.term_length start line → All (MirrorsLog i line) e.logs → (re : Reads i source subscription e) → IsRunTo line re.at so_far →
    Goes i line source subscription so_far (Polls now client subscription source limit)
    (on_log e source (poll_move s client subscription limit) IsGone).answer (on_log e source (poll_move s client subscription limit) IsGone).after
unfolding on_log
own_poll_goes i start line s e now client source subscription limit so_far is mirrors re run after' =
    own_goes i start line s e now client source subscription limit so_far is mirrors re run (log_at e.logs source) refl after'

-- by whether it is the pair's
not_own : (source subscription now client number log limit : ℕ) (answer : Answer) → (log == source && number == subscription) ≡ false →
    polled_by source subscription (Polls now client number log limit) answer ≡ []
not_own source subscription now client number log limit (Polled fragments) apart = rw apart refl
not_own source subscription now client number log limit answer apart = refl

other_by : (source subscription log number : ℕ) (b : Bool) → (log == source) ≡ b → (b && number == subscription) ≡ false → IsOther source subscription log number
other_by source subscription log number false same apart = other_log same
other_by source subscription log number true same apart = other_reader apart

themselves : (logs : List WholeLog) → All (λ (l : WholeLog). l ≡ l) logs
themselves [] = All-nil (λ (l : WholeLog). l ≡ l)
themselves (log ∷ logs) = All-cons (λ (l : WholeLog). l ≡ l) log logs refl (themselves logs)

one_put : (source subscription : ℕ) (s : State) (e : RunEnd) (client number log limit : ℕ) (o : Option WholeLog) → log_at e.logs log ≡ o →
    IsOther source subscription log number →
    stood source subscription (moved_on e log (poll_move s client number limit) IsGone o).after.logs ≡ stood source subscription e.logs
unfolding poll_move
one_put source subscription s e client number log limit None found other = refl
one_put source subscription s e client number log limit (Some one) found other =
    let is = found_log (λ (l : WholeLog). l ≡ l) log one e.logs (themselves e.logs) found in
    put_log source subscription log one (poll_under number limit one (receiving_of s client number one.source) (position_in one.whole number)).after e.logs
    (poll_put source subscription number limit one (receiving_of s client number one.source) (position_in one.whole number)
    (subst (λ (n : ℕ). IsOther source subscription n number) (sym is.source_is) other)) found

other_put : (source subscription : ℕ) (s : State) (e : RunEnd) (client number log limit : ℕ) → IsOther source subscription log number →
    stood source subscription (on_log e log (poll_move s client number limit) IsGone).after.logs ≡ stood source subscription e.logs
unfolding on_log
other_put source subscription s e client number log limit other =
    one_put source subscription s e client number log limit (log_at e.logs log) refl other

poll_goes : (i : Ident) (start : ℕ) (line : List Kept) (s : State) (e : RunEnd) (now client number log limit source subscription : ℕ) (so_far : List Fetched)
    (b : Bool) → (log == source && number == subscription) ≡ b →
    IsLine i.term_length start line → All (MirrorsLog i line) e.logs → (re : Reads i source subscription e) → IsRunTo line re.at so_far →
    Goes i line source subscription so_far (Polls now client number log limit)
    (on_log e log (poll_move s client number limit) IsGone).answer (on_log e log (poll_move s client number limit) IsGone).after
poll_goes i start line s e now client number log limit source subscription so_far true own is mirrors re run =
    let parts = and_parts (log == source) (number == subscription) own in
    let log_is : source ≡ log = sym (eqb-true log source parts.0) in
    let number_is : subscription ≡ number = sym (eqb-true number subscription parts.1) in
    subst (λ (n : ℕ). Goes i line source subscription so_far (Polls now client number n limit)
    (on_log e n (poll_move s client number limit) IsGone).answer (on_log e n (poll_move s client number limit) IsGone).after) log_is
    (subst (λ (n : ℕ). Goes i line source subscription so_far (Polls now client n source limit)
    (on_log e source (poll_move s client n limit) IsGone).answer (on_log e source (poll_move s client n limit) IsGone).after) number_is
    (own_poll_goes i start line s e now client source subscription limit so_far is mirrors re run))
poll_goes i start line s e now client number log limit source subscription so_far false own is mirrors re run =
    put_goes i line source subscription so_far _ e (on_log e log (poll_move s client number limit) IsGone).after re
    (not_own source subscription now client number log limit (on_log e log (poll_move s client number limit) IsGone).answer own)
    (other_put source subscription s e client number log limit (other_by source subscription log number (log == source) refl own)) run

-- ---- any step

packet_goes : (i : Ident) (line : List Kept) (s : State) (e : RunEnd) (now : ℕ) (local from : Address) (bytes : List ℕ) (source subscription : ℕ)
    (so_far : List Fetched) → (re : Reads i source subscription e) → IsRunTo line re.at so_far →
    (after' : Reads i source subscription (moved_by s e (Packet now local from bytes)).after) → IsRunTo line after'.at (so_far ++ [])
packet_goes i line s e now local from bytes source subscription so_far re run =
    packet_cases (λ what. (after' : Reads i source subscription what.after) → IsRunTo line after'.at (so_far ++ [])) s e now local from (record {
      drops = λ cause. put_goes i line source subscription so_far [] e e re refl refl run;
      receives = λ number sent.
          put_goes i line source subscription so_far [] e _ re refl
          (log_put source subscription e number (receive_move now sent) unheard
          (λ log. record { number = refl; stays = λ _. ap (λ (pairs : List Reader). position_of pairs subscription) (received_pairs now sent log.whole) })) run;
      hears = λ number place.
          put_goes i line source subscription so_far [] e _ re refl
          (log_put source subscription e number (beat_move now place) unheard
          (λ log. record { number = refl; stays = λ _. ap (λ (pairs : List Reader). position_of pairs subscription) (beaten_pairs now place log.whole) })) run;
      asks = λ number move quiet.
          put_goes i line source subscription so_far [] e _ re refl
          (log_put source subscription e number move unheard (quiet_put source subscription move quiet)) run;
      sets_up = λ fields. event_goes i line source subscription so_far e (SetUp now local from fields) re run;
    }) (packet_of bytes)

moved_goes : (i : Ident) (start : ℕ) (line : List Kept) (s : State) (e : RunEnd) (step : Step) (source subscription : ℕ) (so_far : List Fetched) →
    IsLine i.term_length start line → All (MirrorsLog i line) e.logs → (re : Reads i source subscription e) → IsRunTo line re.at so_far →
    Goes i line source subscription so_far step (moved_by s e step).answer (moved_by s e step).after
moved_goes i start line s e (Conductor event) source subscription so_far is mirrors re run =
    event_goes i line source subscription so_far e event re run
moved_goes i start line s e (Packet now local from bytes) source subscription so_far is mirrors re run =
    packet_goes i line s e now local from bytes source subscription so_far re run
moved_goes i start line s e (Offers now client registration message) source subscription so_far is mirrors re run =
    put_goes i line source subscription so_far [] e _ re refl
    (offers_put source subscription s e now client registration message (offering_of s client registration)) run
moved_goes i start line s e (Polls now client number log limit) source subscription so_far is mirrors re run =
    poll_goes i start line s e now client number log limit source subscription so_far (log == source && number == subscription) refl is mirrors re run
moved_goes i start line s e (Send now number) source subscription so_far is mirrors re run =
    put_goes i line source subscription so_far [] e _ re refl
    (log_put source subscription e number (send_move s now) IsGone (quiet_put source subscription (send_move s now) (send_quiet s now))) run
moved_goes i start line s e (Image now number) source subscription so_far is mirrors re run =
    report_cases (λ what. (after' : Reads i source subscription what.after) → IsRunTo line after'.at (so_far ++ [])) s e now number
    (put_goes i line source subscription so_far [] e e re refl refl run)
    (λ move quiet.
    put_goes i line source subscription so_far [] e _ re refl
    (log_put source subscription e number move IsGone (quiet_put source subscription move quiet)) run)
    (publisher_of s number)
moved_goes i start line s e (Lists now client) source subscription so_far is mirrors re run =
    put_goes i line source subscription so_far [] e e re refl refl run
moved_goes i start line s e (Value now client number) source subscription so_far is mirrors re run =
    put_goes i line source subscription so_far [] e e re refl refl run

pub none_polled : (source subscription : ℕ) (step : Step) → polled_by source subscription step NoMemory ≡ []
none_polled source subscription (Conductor event) = refl
none_polled source subscription (Packet now local from bytes) = refl
none_polled source subscription (Offers now client registration message) = refl
none_polled source subscription (Polls now client number log limit) = refl
none_polled source subscription (Send now number) = refl
none_polled source subscription (Image now number) = refl
none_polled source subscription (Lists now client) = refl
none_polled source subscription (Value now client number) = refl

pub step_goes : (i : Ident) (start : ℕ) (line : List Kept) (e : RunEnd) (reading : Reading) (answer : Answer) (source subscription : ℕ) (so_far : List Fetched) →
    IsLine i.term_length start line → All (MirrorsLog i line) e.logs → (re : Reads i source subscription e) → IsRunTo line re.at so_far →
    IsAnswerTo e reading answer → Goes i line source subscription so_far reading.step answer (left_by e reading answer)
step_goes i start line e reading answer source subscription so_far is mirrors re run answered =
    step_either (Goes i line source subscription so_far reading.step) e (moved_to e reading) answer answered
    (put_goes i line source subscription so_far _ e e re (none_polled source subscription reading.step) refl run)
    (moved_goes i start line (read_by e reading.older) e reading.step source subscription so_far is mirrors re run)

-- ---- runs

-- it is read at the end, too, and at the beginning
abbrev reads_first : (i : Ident) (source subscription : ℕ) (e : RunEnd) (readings : List Reading) (answers : List Answer) →
    ReadsOn i source subscription e readings answers → Reads i source subscription e
reads_first i source subscription e [] answers on = on
reads_first i source subscription e (reading ∷ readings) [] on = on
reads_first i source subscription e (reading ∷ readings) (answer ∷ answers) on = on.0

run_goes : (i : Ident) (start : ℕ) (line : List Kept) → 0 < i.term_length → IsLine i.term_length start line → (settings : Settings)
    (policy : Rules) (peers : List Peer) → AreSettings settings → (before : List Reading) (earlier : List Answer) (readings : List Reading)
    (answers : List Answer) (source subscription : ℕ) (so_far : List Fetched) → AreAnswers (opening_end settings policy peers) before earlier →
    AreAnswers (end_of (opening_end settings policy peers) before earlier) readings answers → AreGood i line readings →
    All (MirrorsLog i line) (end_of (opening_end settings policy peers) before earlier).logs →
    (on : ReadsOn i source subscription (end_of (opening_end settings policy peers) before earlier) readings answers) →
    IsRunTo line (reads_first i source subscription (end_of (opening_end settings policy peers) before earlier) readings answers on).at so_far →
    IsRun line (so_far ++ polled_in source subscription readings answers)
run_goes i start line some is settings policy peers sound before earlier [] answers source subscription so_far were are good mirrors on run =
    record { at = on.at; is = subst (λ (xs : List Fetched). IsRunTo line on.at xs) (sym (append-nil so_far)) run }
run_goes i start line some is settings policy peers sound before earlier (reading ∷ readings) [] source subscription so_far were are good mirrors on run =
    absurd are
run_goes i start line some is settings policy peers sound before earlier (reading ∷ readings) (answer ∷ answers) source subscription so_far were are good mirrors on run =
    let first : RunEnd = opening_end settings policy peers in
    let e : RunEnd = end_of first before earlier in
    let follows = ends_follow settings policy peers before earlier sound were in
    let next = step_mirror i start line some is e reading answer follows good.0 mirrors in
    let same = end_push first before earlier reading answer were in
    let gives : List Fetched = polled_by source subscription reading.step answer in
    let goes = step_goes i start line e reading answer source subscription so_far is mirrors on.0 run are.0 in
    let moved : (x : RunEnd) → left_by e reading answer ≡ x →
    (on' : ReadsOn i source subscription x readings answers) × IsRunTo line (reads_first i source subscription x readings answers on').at (so_far ++ gives) =
    λ x is'. subst (λ (y : RunEnd). (on' : ReadsOn i source subscription y readings answers)
    × IsRunTo line (reads_first i source subscription y readings answers on').at (so_far ++ gives)) is'
    (on.1, goes (reads_first i source subscription (left_by e reading answer) readings answers on.1)) in
    let there = moved (end_of first (before ++ reading ∷ []) (earlier ++ answer ∷ [])) (sym same) in
    subst (IsRun line) (append_assoc so_far gives (polled_in source subscription readings answers))
    (run_goes i start line some is settings policy peers sound (before ++ reading ∷ []) (earlier ++ answer ∷ []) readings answers source subscription
    (so_far ++ gives) (answers_push first before earlier reading answer were are.0)
    (subst (λ (x : RunEnd). AreAnswers x readings answers) (sym same) are.1) good.1
    (subst (λ (x : RunEnd). All (MirrorsLog i line) x.logs) (sym same) next) there.0 there.1)

-- nothing was given yet
pub none_given : (line : List Kept) (at : ℕ) → IsRunTo line at []
none_given line at = record { before = line; run = []; after = []; is = sym (append-nil line); ends = refl; given_are = refl }

pub polls_give : PollsGiveARun
polls_give i start line settings policy peers before earlier readings answers source subscription some is sound fine good were are on =
    run_goes i start line some is settings policy peers sound before earlier readings answers source subscription [] were are good
    (good_mirrored i start line settings policy peers before earlier some is sound fine were) on (none_given line _)
