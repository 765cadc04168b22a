-- At the end of every run the open logs are the live ones, and exactly those subscriptions read them that
-- the registry says.
use Rattle.std.proofs.Common.{◌≡◌, ℕ, ◌==◌, not, nat_lt, Bool, true, false, cond, List, [], ◌∷◌, ◌++◌, length, map, filter, Option, Some, None, option_map, unwrap_or, refl, sym, ap, ap₂, subst, ◌∙◌}
use Rattle.std.specs.List.{All}
use Rattle.std.proofs.lemmas.Bool.{cond_both}
use Rattle.std.proofs.lemmas.List.{map-append}
use Rattle.std.proofs.lemmas.List.Elements.{All-nil, All-cons, filter-append}
use Rattle.log_traffic.specs.Held.{Made}
use Rattle.log_traffic.specs.Whole.{AnyWhole, whole, rebuilt, made_for as made_any, position_in, readers_in}
use Rattle.log_traffic.proofs.AnyLemmas.{polled_made, polled_readers, rejoined_made as any_made, rejoined_readers as any_readers}
use Rattle.driver_core.specs.Change.{Change}
use Rattle.driver_core.specs.declared.state.event.Inputs.{Inputs}
use Rattle.driver_core.specs.declared.asked.log_request.LogRequest.{LogRequest}
use Rattle.driver_core.specs.declared.state.peer.Peer.{Peer}
use Rattle.driver_core.specs.declared.state.settings.Settings.{Settings}
use Rattle.driver_core.specs.Conduct.{conduct}
use Rattle.driver_core.specs.LogRequests.{offering_of, receiving_of}
use Rattle.driver_core.specs.Pairs.{pairs_of}
use Rattle.driver_core.specs.PublicationRequests.{publisher_of}
use Rattle.driver_core.specs.Renewal.{source_at}
use Rattle.driver_core.specs.Soundness.{AreSettings, IsSound, MovesLogs, Opens, log_of}
use Rattle.driver_core.specs.State.{State, opened}
use Rattle.driver_core.proofs.SoundnessLemmas.{moves_logs, registries_sound}
use Rattle.log_steps.specs.Sending.{send_move}
use Rattle.log_steps.specs.Receiving.{beat_move, receive_move, unheard}
use Rattle.log_traffic.proofs.StillLemmas.{still_made, still_readers}
use Rattle.driver_steps.proofs.QuietLemmas.{IsQuiet, report_cases, send_quiet}
use Rattle.driver_steps.proofs.PacketLemmas.{beaten_made, beaten_readers, packet_cases, received_made, received_readers}
use Rattle.frame_codec.specs.declared.header.TermPlace.{TermPlace}
use Rattle.frame_codec.specs.Datagram.{packet_of}
use Rattle.frame_codec.specs.Frame.{Sent}
use Rattle.driver_core.specs.declared.state.event.Event.{Event}
use Rattle.driver_core.specs.declared.state.event.Event.TheVariants.{Setup as SetUp}
use Rattle.log_steps.specs.declared.answer.Answer.{Answer}
use Rattle.log_steps.specs.declared.answer.Answer.TheVariants.{Offered as OfferedAs, Gone as IsGone}
use Rattle.log_steps.specs.declared.answer.Offered.TheVariants.{Closed}
use Rattle.driver_steps.specs.declared.step.Step.{Step}
use Rattle.driver_steps.specs.declared.step.Step.TheVariants.{Conductor, Packet, Offer, Poll, Image, List as Lists, Send, Value}
use Rattle.driver_steps.specs.Ends.{begun, conducted, inputs_of, log_at, logs_after, moved_by, moved_on, on_log, on_offered, opened_for, opening_end, rejoined_log, RunEnd, stays_open, with_log}
use Rattle.driver_core.specs.Readers.{readers_of}
use Rattle.driver_steps.specs.OpenLogs.{is_closed}
use Rattle.driver_steps.specs.Laws.{AtEachEnd, made_for, made_as, LogsFollow, LogsFollowTheRegistry}
use Rattle.log_steps.specs.Moves.{WholeLog, Move, taken, offer_to, offer_under, offer_move, given, poll_under, poll_move}
use Rattle.driver_steps.proofs.EndLemmas.{run_keeps}
use Rattle.driver_steps.proofs.LiveLemmas.{found_log, all_with}
use Rattle.driver_steps.proofs.MatchLemmas.{begins_made, kept_mapped, made_as_log, opened_found}
use Rattle.log_readers.specs.Unread.{is_left}
use Rattle.policy_core.specs.declared.verdict.Verdict.{Verdict}
use Rattle.policy_core.specs.RuleList.{Rules}
use Rattle.stream_registry.specs.declared.lingering.LogPlace.{LogPlace}
use Rattle.stream_registry.specs.declared.pairs.Pair.{Pair}
use Rattle.stream_registry.specs.declared.row.LogRow.{LogRow}
use Rattle.term_log.specs.Log.{greatest_message}
use Rattle.term_log.specs.Whole.{Whole, is_connected, offered}

-- the registry is sound, and the logs follow it
pub record Follows (e : RunEnd) : Type 0 where
  pub sound : IsSound e.registry
  pub logs : LogsFollow e

-- exactly the subscriptions of these pairs read the log
abbrev IsRead : List Pair → WholeLog → Type 0
IsRead pairs log = readers_in log.whole ≡ readers_of pairs log.source

-- ---- the log that an event opens

begun_made : (s : State) (found : Option LogRow) (log : LogRow) → option_map log_of found ≡ Some log →
    map made_for (begun s found) ≡ made_as s.settings log ∷ []
begun_made s None log is = absurd (cc)
begun_made s (Some found) log is =
    ap (λ (made : Made). (found.number, made) ∷ [])
    (begins_made s.settings s.moment found found.origin ∙ sym (made_as_log s.settings found))
    ∙ ap (λ (o : Option LogRow). made_as s.settings (unwrap_or o log) ∷ []) is

opened_made : (s : State) (change : Change) (opens : Option LogPlace) → (moves : MovesLogs s change) →
    Opens s opens moves.opened →
    map made_for (opened_for change.after opens) ≡ map (made_as change.after.settings) moves.opened
opened_made s change None moves is = sym (ap (map (made_as change.after.settings)) is)
opened_made s change (Some place) moves is =
    let log : LogRow = is.0 in
    let logs : List LogRow = change.after.streams.sources in
    let found : option_map log_of (source_at logs place.source) ≡ Some log =
    subst (λ (p : LogPlace). option_map log_of (source_at logs p.source) ≡ Some log) is.2
    (opened_found s change log moves is.1) in
    begun_made change.after (source_at logs place.source) log found
    ∙ sym (ap (map (made_as change.after.settings)) is.1)

-- ---- what the logs are made for, after an event

abbrev stays : List LogPlace → ℕ × Made → Bool
stays closes made = not (is_closed closes made.0)

rejoined_made : (pairs : List Pair) (logs : List WholeLog) →
    map made_for (map (rejoined_log pairs) logs) ≡ map made_for logs
rejoined_made pairs [] = refl
rejoined_made pairs (log ∷ logs) =
    ap₂ (λ (made : Made) (others : List (ℕ × Made)). (log.source, made) ∷ others)
    (any_made (readers_of pairs log.source) log.whole) (rejoined_made pairs logs)

-- whether it lingers or not
made_as_logs : (settings : Settings) (logs : List LogRow) →
    map (made_as settings) (map log_of logs) ≡ map (made_as settings) logs
made_as_logs settings [] = refl
made_as_logs settings (log ∷ logs) =
    ap₂ (λ (made : Made) (others : List (ℕ × Made)). (log.number, made) ∷ others) (made_as_log settings log)
    (made_as_logs settings logs)

made_after : (s : State) (change : Change) (logs : List WholeLog) → MovesLogs s change →
    map made_for logs ≡ map (made_as s.settings) s.streams.sources →
    map made_for (logs_after change logs) ≡ map (made_as change.after.settings) change.after.streams.sources
unfolding logs_after
made_after s change logs moves made =
    let settings : Settings = change.after.settings in
    let closes : List LogPlace = change.outcome.closes in
    let before : List LogRow = map log_of s.streams.sources in
    let begins : List WholeLog = opened_for change.after change.outcome.opens in
    let old : map made_for logs ≡ map (made_as settings) before =
    made
    ∙ ap (λ (to : Settings). map (made_as to) s.streams.sources) (sym moves.settings)
    ∙ sym (made_as_logs settings s.streams.sources) in
    let all : map made_for (logs ++ begins) ≡ map (made_as settings) (before ++ moves.opened) =
    map-append made_for logs begins
    ∙ ap₂ (λ (xs ys : List (ℕ × Made)). xs ++ ys) old
    (opened_made s change change.outcome.opens moves moves.opens)
    ∙ sym (map-append (made_as settings) before moves.opened) in
    let left : filter (is_left closes) (before ++ moves.opened) ≡ map log_of change.after.streams.sources =
    filter-append (is_left closes) before moves.opened
    ∙ ap (λ (logs' : List LogRow). filter (is_left closes) before ++ logs') moves.stays
    ∙ sym moves.logs in
    rejoined_made (pairs_of change.after) (filter (stays_open closes) (logs ++ begins))
    ∙ kept_mapped (stays closes) made_for (logs ++ begins)
    ∙ ap (λ (made' : List (ℕ × Made)). filter (stays closes) made') all
    ∙ sym (kept_mapped (stays closes) (made_as settings) (before ++ moves.opened))
    ∙ ap (λ (logs' : List LogRow). map (made_as settings) logs') left
    ∙ made_as_logs settings change.after.streams.sources

-- ---- who reads the logs, after an event

rejoined_read : (pairs : List Pair) (logs : List WholeLog) → All (IsRead pairs) (map (rejoined_log pairs) logs)
rejoined_read pairs [] = All-nil (IsRead pairs)
rejoined_read pairs (log ∷ logs) =
    All-cons (IsRead pairs) (rejoined_log pairs log) (map (rejoined_log pairs) logs)
    (any_readers (readers_of pairs log.source) log.whole) (rejoined_read pairs logs)

event_follows : (s : State) (change : Change) (logs : List WholeLog) → MovesLogs s change →
    LogsFollow (record { registry = s; logs = logs }) →
    Follows (record { registry = change.after; logs = logs_after change logs })
unfolding logs_after
event_follows s change logs moves follow = record {
  sound = moves.sound;
  logs = record {
    made = made_after s change logs moves follow.made;
    apart = moves.sound.laid_out;
    read = rejoined_read (pairs_of change.after)
        (filter (stays_open change.outcome.closes) (logs ++ opened_for change.after change.outcome.opens));
  };
}

-- ---- a step on one log

-- a log for the same, which the same read
record IsAlike (log new : WholeLog) : Type 0 where
  made : made_for new ≡ made_for log
  readers : readers_in new.whole ≡ readers_in log.whole

is_itself : (log : WholeLog) → IsAlike log log
is_itself log = record { made = refl; readers = refl }

taken_alike : (message : List ℕ) (log : WholeLog) (frames : Whole) → log.whole ≡ whole frames →
    IsAlike log (taken message log frames).after
unfolding offered
taken_alike message log frames is = record {
  made = ap (λ (w : AnyWhole). (log.source, made_any w)) (sym is);
  readers = ap readers_in (sym is);
}

offered_alike : (now timeout : ℕ) (verdict : Verdict) (message : List ℕ) (log : WholeLog) (w : AnyWhole) → log.whole ≡ w →
    IsAlike log (offer_to now timeout verdict message log w).after
offered_alike now timeout verdict message log (whole frames) is =
    let P : Move → Type 0 = λ move. IsAlike log move.after in
    cond_both (not verdict.allow) _ _ P (λ _. is_itself log)
    (λ _. cond_both (nat_lt (greatest_message frames.ident) (length message)) _ _ P (λ _. is_itself log)
    (λ _. cond_both (not (is_connected frames now timeout)) _ _ P (λ _. is_itself log)
    (λ _. taken_alike message log frames is)))
offered_alike now timeout verdict message log (rebuilt frames) is = is_itself log

offer_alike : (s : State) (now : ℕ) (message : List ℕ) (log : WholeLog) (o : Option LogRequest) →
    IsAlike log (offer_under s.settings.connection_timeout o now message log).after
offer_alike s now message log None = is_itself log
offer_alike s now message log (Some request) =
    let P : Move → Type 0 = λ move. IsAlike log move.after in
    cond_both (not (request.source == log.source)) _ _ P (λ _. is_itself log)
    (λ _. offered_alike now s.settings.connection_timeout request.decision.verdict message log log.whole refl)

given_alike : (subscription limit : ℕ) (log : WholeLog) → IsAlike log (given subscription limit log).after
given_alike subscription limit log = record {
  made = ap (λ (made : Made). (log.source, made)) (polled_made log.whole subscription limit);
  readers = polled_readers log.whole subscription limit;
}

poll_alike : (subscription limit : ℕ) (log : WholeLog) (o : Option LogRequest) (at : Option ℕ) →
    IsAlike log (poll_under subscription limit log o at).after
poll_alike subscription limit log None at = is_itself log
poll_alike subscription limit log (Some request) None = is_itself log
poll_alike subscription limit log (Some request) (Some at) =
    cond_both (not request.decision.verdict.allow) _ _ (λ (move : Move). IsAlike log move.after) (λ _. is_itself log)
    (λ _. given_alike subscription limit log)

-- ---- the logs, one of which is another now

one_with_made : (b : Bool) (source : ℕ) (first log new : WholeLog) (logs : List WholeLog) →
    made_for new ≡ made_for log →
    (log_at logs source ≡ Some log → map made_for (with_log logs source new) ≡ map made_for logs) →
    cond b (Some first) (log_at logs source) ≡ Some log →
    map made_for (cond b (new ∷ logs) (first ∷ with_log logs source new)) ≡ made_for first ∷ map made_for logs
one_with_made true source first log new logs same rest found =
    let is : first ≡ log = cc in
    ap (λ (made : ℕ × Made). made ∷ map made_for logs) (same ∙ sym (ap made_for is))
one_with_made false source first log new logs same rest found =
    ap (λ (made : List (ℕ × Made)). made_for first ∷ made) (rest found)

with_made : (source : ℕ) (log new : WholeLog) (logs : List WholeLog) → made_for new ≡ made_for log →
    log_at logs source ≡ Some log → map made_for (with_log logs source new) ≡ map made_for logs
with_made source log new [] same found = refl
with_made source log new (first ∷ logs) same found =
    one_with_made (first.source == source) source first log new logs same (with_made source log new logs same) found

alike_read : (pairs : List Pair) (log new : WholeLog) → IsAlike log new → IsRead pairs log → IsRead pairs new
alike_read pairs log new alike read =
    alike.readers
    ∙ read
    ∙ ap (λ (made : ℕ × Made). readers_of pairs made.0) (sym alike.made)

move_follows : (e : RunEnd) (source : ℕ) (move : WholeLog → Move) (absent : Answer) (o : Option WholeLog) →
    log_at e.logs source ≡ o → ((log : WholeLog) → IsAlike log (move log).after) → Follows e →
    Follows (moved_on e source move absent o).after
move_follows e source move absent None found alike follows = follows
move_follows e source move absent (Some log) found alike follows =
    let P : WholeLog → Type 0 = IsRead (pairs_of e.registry) in
    let new : WholeLog = (move log).after in
    let there = found_log P source log e.logs follows.logs.read found in
    record {
      sound = follows.sound;
      logs = record {
        made = with_made source log new e.logs (alike log).made found ∙ follows.logs.made;
        apart = follows.logs.apart;
        read = all_with P source new e.logs follows.logs.read
            (alike_read (pairs_of e.registry) log new (alike log) there.holds);
      };
    }

offer_follows : (s : State) (e : RunEnd) (now client registration : ℕ) (message : List ℕ) (o : Option LogRequest) → Follows e →
    Follows (on_offered s e now client registration message o).after
unfolding on_log offer_move
offer_follows s e now client registration message None follows = follows
offer_follows s e now client registration message (Some request) follows =
    move_follows e request.source (offer_move s now client registration message) (OfferedAs Closed)
    (log_at e.logs request.source) refl
    (λ log. offer_alike s now message log (offering_of s client registration)) follows

poll_follows : (s : State) (e : RunEnd) (client subscription source limit : ℕ) → Follows e →
    Follows (on_log e source (poll_move s client subscription limit) IsGone).after
unfolding on_log poll_move
poll_follows s e client subscription source limit follows =
    move_follows e source (poll_move s client subscription limit) IsGone (log_at e.logs source) refl
    (λ log.
    poll_alike subscription limit log (receiving_of s client subscription log.source)
    (position_in log.whole subscription))
    follows

log_follows : (e : RunEnd) (source : ℕ) (move : WholeLog → Move) (absent : Answer) →
    ((log : WholeLog) → IsAlike log (move log).after) → Follows e → Follows (on_log e source move absent).after
unfolding on_log
log_follows e source move absent alike follows = move_follows e source move absent (log_at e.logs source) refl alike follows

receive_alike : (now : ℕ) (sent : List Sent) (log : WholeLog) → IsAlike log (receive_move now sent log).after
receive_alike now sent log = record {
  made = ap (λ (made : Made). (log.source, made)) (received_made now sent log.whole);
  readers = received_readers now sent log.whole;
}

beat_alike : (now : ℕ) (place : TermPlace) (log : WholeLog) → IsAlike log (beat_move now place log).after
beat_alike now place log = record {
  made = ap (λ (made : Made). (log.source, made)) (beaten_made now place log.whole);
  readers = beaten_readers now place log.whole;
}

quiet_alike : (move : WholeLog → Move) → IsQuiet move → (log : WholeLog) → IsAlike log (move log).after
quiet_alike move quiet log = record {
  made = ap₂ (λ (n : ℕ) (made : Made). (n, made)) (quiet log).source (still_made log.whole (move log).after.whole (quiet log).whole);
  readers = still_readers log.whole (move log).after.whole (quiet log).whole;
}

-- ---- runs

taken_follows : (e : RunEnd) (event : Event) → Follows e → Follows (conducted e event).after
unfolding conducted
taken_follows e event follows =
    let inputs : Inputs = inputs_of e.registry event e.logs in
    event_follows e.registry (conduct e.registry event inputs) e.logs (moves_logs e.registry event inputs follows.sound)
    follows.logs

step_follows : (s : State) (e : RunEnd) (step : Step) → Follows e → Follows (moved_by s e step).after
step_follows s e (Conductor event) follows = taken_follows e event follows
step_follows s e (Packet now local from bytes) follows =
    packet_cases (λ what. Follows what.after) s e now local from (record {
      drops = λ cause. follows;
      receives = λ source sent.
          log_follows e source (receive_move now sent) unheard (receive_alike now sent) follows;
      hears = λ source place. log_follows e source (beat_move now place) unheard (beat_alike now place) follows;
      asks = λ source move quiet. log_follows e source move unheard (quiet_alike move quiet) follows;
      sets_up = λ fields. taken_follows e (SetUp now local from fields) follows;
    }) (packet_of bytes)
step_follows s e (Offer now client registration message) follows =
    offer_follows s e now client registration message (offering_of s client registration) follows
step_follows s e (Poll now client subscription source limit) follows =
    poll_follows s e client subscription source limit follows
step_follows s e (Send now source) follows =
    log_follows e source (send_move s now) IsGone (quiet_alike (send_move s now) (send_quiet s now)) follows
step_follows s e (Image now source) follows =
    report_cases (λ what. Follows what.after) s e now source follows
    (λ move quiet. log_follows e source move IsGone (quiet_alike move quiet) follows) (publisher_of s source)
step_follows s e (Lists now client) follows = follows
step_follows s e (Value now client number) follows = follows

opening_follows : (settings : Settings) (policy : Rules) (peers : List Peer) → AreSettings settings →
    Follows (opening_end settings policy peers)
unfolding opening_end opened
opening_follows settings policy peers sound =
    let opening = registries_sound settings policy peers [] sound in
    record {
      sound = opening;
      logs = record { made = refl; apart = opening.laid_out; read = All-nil (IsRead (pairs_of _)) };
    }

-- at the end of every run the registry is sound, too
pub ends_follow : AtEachEnd Follows
ends_follow settings policy peers readings answers sound are =
    run_keeps Follows step_follows (opening_end settings policy peers) readings answers
    (opening_follows settings policy peers sound)

pub logs_follow : LogsFollowTheRegistry
logs_follow settings policy peers readings answers sound are =
    (ends_follow settings policy peers readings answers sound are).logs
