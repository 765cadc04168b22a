-- A publication's log only grows, while it is there.
use Rattle.std.proofs.Common.{◌≡◌, ℕ, ◌==◌, not, nat_lt, List, [], ◌++◌, length, filter, Option, Some, None, refl, sym, ap, ◌∙◌, subst, append_assoc}
use Rattle.std.specs.List.{All}
use Rattle.std.proofs.lemmas.Bool.{cond_both}
use Rattle.std.proofs.lemmas.List.{append-nil}
use Rattle.std.proofs.lemmas.List.Elements.{All-weaker}
use Rattle.driver_core.specs.Change.{Change}
use Rattle.driver_core.specs.declared.state.event.Event.{Event}
use Rattle.driver_core.specs.declared.state.event.Event.TheVariants.{Setup as SetUp}
use Rattle.driver_core.specs.declared.asked.log_request.LogRequest.{LogRequest}
use Rattle.driver_core.specs.Conduct.{conduct}
use Rattle.driver_core.specs.LogRequests.{offering_of, receiving_of}
use Rattle.driver_core.specs.PublicationRequests.{publisher_of}
use Rattle.driver_core.specs.Pairs.{pairs_of}
use Rattle.driver_core.specs.Readers.{readers_of}
use Rattle.driver_core.specs.State.{State}
use Rattle.log_steps.specs.declared.answer.Answer.{Answer}
use Rattle.log_steps.specs.declared.answer.Answer.TheVariants.{Offered as OfferedAs, Gone as IsGone}
use Rattle.log_steps.specs.declared.answer.Offered.TheVariants.{Closed}
use Rattle.driver_steps.specs.declared.step.Step.{Step}
use Rattle.driver_steps.specs.declared.step.Step.TheVariants.{Conductor, Packet, Offer as Offers, Poll as Polls, Image, List as Lists, Send, Value}
use Rattle.driver_steps.specs.Ends.{conducted, inputs_of, log_at, logs_after, moved_by, on_log, on_offered, opened_for, rejoined_log, RunEnd, stays_open}
use Rattle.log_steps.specs.Moves.{WholeLog, Move, offer_move, offer_to, offer_under, poll_move, poll_under}
use Rattle.log_steps.specs.Receiving.{beat_move, receive_move, unheard}
use Rattle.driver_steps.specs.Runs.{Reading, left_by, moved_to, read_by}
use Rattle.log_steps.specs.Sending.{send_move}
use Rattle.driver_steps.proofs.EndLemmas.{after_both}
use Rattle.driver_steps.proofs.LiveLemmas.{found_log, log_keeps}
use Rattle.driver_steps.proofs.PacketLemmas.{packet_cases}
use Rattle.driver_steps.proofs.QuietLemmas.{IsQuiet, report_cases, send_quiet}
use Rattle.frame_codec.specs.declared.header.TermPlace.{TermPlace}
use Rattle.frame_codec.specs.Datagram.{packet_of}
use Rattle.frame_codec.specs.Frame.{Sent}
use Rattle.log_traffic.specs.Whole.{AnyWhole, whole, rebuilt, beaten, polled as any_polled, position_in, received, rejoined}
use Rattle.log_traffic.proofs.StillLemmas.{IsStill}
use Rattle.policy_core.specs.declared.verdict.Verdict.{Verdict}
use Rattle.stream_registry.specs.declared.pairs.Pair.{Pair}
use Rattle.term_log.specs.Frames.{Frame}
use Rattle.term_log.specs.Log.{greatest_message}
use Rattle.term_log.specs.Whole.{Whole, is_connected, offered, polled as term_polled, polled_from, rejoined as term_rejoined}
use Rattle.two_drivers.proofs.PollingLemmas.{filtered_at, first_at, rejoined_in}

-- ---- a log later on

-- frames were appended
pub record IsMore (w v : Whole) : Type 0 where
  pub ident : v.ident ≡ w.ident
  pub more : List Frame
  pub frames : v.frames ≡ w.frames ++ more

abbrev pub IsLater : AnyWhole → AnyWhole → Type 0
IsLater (whole w) (whole v) = IsMore w v
IsLater (whole w) (rebuilt s) = ⊥
IsLater (rebuilt r) v = Unit {0}

as_it_was : (w v : Whole) → v.ident ≡ w.ident → v.frames ≡ w.frames → IsMore w v
as_it_was w v ident frames = record { ident = ident; more = []; frames = frames ∙ sym (append-nil w.frames) }

pub more_later : (w v x : Whole) → IsMore w v → IsMore v x → IsMore w x
more_later w v x first second = record {
  ident = second.ident ∙ first.ident;
  more = first.more ++ second.more;
  frames = second.frames ∙ ap (λ (fs : List Frame). fs ++ second.more) first.frames ∙ append_assoc w.frames first.more second.more;
}

itself_later : (w : AnyWhole) → IsLater w w
itself_later (whole w) = as_it_was w w refl refl
itself_later (rebuilt r) = tt

later_still : (w v x : AnyWhole) → IsLater w v → IsLater v x → IsLater w x
later_still (whole w) (whole v) (whole x) first second = more_later w v x first second
later_still (whole w) (whole v) (rebuilt x) first second = absurd second
later_still (whole w) (rebuilt v) x first second = absurd first
later_still (rebuilt w) v x first second = tt

-- ---- moves

pub record IsGrown (log new : WholeLog) : Type 0 where
  pub source : new.source ≡ log.source
  pub whole : IsLater log.whole new.whole

abbrev Grows : (WholeLog → Move) → Type 0
Grows move = (log : WholeLog) → IsGrown log (move log).after

not_grown : (log : WholeLog) → IsGrown log log
not_grown log = record { source = refl; whole = itself_later log.whole }

still_later : (w v : AnyWhole) → IsStill w v → IsLater w v
still_later (whole w) (whole v) still = as_it_was w v still.ident still.frames
still_later (whole w) (rebuilt s) still = absurd still
still_later (rebuilt r) v still = tt

quiet_grows : (move : WholeLog → Move) → IsQuiet move → Grows move
quiet_grows move quiet log = record { source = (quiet log).source; whole = still_later log.whole (move log).after.whole (quiet log).whole }

received_later : (now : ℕ) (sent : List Sent) (w : AnyWhole) → IsLater w (received now sent w)
received_later now sent (whole w) = as_it_was w w refl refl
received_later now sent (rebuilt r) = tt

beaten_later : (now : ℕ) (place : TermPlace) (w : AnyWhole) → IsLater w (beaten now place w)
beaten_later now place (whole w) = as_it_was w w refl refl
beaten_later now place (rebuilt r) = tt

offered_more : (w : Whole) (message : List ℕ) → IsMore w (offered w message)
unfolding offered
offered_more w message = record { ident = refl; more = _; frames = refl }

offer_grows : (now timeout : ℕ) (verdict : Verdict) (message : List ℕ) (log : WholeLog) (w : AnyWhole) → log.whole ≡ w →
    IsGrown log (offer_to now timeout verdict message log w).after
offer_grows now timeout verdict message log (whole w) is =
    let P : Move → Type 0 = λ move. IsGrown log move.after in
    cond_both (not verdict.allow) _ _ P (λ _. not_grown log)
    (λ _. cond_both (nat_lt (greatest_message w.ident) (length message)) _ _ P (λ _. not_grown log)
    (λ _. cond_both (not (is_connected w now timeout)) _ _ P (λ _. not_grown log)
    (λ _. record { source = refl; whole = subst (λ (a : AnyWhole). IsLater a (whole (offered w message))) (sym is) (offered_more w message) })))
offer_grows now timeout verdict message log (rebuilt r) is = not_grown log

offer_under_grows : (s : State) (now : ℕ) (message : List ℕ) (log : WholeLog) (o : Option LogRequest) →
    IsGrown log (offer_under s.settings.connection_timeout o now message log).after
offer_under_grows s now message log None = not_grown log
offer_under_grows s now message log (Some request) =
    cond_both (not (request.source == log.source)) _ _ (λ (move : Move). IsGrown log move.after)
    (λ _. not_grown log)
    (λ _. offer_grows now s.settings.connection_timeout request.decision.verdict message log log.whole refl)

polled_more : (w : Whole) (subscription limit : ℕ) (o : Option ℕ) → IsMore w (polled_from w subscription limit o).after
polled_more w subscription limit None = as_it_was w w refl refl
polled_more w subscription limit (Some at) = as_it_was w _ refl refl

polled_later : (w : AnyWhole) (subscription limit : ℕ) → IsLater w (any_polled w subscription limit).after
unfolding term_polled
polled_later (whole w) subscription limit = polled_more w subscription limit _
polled_later (rebuilt r) subscription limit = tt

poll_grows : (subscription limit : ℕ) (log : WholeLog) (o : Option LogRequest) (at : Option ℕ) → IsGrown log (poll_under subscription limit log o at).after
poll_grows subscription limit log None at = not_grown log
poll_grows subscription limit log (Some request) None = not_grown log
poll_grows subscription limit log (Some request) (Some at) =
    cond_both (not request.decision.verdict.allow) _ _ (λ (move : Move). IsGrown log move.after) (λ _. not_grown log)
    (λ _. record { source = refl; whole = polled_later log.whole subscription limit })

-- ---- what a step leaves

-- the log of that number, if it is there
abbrev pub GoesOn : ℕ → WholeLog → List WholeLog → Type 0
GoesOn n log logs = (new : WholeLog) → log_at logs n ≡ Some new → IsLater log.whole new.whole

-- each log is the one that is found by its number
abbrev pub AreFound : List WholeLog → Type 0
AreFound logs = All (λ (log : WholeLog). log_at logs log.source ≡ Some log) logs

pub stays_there : (n : ℕ) (log : WholeLog) (logs : List WholeLog) → log_at logs n ≡ Some log → GoesOn n log logs
stays_there n log logs live new found =
    let same : log ≡ new = cc (sym live ∙ found) in
    subst (λ (l : WholeLog). IsLater log.whole l.whole) same (itself_later log.whole)

abbrev IsLaterAt : ℕ → WholeLog → WholeLog → Type 0
IsLaterAt n log new = new.source ≡ n → IsLater log.whole new.whole

all_later : (n : ℕ) (log : WholeLog) (logs : List WholeLog) → log_at logs n ≡ Some log → AreFound logs → All (IsLaterAt n log) logs
all_later n log logs live found =
    All-weaker (λ (one : WholeLog). log_at logs one.source ≡ Some one) (IsLaterAt n log)
    (λ one there is. stays_there n log logs live one (ap (log_at logs) (sym is) ∙ there)) logs found

log_goes : (n : ℕ) (log : WholeLog) (e : RunEnd) (source : ℕ) (move : WholeLog → Move) (absent : Answer) → log_at e.logs n ≡ Some log → AreFound e.logs →
    Grows move → GoesOn n log (on_log e source move absent).after.logs
log_goes n log e source move absent live found grows new is =
    let all = log_keeps (IsLaterAt n log) e source move absent
    (λ one there was at.
    (let grown = grows one in
    later_still log.whole one.whole (move one).after.whole (was.holds (sym grown.source ∙ at)) grown.whole))
    (all_later n log e.logs live found) in
    let one = found_log (IsLaterAt n log) n new (on_log e source move absent).after.logs all is in
    one.holds one.source_is

offer_goes : (n : ℕ) (log : WholeLog) (s : State) (e : RunEnd) (now client registration : ℕ) (message : List ℕ) (o : Option LogRequest) →
    log_at e.logs n ≡ Some log → AreFound e.logs → GoesOn n log (on_offered s e now client registration message o).after.logs
unfolding offer_move
offer_goes n log s e now client registration message None live found = stays_there n log e.logs live
offer_goes n log s e now client registration message (Some request) live found =
    log_goes n log e request.source (offer_move s now client registration message) (OfferedAs Closed) live found
    (λ one. offer_under_grows s now message one (offering_of s client registration))

rejoined_later : (numbers : List ℕ) (w : AnyWhole) → IsLater w (rejoined numbers w)
unfolding term_rejoined
rejoined_later numbers (whole w) = as_it_was w _ refl refl
rejoined_later numbers (rebuilt r) = tt

change_goes : (n : ℕ) (log : WholeLog) (change : Change) (logs : List WholeLog) → log_at logs n ≡ Some log → GoesOn n log (logs_after change logs)
unfolding logs_after
change_goes n log change logs live new found =
    let pairs : List Pair = pairs_of change.after in
    let opened : List WholeLog = opened_for change.after change.outcome.opens in
    let there = rejoined_in pairs n new (filter (stays_open change.outcome.closes) (logs ++ opened)) found in
    let was = filtered_at change.outcome.closes n there.log (logs ++ opened) there.found in
    let same : there.log ≡ log = first_at n there.log log logs opened live was in
    let is : new ≡ rejoined_log pairs log = there.is ∙ ap (rejoined_log pairs) same in
    subst (λ (l : WholeLog). IsLater log.whole l.whole) (sym is) (rejoined_later (readers_of pairs log.source) log.whole)

event_goes : (n : ℕ) (log : WholeLog) (e : RunEnd) (event : Event) → log_at e.logs n ≡ Some log → GoesOn n log (conducted e event).after.logs
unfolding conducted
event_goes n log e event live = change_goes n log (conduct e.registry event (inputs_of e.registry event e.logs)) e.logs live

moved_goes : (n : ℕ) (log : WholeLog) (s : State) (e : RunEnd) (step : Step) → log_at e.logs n ≡ Some log → AreFound e.logs →
    GoesOn n log (moved_by s e step).after.logs
unfolding poll_move
moved_goes n log s e (Conductor event) live found = event_goes n log e event live
moved_goes n log s e (Packet now local from bytes) live found =
    packet_cases (λ what. GoesOn n log what.after.logs) s e now local from (record {
      drops = λ cause. stays_there n log e.logs live;
      receives = λ number sent.
          log_goes n log e number (receive_move now sent) unheard live found
          (λ one. record { source = refl; whole = received_later now sent one.whole });
      hears = λ number place.
          log_goes n log e number (beat_move now place) unheard live found
          (λ one. record { source = refl; whole = beaten_later now place one.whole });
      asks = λ number move quiet. log_goes n log e number move unheard live found (quiet_grows move quiet);
      sets_up = λ fields. event_goes n log e (SetUp now local from fields) live;
    }) (packet_of bytes)
moved_goes n log s e (Offers now client registration message) live found =
    offer_goes n log s e now client registration message (offering_of s client registration) live found
moved_goes n log s e (Polls now client subscription source limit) live found =
    log_goes n log e source (poll_move s client subscription limit) IsGone live found
    (λ one. poll_grows subscription limit one (receiving_of s client subscription one.source) (position_in one.whole subscription))
moved_goes n log s e (Send now source) live found =
    log_goes n log e source (send_move s now) IsGone live found (quiet_grows (send_move s now) (send_quiet s now))
moved_goes n log s e (Image now source) live found =
    report_cases (λ what. GoesOn n log what.after.logs) s e now source (stays_there n log e.logs live)
    (λ move quiet. log_goes n log e source move IsGone live found (quiet_grows move quiet)) (publisher_of s source)
moved_goes n log s e (Lists now client) live found = stays_there n log e.logs live
moved_goes n log s e (Value now client number) live found = stays_there n log e.logs live

pub left_later : (n : ℕ) (log new : WholeLog) (e : RunEnd) (reading : Reading) (answer : Answer) → log_at e.logs n ≡ Some log → AreFound e.logs →
    log_at (left_by e reading answer).logs n ≡ Some new → IsLater log.whole new.whole
left_later n log new e reading answer live found =
    after_both (λ end. GoesOn n log end.logs) e (moved_to e reading) answer (stays_there n log e.logs live)
    (moved_goes n log (read_by e reading.older) e reading.step live found) new
