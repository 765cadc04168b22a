-- The frames of a live log are what was put into it, step by step.
use Rattle.std.proofs.Common.{◌≡◌, ℕ, ◌+◌, ◌<◌, ◌≤◌, ◌==◌, not, nat_lt, true, false, List, [], ◌∷◌, ◌++◌, length, filter, Option, Some, None, refl, sym, ap, subst, ◌∙◌, append-nil, append_assoc, arith}
use Rattle.std.specs.List.{All}
use Rattle.std.proofs.lemmas.Bool.{cond_both, eq-eqb, eqb-true, ne_eqb}
use Rattle.std.proofs.lemmas.List.Elements.{All-append, All-cons, All-filter, All-head, All-map, All-nil, All-tail, All-weaker}
use Rattle.driver_core.specs.Change.{Change}
use Rattle.driver_core.specs.declared.state.event.Event.{Event}
use Rattle.driver_core.specs.declared.state.event.Event.TheVariants.{Attach, Command, Reload, Setup as SetUp, Tick}
use Rattle.driver_core.specs.declared.state.event.Inputs.{Inputs}
use Rattle.driver_core.specs.declared.asked.log_request.LogRequest.{LogRequest}
use Rattle.driver_core.specs.declared.state.peer.Peer.{Peer}
use Rattle.driver_core.specs.declared.state.settings.Settings.{Settings}
use Rattle.driver_core.specs.Attaching.{attached}
use Rattle.driver_core.specs.Closing.{close, keep_alive}
use Rattle.driver_core.specs.Commands.{at_request, heard}
use Rattle.driver_core.specs.Conduct.{coming_to, conduct, drafted}
use Rattle.driver_core.specs.Counting.{counted, uncounted, valued}
use Rattle.driver_core.specs.Directing.{directed, recalled}
use Rattle.driver_core.specs.Draft.{Draft, answered as draft_answered, refused, replied, replied_opening, told}
use Rattle.driver_core.specs.LogRequests.{offering_of, receiving_of}
use Rattle.driver_core.specs.Pairs.{pairs_of}
use Rattle.driver_core.specs.PublicationRequests.{publisher_of}
use Rattle.driver_core.specs.Publishing.{opening_of, published}
use Rattle.driver_core.specs.Readers.{readers_of}
use Rattle.driver_core.specs.Reloading.{reloaded}
use Rattle.driver_core.specs.Renewal.{renewed, source_at}
use Rattle.driver_core.specs.Requests.{wanted_by}
use Rattle.driver_core.specs.SettingUp.{image_made}
use Rattle.driver_core.specs.State.{State, at_moment, opened, ruled}
use Rattle.driver_core.specs.Subscribing.{subscribed}
use Rattle.driver_core.specs.Terminating.{terminated}
use Rattle.driver_core.specs.Ticking.{tick, ticked}
use Rattle.driver_core.specs.Unpublishing.{unpublished}
use Rattle.driver_core.specs.Unread.{dropping}
use Rattle.driver_core.specs.Unsubscribing.{unsubscribed}
use Rattle.driver_core.proofs.EventCases.{Cases, attach_cases, command_cases, reload_cases, set_up_cases}
use Rattle.driver_laws.specs.FrameLaws.{FramesAreWhatWasPut, padded_by, put_by, put_in}
use Rattle.driver_laws.specs.NumberLaws.{AreRising, Rises}
use Rattle.driver_laws.proofs.LoggedLemmas.{found_in}
use Rattle.driver_laws.proofs.NumberLemmas.{are_drawn, event_rises, opened_rises}
use Rattle.driver_laws.proofs.RisingLemmas.{between, rises_kept, rises_mapped, rises_push, rises_up_to}
use Rattle.log_steps.specs.declared.answer.Answer.{Answer}
use Rattle.log_steps.specs.declared.answer.Answer.TheVariants.{Offered as OfferedAs, Denied, Gone as IsGone, NoMemory}
use Rattle.log_steps.specs.declared.answer.Offered.TheVariants.{Closed, TooLong, NotConnected}
use Rattle.driver_steps.specs.declared.step.Step.{Step}
use Rattle.driver_steps.specs.declared.step.Step.TheVariants.{Conductor, Packet, Offer as Offers, Poll as Polls, Image, List as Lists, Send, Value}
use Rattle.log_steps.specs.Answers.{offered_as}
use Rattle.driver_steps.specs.Ends.{begun, conducted, inputs_of, log_at, logs_after, Moved, moved_by, moved_on, on_log, on_offered, opened_for, opening_end, rejoined_log, RunEnd, stays_open, with_log}
use Rattle.log_steps.specs.Idents.{begins_by, begins_of}
use Rattle.driver_steps.specs.Laws.{put_into}
use Rattle.log_steps.specs.Moves.{Move, WholeLog, answered, offer_move, offer_to, offer_under, poll_move, poll_under, taken}
use Rattle.log_steps.specs.Receiving.{beat_move, receive_move, unheard}
use Rattle.log_steps.specs.Recovery.{recovering}
use Rattle.driver_steps.specs.Runs.{Reading, AreAnswers, IsAnswerTo, end_of, left_by, moved_to, read_by}
use Rattle.log_steps.specs.Sending.{send_move}
use Rattle.driver_steps.proofs.EndLemmas.{log_keeps_registry}
use Rattle.driver_steps.proofs.DecisionLemmas.{stays_left}
use Rattle.driver_steps.proofs.LiveLemmas.{IsFound, found_log, is_allowed, log_keeps, step_either}
use Rattle.driver_steps.proofs.PacketLemmas.{packet_cases}
use Rattle.driver_steps.proofs.QuietLemmas.{IsQuiet, report_cases, send_quiet}
use Rattle.frame_codec.specs.declared.header.TermPlace.{TermPlace}
use Rattle.frame_codec.specs.Datagram.{packet_of}
use Rattle.frame_codec.specs.Frame.{Sent}
use Rattle.log_traffic.specs.Whole.{AnyWhole, whole, rebuilt, beaten, polled as any_polled, position_in, received, rejoined}
use Rattle.log_traffic.proofs.StillLemmas.{IsStill}
use Rattle.policy_core.specs.declared.verdict.Verdict.{Verdict}
use Rattle.policy_core.specs.RuleList.{Rules}
use Rattle.stream_registry.specs.declared.lingering.LogPlace.{LogPlace}
use Rattle.stream_registry.specs.declared.pairs.Pair.{Pair}
use Rattle.stream_registry.specs.declared.row.Origin.{Origin}
use Rattle.stream_registry.specs.declared.row.Origin.TheVariants.{Published, Remote}
use Rattle.stream_registry.specs.declared.row.LogRow.{LogRow}
use Rattle.stream_registry.specs.declared.wanted.Adding.{Adding}
use Rattle.stream_registry.specs.declared.wanted.Adding.TheVariants.{Join, Make}
use Rattle.stream_registry.specs.declared.wanted.Wanted.{Wanted}
use Rattle.term_log.specs.declared.offer.Offer.{Offer}
use Rattle.term_log.specs.declared.offer.Offer.TheVariants as offer
use Rattle.term_log.specs.Frames.{Frame}
use Rattle.term_log.specs.Log.{appended_at, greatest_message}
use Rattle.term_log.specs.Whole.{Whole, answer_to, is_connected, offered, polled as term_polled, polled_from, rejoined as term_rejoined, tail_of}

-- ---- the log that an event opens has the next number

abbrev OpensNext : State → Draft → Type 0
OpensNext s draft = (place : LogPlace) → draft.opens ≡ Some place → place.source ≡ s.last_number + 1

none_opens : (s : State) (place : LogPlace) (o : Option LogPlace) → o ≡ None → o ≡ Some place → place.source ≡ s.last_number + 1
none_opens s place o none some = let never : None ≡ Some place = sym none ∙ some in absurd (cc never)

opening_next : (s : State) (now handle : ℕ) (wanted : Wanted) (adding : Adding) (place : LogPlace) →
    opening_of (at_request s now handle) wanted adding ≡ Some place → place.source ≡ s.last_number + 1
unfolding opening_of heard at_moment
opening_next s now handle wanted (Join source session) place is = absurd (cc is)
opening_next s now handle wanted (Make session) place is = ap (λ (p : LogPlace). p.source) (sym (some_is is))
  where
    some_is : {a b : LogPlace} → Some a ≡ Some b → a ≡ b
    some_is same = cc same

command_opens : (s : State) (now handle : ℕ) (bytes : List ℕ) → Cases (OpensNext s) (at_moment s now) handle bytes
unfolding refused replied told subscribed published replied_opening unpublished unsubscribed keep_alive counted valued uncounted directed recalled close terminated
command_opens s now handle bytes = record {
  unheard = λ correlation refusal plain not_heard place is. absurd (cc is);
  refusal = λ decisions client correlation refusal plain was_heard place is. absurd (cc is);
  denial = λ client correlation act channel stream was_heard found asked denies place is. absurd (cc is);
  subscription = λ request was_heard asks allows room place is. absurd (cc is);
  publication = λ request adding was_heard asks allows fits room placed place is.
      opening_next s now handle (wanted_by request) adding place is;
  publication_removal = λ client correlation fields was_heard asks place is. absurd (cc is);
  removal = λ request was_heard asks place is. absurd (cc is);
  keepalive = λ was_heard place is. absurd (cc is);
  destination = λ request number was_heard asks allows manual fits place is. absurd (cc is);
  destination_removal = λ client correlation fields target was_heard asks fits place is. absurd (cc is);
  counter = λ client correlation fields was_heard asks allows room place is. absurd (cc is);
  value = λ client correlation fields was_heard asks place is. absurd (cc is);
  counter_removal = λ client correlation fields was_heard asks place is. absurd (cc is);
  closing = λ client correlation was_heard asks place is. absurd (cc is);
  termination = λ client correlation fields was_heard asks allows place is. absurd (cc is);
}

draft_opens : (s : State) (event : Event) (inputs : Inputs) → OpensNext s (drafted s event inputs)
unfolding drafted at_moment draft_answered attached reloaded tick ticked image_made
draft_opens s (Attach now principal) inputs =
    attach_cases (OpensNext s) (at_moment s now) principal (λ place is. absurd (cc is)) (λ place is. absurd (cc is))
    (λ place is. absurd (cc is))
draft_opens s (Command now handle bytes) inputs =
    command_cases (OpensNext s) s now handle bytes inputs (command_opens s now handle bytes)
draft_opens s (Reload now policy) inputs =
    reload_cases (OpensNext s) (at_moment s now) policy (λ room place is. absurd (cc is)) (λ full place is. absurd (cc is))
draft_opens s (Tick now) inputs = λ place is. absurd (cc is)
draft_opens s (SetUp now local from setup) inputs =
    set_up_cases (OpensNext s) (at_moment s now) local from setup (λ fault place is. absurd (cc is))
    (λ join at joins set place is. let same : s.last_number + 1 ≡ place.source = cc is in sym same)

event_opens : (s : State) (event : Event) (inputs : Inputs) (place : LogPlace) →
    (conduct s event inputs).outcome.opens ≡ Some place → place.source ≡ s.last_number + 1
unfolding conduct renewed dropping ruled
event_opens s event inputs place is = draft_opens (coming_to s event) event inputs place is

-- ---- logs whose frames are those

abbrev HasAny : List Frame → AnyWhole → Type 0
HasAny fs (whole w) = w.frames ≡ fs
HasAny fs (rebuilt r) = Unit {0}

abbrev Has : (ℕ → List Frame) → WholeLog → Type 0
Has all log = HasAny (all log.source) log.whole

any_same : (fs gs : List Frame) (w : AnyWhole) → gs ≡ fs → HasAny fs w → HasAny gs w
any_same fs gs w is has = subst (λ (all : List Frame). HasAny all w) (sym is) has

abbrev source_number : WholeLog → ℕ
source_number log = log.source

-- the numbers of the logs rise, none is above the one drawn last, and nothing was put into a log that is not there yet
record Keeps (all : ℕ → List Frame) (e : RunEnd) : Type 0 where
  rises : AreRising e.registry
  numbered : Rises source_number 0 e.registry.last_number e.logs
  none : (n : ℕ) → e.registry.last_number < n → all n ≡ []
  has : All (Has all) e.logs

keeps_same : (all more : ℕ → List Frame) (e : RunEnd) → ((n : ℕ) → more n ≡ all n) → Keeps all e → Keeps more e
keeps_same all more e same keeps = record {
  rises = keeps.rises;
  numbered = keeps.numbered;
  none = λ n above. same n ∙ keeps.none n above;
  has = All-weaker (Has all) (Has more) (λ log has. any_same (all log.source) (more log.source) log.whole (same log.source) has)
      e.logs keeps.has;
}

keeps_end : (all : ℕ → List Frame) (e : RunEnd) (registry : State) (logs : List WholeLog) → registry ≡ e.registry →
    Rises source_number 0 e.registry.last_number logs → All (Has all) logs → Keeps all e →
    Keeps all (record { registry = registry; logs = logs })
keeps_end all e registry logs same numbered has keeps =
    subst (λ (s : State). Keeps all (record { registry = s; logs = logs })) (sym same)
    (record { rises = keeps.rises; numbered = numbered; none = keeps.none; has = has })

-- ---- a log that moves

rises_with : (low last source : ℕ) (log : WholeLog) (logs : List WholeLog) → log.source ≡ source →
    Rises source_number low last logs → Rises source_number low last (with_log logs source log)
rises_with low last source log [] is up = up
rises_with low last source log (first ∷ logs) is up =
    cond_both (first.source == source) (log ∷ logs) (first ∷ with_log logs source log) (Rises source_number low last)
    (λ here.
    let same : log.source ≡ first.source = is ∙ sym (eqb-true first.source source here) in
    (subst (λ n. low < n) (sym same) up.0, subst (λ n. Rises source_number n last logs) (sym same) up.1))
    (λ other. (up.0, rises_with first.source last source log logs is up.1))

rises_moved : (e : RunEnd) (source : ℕ) (move : WholeLog → Move) (absent : Answer) (o : Option WholeLog) →
    log_at e.logs source ≡ o → ((log : WholeLog) → (move log).after.source ≡ log.source) →
    Rises source_number 0 e.registry.last_number e.logs →
    Rises source_number 0 e.registry.last_number (moved_on e source move absent o).after.logs
rises_moved e source move absent None found same up = up
rises_moved e source move absent (Some log) found same up =
    let there = found_in (λ (l : WholeLog). l.source == source) e.logs log found in
    rises_with 0 e.registry.last_number source (move log).after e.logs
    (same log ∙ eqb-true log.source source there.passes) up

-- it leaves its number and its frames
record Leaves (move : WholeLog → Move) : Type 0 where
  source : (log : WholeLog) → (move log).after.source ≡ log.source
  frames : (log : WholeLog) (fs : List Frame) → HasAny fs log.whole → HasAny fs (move log).after.whole

leaving_keeps : (all : ℕ → List Frame) (e : RunEnd) (source : ℕ) (move : WholeLog → Move) (absent : Answer) → Leaves move →
    Keeps all e → Keeps all (on_log e source move absent).after
unfolding on_log
leaving_keeps all e source move absent leaves keeps =
    keeps_end all e _ _ (log_keeps_registry e source move absent)
    (rises_moved e source move absent (log_at e.logs source) refl leaves.source keeps.numbered)
    (log_keeps (Has all) e source move absent
    (λ log found there.
    subst (λ n. HasAny (all n) (move log).after.whole) (sym (leaves.source log))
    (leaves.frames log (all log.source) there.holds))
    keeps.has)
    keeps

still_any : (fs : List Frame) (w v : AnyWhole) → IsStill w v → HasAny fs w → HasAny fs v
still_any fs (whole w) (whole v) still has = still.frames ∙ has
still_any fs (whole w) (rebuilt s) still has = absurd still
still_any fs (rebuilt r) (whole v) still has = absurd still
still_any fs (rebuilt r) (rebuilt s) still has = tt

quiet_leaves : (move : WholeLog → Move) → IsQuiet move → Leaves move
quiet_leaves move quiet = record {
  source = λ log. (quiet log).source;
  frames = λ log fs has. still_any fs log.whole (move log).after.whole (quiet log).whole has;
}

received_has : (fs : List Frame) (now : ℕ) (sent : List Sent) (w : AnyWhole) → HasAny fs w → HasAny fs (received now sent w)
received_has fs now sent (whole w) has = has
received_has fs now sent (rebuilt r) has = tt

receive_leaves : (now : ℕ) (sent : List Sent) → Leaves (receive_move now sent)
receive_leaves now sent = record {
  source = λ log. refl;
  frames = λ log fs has. received_has fs now sent log.whole has;
}

beaten_has : (fs : List Frame) (now : ℕ) (place : TermPlace) (w : AnyWhole) → HasAny fs w → HasAny fs (beaten now place w)
beaten_has fs now place (whole w) has = has
beaten_has fs now place (rebuilt r) has = tt

beat_leaves : (now : ℕ) (place : TermPlace) → Leaves (beat_move now place)
beat_leaves now place = record {
  source = λ log. refl;
  frames = λ log fs has. beaten_has fs now place log.whole has;
}

polled_from_frames : (w : Whole) (subscription limit : ℕ) (at : Option ℕ) →
    (polled_from w subscription limit at).after.frames ≡ w.frames
polled_from_frames w subscription limit None = refl
polled_from_frames w subscription limit (Some at) = refl

polled_has : (fs : List Frame) (subscription limit : ℕ) (w : AnyWhole) → HasAny fs w →
    HasAny fs (any_polled w subscription limit).after
unfolding term_polled
polled_has fs subscription limit (whole w) has = polled_from_frames w subscription limit _ ∙ has
polled_has fs subscription limit (rebuilt r) has = tt

poll_under_source : (subscription limit : ℕ) (log : WholeLog) (o : Option LogRequest) (at : Option ℕ) →
    (poll_under subscription limit log o at).after.source ≡ log.source
poll_under_source subscription limit log None at = refl
poll_under_source subscription limit log (Some request) None = refl
poll_under_source subscription limit log (Some request) (Some at) =
    cond_both (not request.decision.verdict.allow) _ _ (λ (move : Move). move.after.source ≡ log.source) (λ _. refl) (λ _. refl)

poll_under_has : (fs : List Frame) (subscription limit : ℕ) (log : WholeLog) (o : Option LogRequest) (at : Option ℕ) →
    HasAny fs log.whole → HasAny fs (poll_under subscription limit log o at).after.whole
poll_under_has fs subscription limit log None at has = has
poll_under_has fs subscription limit log (Some request) None has = has
poll_under_has fs subscription limit log (Some request) (Some at) has =
    cond_both (not request.decision.verdict.allow) _ _ (λ (move : Move). HasAny fs move.after.whole) (λ _. has)
    (λ _. polled_has fs subscription limit log.whole has)

poll_leaves : (s : State) (client subscription limit : ℕ) → Leaves (poll_move s client subscription limit)
unfolding poll_move
poll_leaves s client subscription limit = record {
  source = λ log.
      poll_under_source subscription limit log (receiving_of s client subscription log.source)
      (position_in log.whole subscription);
  frames = λ log fs has.
      poll_under_has fs subscription limit log (receiving_of s client subscription log.source)
      (position_in log.whole subscription) has;
}

-- ---- an event

begins_has : (fs : List Frame) (settings : Settings) (now : ℕ) (log : LogRow) (origin : Origin) → fs ≡ [] →
    HasAny fs (begins_by settings now log origin)
begins_has fs settings now log (Published exclusive since) is = sym is
begins_has fs settings now log (Remote address initial_term join) is = tt

rejoined_has : (fs : List Frame) (numbers : List ℕ) (w : AnyWhole) → HasAny fs w → HasAny fs (rejoined numbers w)
unfolding term_rejoined
rejoined_has fs numbers (whole w) has = has
rejoined_has fs numbers (rebuilt r) has = tt

-- the others with the one that is opened
record Opened (all : ℕ → List Frame) (last : ℕ) (logs : List WholeLog) : Type 0 where
  numbered : Rises source_number 0 last logs
  has : All (Has all) logs

begun_opens : (all : ℕ → List Frame) (before last : ℕ) (t : State) (logs : List WholeLog) (o : Option LogRow) →
    ((n : ℕ) → before < n → all n ≡ []) → before ≤ last → Rises source_number 0 before logs → All (Has all) logs →
    ((log : LogRow) → o ≡ Some log → (before < log.number) × (log.number ≤ last)) → Opened all last (logs ++ begun t o)
begun_opens all before last t logs None none more up has new =
    subst (Opened all last) (sym (append-nil logs))
    (record { numbered = rises_up_to source_number 0 before last logs more up; has = has })
begun_opens all before last t logs (Some log) none more up has new =
    let bounds = new log refl in
    let first : WholeLog = record {
      source = log.number;
      whole = begins_of t.settings t.moment log;
      recovery = recovering t.settings;
    } in
    record {
      numbered = rises_push source_number 0 before last logs first up bounds.0 bounds.1;
      has = All-append (Has all) logs (first ∷ []) has
          (All-cons (Has all) first [] (begins_has (all log.number) t.settings t.moment log log.origin (none log.number bounds.0))
          (All-nil (Has all)));
    }

row_new : (t : State) (before : ℕ) (place : LogPlace) (log : LogRow) → AreRising t → place.source ≡ before + 1 →
    source_at t.streams.sources place.source ≡ Some log → (before < log.number) × (log.number ≤ t.last_number)
row_new t before place log rises next found =
    let there = found_in (λ (l : LogRow). l.number == place.source) t.streams.sources log found in
    let number : log.number ≡ place.source = eqb-true log.number place.source there.passes in
    let drawn = (are_drawn t rises).sources log there.stands in
    (omega (arith, number, next), drawn.below)

opened_opens : (all : ℕ → List Frame) (before : ℕ) (t : State) (logs : List WholeLog) (o : Option LogPlace) → AreRising t →
    ((n : ℕ) → before < n → all n ≡ []) → before ≤ t.last_number → Rises source_number 0 before logs → All (Has all) logs →
    ((place : LogPlace) → o ≡ Some place → place.source ≡ before + 1) → Opened all t.last_number (logs ++ opened_for t o)
opened_opens all before t logs None rises none more up has next =
    begun_opens all before t.last_number t logs None none more up has (λ log is. absurd (cc is))
opened_opens all before t logs (Some place) rises none more up has next =
    begun_opens all before t.last_number t logs (source_at t.streams.sources place.source) none more up has
    (λ log found. row_new t before place log rises (next place refl) found)

event_keeps_all : (all : ℕ → List Frame) (e : RunEnd) (event : Event) → Keeps all e → Keeps all (conducted e event).after
unfolding conducted logs_after
event_keeps_all all e event keeps =
    let inputs : Inputs = inputs_of e.registry event e.logs in
    let change : Change = conduct e.registry event inputs in
    let next = event_rises e.registry event inputs keeps.rises in
    let pairs : List Pair = pairs_of change.after in
    let logs : List WholeLog = e.logs ++ opened_for change.after change.outcome.opens in
    let kept : List WholeLog = filter (stays_open change.outcome.closes) logs in
    let grown : Opened all change.after.last_number logs =
    opened_opens all e.registry.last_number change.after e.logs change.outcome.opens next.rises keeps.none next.draws.last
    keeps.numbered keeps.has (event_opens e.registry event inputs) in
    let more = next.draws.last in
    record {
      rises = next.rises;
      numbered = rises_mapped source_number (rejoined_log pairs) 0 change.after.last_number kept (λ log. refl)
          (rises_kept source_number (stays_open change.outcome.closes) 0 change.after.last_number logs grown.numbered);
      none = λ n above. keeps.none n (omega (arith, above, more));
      has = All-map (Has all) (rejoined_log pairs) kept
          (All-weaker (Has all) (λ log. Has all (rejoined_log pairs log))
          (λ log has. rejoined_has (all log.source) (readers_of pairs log.source) log.whole has) kept
          (All-filter (stays_open change.outcome.closes) (Has all) logs grown.has));
    }

-- ---- what a step puts

abbrev with_put : (ℕ → List Frame) → State → RunEnd → Step → Answer → ℕ → List Frame
with_put all s e step answer n = all n ++ put_by s e n step answer

nothing_put : (all : ℕ → List Frame) (s : State) (e end : RunEnd) (step : Step) (answer : Answer) →
    ((n : ℕ) → put_by s e n step answer ≡ []) → Keeps all end → Keeps (with_put all s e step answer) end
nothing_put all s e end step answer none keeps =
    keeps_same all (with_put all s e step answer) end
    (λ n. ap (λ (fs : List Frame). all n ++ fs) (none n) ∙ append-nil (all n)) keeps

-- ---- an offer

-- to another log
put_other : (s : State) (e : RunEnd) (n now client registration : ℕ) (message : List ℕ) (request : LogRequest) (told : Offer) →
    offering_of s client registration ≡ Some request → (request.source ≡ n → ⊥) →
    put_by s e n (Offers now client registration message) (OfferedAs (offered_as told)) ≡ []
put_other s e n now client registration message request (offer.At position) asked other =
    let apart : (request.source == n) ≡ false = ne_eqb request.source n other in
    ap (put_into e n message) asked ∙ rw apart refl
put_other s e n now client registration message request offer.AdminAction asked other =
    let apart : (request.source == n) ≡ false = ne_eqb request.source n other in
    ap (padded_by e n) asked ∙ rw apart refl
put_other s e n now client registration message request offer.TooLong asked other = refl
put_other s e n now client registration message request offer.MaxPosition asked other = refl
put_other s e n now client registration message request offer.BackPressured asked other = refl

-- to the log itself
put_own : (s : State) (e : RunEnd) (now client registration : ℕ) (message : List ℕ) (request : LogRequest) (log : WholeLog)
    (w : Whole) (told : Offer) → offering_of s client registration ≡ Some request → log_at e.logs request.source ≡ Some log →
    log.source ≡ request.source → request.decision.verdict.allow ≡ true → log.whole ≡ whole w →
    put_by s e log.source (Offers now client registration message) (OfferedAs (offered_as told))
    ≡ appended_at told w.ident (tail_of w) message
put_own s e now client registration message request log w (offer.At position) asked found source allows is =
    ap (put_into e log.source message) asked ∙ rw (source, eq-eqb request.source request.source refl, allows, found, is) refl
put_own s e now client registration message request log w offer.AdminAction asked found source allows is =
    ap (padded_by e log.source) asked ∙ rw (source, eq-eqb request.source request.source refl, allows, found, is) refl
put_own s e now client registration message request log w offer.TooLong asked found source allows is = refl
put_own s e now client registration message request log w offer.MaxPosition asked found source allows is = refl
put_own s e now client registration message request log w offer.BackPressured asked found source allows is = refl

-- all behind a number are others
others_have : (all more : ℕ → List Frame) (source last : ℕ) (logs : List WholeLog) → Rises source_number source last logs →
    ((n : ℕ) → (source ≡ n → ⊥) → more n ≡ all n) → All (Has all) logs → All (Has more) logs
others_have all more source last [] up same has = All-nil (Has more)
others_have all more source last (log ∷ logs) up same has =
    let above = up.0 in
    let differs : source ≡ log.source → ⊥ = λ is. absurd (omega (arith, above, is)) in
    All-cons (Has more) log logs
    (any_same (all log.source) (more log.source) log.whole (same log.source differs) (All-head (Has all) log logs has))
    (others_have all more source last logs (rises_lower source log.source last logs above up.1) same (All-tail (Has all) log logs has))
  where
    rises_lower : (lower low top : ℕ) (rows : List WholeLog) → lower < low → Rises source_number low top rows →
        Rises source_number lower top rows
    rises_lower lower low top [] below rest = omega (arith, below, rest)
    rises_lower lower low top (row ∷ rows) below rest = (let next = rest.0 in omega (arith, below, next), rest.1)

differs_by : (n m : ℕ) → (n == m) ≡ false → m ≡ n → ⊥
differs_by n m other is =
    let same : (n == m) ≡ true = eq-eqb n m (sym is) in
    let never : false ≡ true = sym other ∙ same in
    absurd (cc never)

with_has : (all more : ℕ → List Frame) (low last source : ℕ) (log : WholeLog) (logs : List WholeLog) →
    Rises source_number low last logs → ((n : ℕ) → (source ≡ n → ⊥) → more n ≡ all n) → Has more log → All (Has all) logs →
    All (Has more) (with_log logs source log)
with_has all more low last source log [] up same new has = All-nil (Has more)
with_has all more low last source log (first ∷ logs) up same new has =
    cond_both (first.source == source) (log ∷ logs) (first ∷ with_log logs source log) (All (Has more))
    (λ here.
    let is : first.source ≡ source = eqb-true first.source source here in
    All-cons (Has more) log logs new
    (others_have all more source last logs (subst (λ n. Rises source_number n last logs) is up.1) same
    (All-tail (Has all) first logs has)))
    (λ other.
    All-cons (Has more) first (with_log logs source log)
    (any_same (all first.source) (more first.source) first.whole (same first.source (differs_by first.source source other))
    (All-head (Has all) first logs has))
    (with_has all more first.source last source log logs up.1 same new (All-tail (Has all) first logs has)))

abbrev MoveKeeps : (ℕ → List Frame) → State → RunEnd → Step → ℕ → Move → Type 0
MoveKeeps all s e step source move =
    Keeps (with_put all s e step move.answer) (record e { logs = with_log e.logs source move.after })

-- what is refused leaves the log as it was
stays_put : (all : ℕ → List Frame) (s : State) (e : RunEnd) (step : Step) (source : ℕ) (log : WholeLog) (answer : Answer) →
    log_at e.logs source ≡ Some log → ((n : ℕ) → put_by s e n step answer ≡ []) → Keeps all e →
    MoveKeeps all s e step source (answered log answer)
stays_put all s e step source log answer found none keeps =
    subst (λ (m : Moved). Keeps (with_put all s e step answer) m.after) (sym (stays_left e source log answer found))
    (nothing_put all s e e step answer none keeps)

taken_keeps : (all : ℕ → List Frame) (s : State) (e : RunEnd) (now client registration : ℕ) (message : List ℕ)
    (request : LogRequest) (log : WholeLog) (w : Whole) → offering_of s client registration ≡ Some request →
    log_at e.logs request.source ≡ Some log → request.decision.verdict.allow ≡ true → log.whole ≡ whole w → Keeps all e →
    MoveKeeps all s e (Offers now client registration message) request.source (taken message log w)
unfolding offered
taken_keeps all s e now client registration message request log w asked found allows is keeps =
    let step : Step = Offers now client registration message in
    let told : Offer = answer_to w message in
    let there : IsFound (Has all) request.source log = found_log (Has all) request.source log e.logs keeps.has found in
    let source : log.source ≡ request.source = there.source_is in
    let more : ℕ → List Frame = with_put all s e step (OfferedAs (offered_as told)) in
    let other : (n : ℕ) → (request.source ≡ n → ⊥) → more n ≡ all n =
    λ n differs.
    ap (λ (fs : List Frame). all n ++ fs) (put_other s e n now client registration message request told asked differs)
    ∙ append-nil (all n) in
    let were : w.frames ≡ all log.source = subst (HasAny (all log.source)) is there.holds in
    let new : w.frames ++ appended_at told w.ident (tail_of w) message ≡ more log.source =
    ap (λ (fs : List Frame). fs ++ appended_at told w.ident (tail_of w) message) were
    ∙ ap (λ (fs : List Frame). all log.source ++ fs)
    (sym (put_own s e now client registration message request log w told asked found source allows is)) in
    let drawn = between source_number 0 e.registry.last_number e.logs log keeps.numbered
    (found_in (λ (l : WholeLog). l.source == request.source) e.logs log found).stands in
    let low = drawn.1 in
    record {
      rises = keeps.rises;
      numbered = rises_with 0 e.registry.last_number request.source (taken message log w).after e.logs source keeps.numbered;
      none = λ n above. other n (λ same. absurd (omega (arith, above, low, same, source))) ∙ keeps.none n above;
      has = with_has all more 0 e.registry.last_number request.source (taken message log w).after e.logs keeps.numbered other
          new keeps.has;
    }

offer_to_keeps : (all : ℕ → List Frame) (s : State) (e : RunEnd) (now client registration : ℕ) (message : List ℕ)
    (request : LogRequest) (log : WholeLog) (w : AnyWhole) → offering_of s client registration ≡ Some request →
    log_at e.logs request.source ≡ Some log → log.whole ≡ w → Keeps all e →
    MoveKeeps all s e (Offers now client registration message) request.source
    (offer_to now s.settings.connection_timeout request.decision.verdict message log w)
offer_to_keeps all s e now client registration message request log (whole w) asked found is keeps =
    let step : Step = Offers now client registration message in
    let P : Move → Type 0 = MoveKeeps all s e step request.source in
    let verdict : Verdict = request.decision.verdict in
    cond_both (not verdict.allow) _ _ P (λ _. stays_put all s e step request.source log (Denied verdict) found (λ n. refl) keeps)
    (λ granted.
    cond_both (nat_lt (greatest_message w.ident) (length message)) _ _ P
    (λ _. stays_put all s e step request.source log (OfferedAs TooLong) found (λ n. refl) keeps)
    (λ _.
    cond_both (not (is_connected w now s.settings.connection_timeout)) _ _ P
    (λ _. stays_put all s e step request.source log (OfferedAs NotConnected) found (λ n. refl) keeps)
    (λ _. taken_keeps all s e now client registration message request log w asked found (is_allowed verdict.allow granted) is keeps)))
offer_to_keeps all s e now client registration message request log (rebuilt r) asked found is keeps =
    stays_put all s e (Offers now client registration message) request.source log (OfferedAs Closed) found (λ n. refl) keeps

offer_under_keeps : (all : ℕ → List Frame) (s : State) (e : RunEnd) (now client registration : ℕ) (message : List ℕ)
    (request : LogRequest) (log : WholeLog) → offering_of s client registration ≡ Some request →
    log_at e.logs request.source ≡ Some log → Keeps all e →
    MoveKeeps all s e (Offers now client registration message) request.source (offer_under s.settings.connection_timeout (Some request) now message log)
offer_under_keeps all s e now client registration message request log asked found keeps =
    let step : Step = Offers now client registration message in
    cond_both (not (request.source == log.source)) _ _ (MoveKeeps all s e step request.source)
    (λ _. stays_put all s e step request.source log (OfferedAs Closed) found (λ n. refl) keeps)
    (λ _. offer_to_keeps all s e now client registration message request log log.whole asked found refl keeps)

abbrev StepKeeps : (ℕ → List Frame) → State → RunEnd → Step → Moved → Type 0
StepKeeps all s e step what = Keeps (with_put all s e step what.answer) what.after

offered_keeps : (all : ℕ → List Frame) (s : State) (e : RunEnd) (now client registration : ℕ) (message : List ℕ)
    (request : LogRequest) (o : Option WholeLog) → offering_of s client registration ≡ Some request →
    log_at e.logs request.source ≡ o → Keeps all e →
    StepKeeps all s e (Offers now client registration message)
    (moved_on e request.source (offer_move s now client registration message) (OfferedAs Closed) o)
unfolding offer_move
offered_keeps all s e now client registration message request None asked found keeps =
    nothing_put all s e e (Offers now client registration message) (OfferedAs Closed) (λ n. refl) keeps
offered_keeps all s e now client registration message request (Some log) asked found keeps =
    subst
    (λ (o : Option LogRequest).
    MoveKeeps all s e (Offers now client registration message) request.source (offer_under s.settings.connection_timeout o now message log))
    (sym asked) (offer_under_keeps all s e now client registration message request log asked found keeps)

offer_keeps : (all : ℕ → List Frame) (s : State) (e : RunEnd) (now client registration : ℕ) (message : List ℕ)
    (o : Option LogRequest) → offering_of s client registration ≡ o → Keeps all e →
    StepKeeps all s e (Offers now client registration message) (on_offered s e now client registration message o)
unfolding on_log
offer_keeps all s e now client registration message None asked keeps =
    nothing_put all s e e (Offers now client registration message) (OfferedAs Closed) (λ n. refl) keeps
offer_keeps all s e now client registration message (Some request) asked keeps =
    offered_keeps all s e now client registration message request (log_at e.logs request.source) asked refl keeps

-- ---- any step

step_keeps : (all : ℕ → List Frame) (s : State) (e : RunEnd) (step : Step) → Keeps all e →
    StepKeeps all s e step (moved_by s e step)
step_keeps all s e (Packet now local from bytes) keeps =
    let step : Step = Packet now local from bytes in
    nothing_put all s e (moved_by s e step).after step (moved_by s e step).answer (λ n. refl)
    (packet_cases (λ what. Keeps all what.after) s e now local from (record {
      drops = λ cause. keeps;
      receives = λ source sent. leaving_keeps all e source (receive_move now sent) unheard (receive_leaves now sent) keeps;
      hears = λ source place. leaving_keeps all e source (beat_move now place) unheard (beat_leaves now place) keeps;
      asks = λ source move quiet. leaving_keeps all e source move unheard (quiet_leaves move quiet) keeps;
      sets_up = λ fields. event_keeps_all all e (SetUp now local from fields) keeps;
    }) (packet_of bytes))
step_keeps all s e (Conductor event) keeps =
    nothing_put all s e (conducted e event).after (Conductor event) (conducted e event).answer (λ n. refl)
    (event_keeps_all all e event keeps)
step_keeps all s e (Offers now client registration message) keeps =
    offer_keeps all s e now client registration message (offering_of s client registration) refl keeps
step_keeps all s e (Polls now client subscription source limit) keeps =
    let step : Step = Polls now client subscription source limit in
    nothing_put all s e (moved_by s e step).after step (moved_by s e step).answer (λ n. refl)
    (leaving_keeps all e source (poll_move s client subscription limit) IsGone (poll_leaves s client subscription limit) keeps)
step_keeps all s e (Send now source) keeps =
    let step : Step = Send now source in
    nothing_put all s e (moved_by s e step).after step (moved_by s e step).answer (λ n. refl)
    (leaving_keeps all e source (send_move s now) IsGone (quiet_leaves (send_move s now) (send_quiet s now)) keeps)
step_keeps all s e (Image now source) keeps =
    let step : Step = Image now source in
    nothing_put all s e (moved_by s e step).after step (moved_by s e step).answer (λ n. refl)
    (report_cases (λ what. Keeps all what.after) s e now source keeps
    (λ move quiet. leaving_keeps all e source move IsGone (quiet_leaves move quiet) keeps) (publisher_of s source))
step_keeps all s e (Lists now client) keeps =
    nothing_put all s e e (Lists now client) (moved_by s e (Lists now client)).answer (λ n. refl) keeps
step_keeps all s e (Value now client number) keeps =
    nothing_put all s e e (Value now client number) (moved_by s e (Value now client number)).answer (λ n. refl) keeps

unanswered : (s : State) (e : RunEnd) (n : ℕ) (step : Step) → put_by s e n step NoMemory ≡ []
unanswered s e n (Offers now client registration message) = refl
unanswered s e n step = refl

reading_keeps : (all : ℕ → List Frame) (e : RunEnd) (reading : Reading) (answer : Answer) → IsAnswerTo e reading answer →
    Keeps all e → Keeps (with_put all (read_by e reading.older) e reading.step answer) (left_by e reading answer)
reading_keeps all e reading answer is keeps =
    let s : State = read_by e reading.older in
    step_either (λ told end. Keeps (with_put all s e reading.step told) end) e (moved_to e reading) answer is
    (nothing_put all s e e reading.step NoMemory (λ n. unanswered s e n reading.step) keeps)
    (step_keeps all s e reading.step keeps)

-- ---- runs

run_keeps : (all : ℕ → List Frame) (e : RunEnd) (readings : List Reading) (answers : List Answer) → AreAnswers e readings answers →
    Keeps all e → Keeps (λ n. all n ++ put_in e n readings answers) (end_of e readings answers)
run_keeps all e [] [] are keeps = keeps_same all (λ n. all n ++ []) e (λ n. append-nil (all n)) keeps
run_keeps all e [] (answer ∷ answers) are keeps = absurd are
run_keeps all e (reading ∷ readings) [] are keeps = absurd are
run_keeps all e (reading ∷ readings) (answer ∷ answers) are keeps =
    let next : RunEnd = left_by e reading answer in
    let s : State = read_by e reading.older in
    let now : ℕ → List Frame = with_put all s e reading.step answer in
    keeps_same (λ n. now n ++ put_in next n readings answers)
    (λ n. all n ++ (put_by s e n reading.step answer ++ put_in next n readings answers))
    (end_of next readings answers)
    (λ n. sym (append_assoc (all n) (put_by s e n reading.step answer) (put_in next n readings answers)))
    (run_keeps now next readings answers are.1 (reading_keeps all e reading answer are.0 keeps))

opening_keeps : (settings : Settings) (policy : Rules) (peers : List Peer) → Keeps (λ n. []) (opening_end settings policy peers)
unfolding opening_end opened
opening_keeps settings policy peers = record {
  rises = opened_rises settings policy peers;
  numbered = omega arith;
  none = λ n above. refl;
  has = All-nil (Has (λ n. []));
}

pub frames_put : FramesAreWhatWasPut
frames_put settings policy peers readings answers source log frames are live is =
    let first : RunEnd = opening_end settings policy peers in
    let all : ℕ → List Frame = λ n. [] ++ put_in first n readings answers in
    let keeps : Keeps all (end_of first readings answers) =
    run_keeps (λ n. []) first readings answers are (opening_keeps settings policy peers) in
    let there : IsFound (Has all) source log = found_log (Has all) source log (end_of first readings answers).logs keeps.has live in
    subst (HasAny (all source)) is (subst (λ n. HasAny (all n) log.whole) there.source_is there.holds)
