-- A log that a step opens has no frame, and zeros alone.
use Rattle.std.proofs.Common.{◌≡◌, ℕ, ◌==◌, not, nat_lt, Bool, true, false, cond, List, [], ◌∷◌, length, filter, Option, Some, None, refl, sym, ap, subst, ◌∙◌}
use Rattle.std.specs.List.{All}
use Rattle.std.proofs.lemmas.Bool.{cond_both, eq-eqb}
use Rattle.std.proofs.lemmas.List.Elements.{All-cons, All-nil}
use Rattle.driver_core.specs.declared.state.event.Event.TheVariants.{Setup as SetUp}
use Rattle.driver_core.specs.declared.asked.log_request.LogRequest.{LogRequest}
use Rattle.driver_core.specs.declared.state.settings.Settings.{Settings}
use Rattle.driver_core.specs.LogRequests.{offering_of, receiving_of}
use Rattle.driver_core.specs.PublicationRequests.{publisher_of}
use Rattle.driver_core.specs.Readers.{readers_of}
use Rattle.driver_core.specs.State.{State}
use Rattle.driver_laws.specs.NewLogLaws.{HasNoEntry, HasNoFrame, IsEmpty, NewLogsAreEmpty, OpensEmptyLogs}
use Rattle.driver_laws.specs.OlderLaws.{AtEachRegistry}
use Rattle.driver_laws.proofs.BlankLemmas.{blank_held}
use Rattle.driver_laws.proofs.WorldLemmas.{of_worlds}
use Rattle.log_steps.specs.declared.answer.Answer.{Answer}
use Rattle.log_steps.specs.declared.answer.Answer.TheVariants.{Offered as OfferedAs, Gone as IsGone}
use Rattle.log_steps.specs.declared.answer.Offered.TheVariants.{Closed}
use Rattle.driver_steps.specs.declared.step.Step.{Step}
use Rattle.driver_steps.specs.declared.step.Step.TheVariants.{Conductor, Packet, Offer as Offers, Poll as Polls, Image, List as Lists, Send, Value}
use Rattle.driver_steps.specs.Ends.{log_at, moved_by, on_log, on_offered, RunEnd}
use Rattle.log_steps.specs.Idents.{begins_by, ident_of}
use Rattle.log_steps.specs.Moves.{WholeLog, Move, offer_move, offer_to, offer_under, poll_move, poll_under}
use Rattle.log_steps.specs.Receiving.{beat_move, receive_move, unheard}
use Rattle.log_steps.specs.Sending.{send_move}
use Rattle.driver_steps.proofs.LiveLemmas.{IsKept, event_keeps, found_log, log_keeps}
use Rattle.driver_steps.proofs.PacketLemmas.{packet_cases}
use Rattle.driver_steps.proofs.QuietLemmas.{report_cases, send_quiet}
use Rattle.frame_codec.specs.Datagram.{packet_of}
use Rattle.image_log.specs.Rebuilt.{Rebuilt, settled}
use Rattle.image_log.specs.Stored.{IsBlank}
use Rattle.log_traffic.specs.Whole.{AnyWhole, whole, rebuilt, position_in, rejoined}
use Rattle.policy_core.specs.declared.verdict.Verdict.{Verdict}
use Rattle.stream_registry.specs.declared.row.Origin.{Origin}
use Rattle.stream_registry.specs.declared.row.Origin.TheVariants.{Published, Remote}
use Rattle.stream_registry.specs.declared.row.LogRow.{LogRow}
use Rattle.term_log.specs.Log.{greatest_message}
use Rattle.term_log.specs.Whole.{Whole, fresh, is_connected, rejoined as term_rejoined}

-- ---- logs without frames

no_frame : (w : Whole) → w.frames ≡ [] → w.sender.position ≡ w.ident.start → HasNoFrame w
no_frame w frames sender = record { frames = frames; sender = sender; zeros = λ held stands. blank_held w held frames stands }

no_entry : (r : Rebuilt) → r.frames ≡ [] → HasNoEntry r
unfolding IsBlank
no_entry r none = record {
  frames = none;
  zeros = λ len bytes blank at. (subst (λ fs. IsBlank len fs bytes) none blank) at refl;
}

begins_empty : (settings : Settings) (now : ℕ) (log : LogRow) (origin : Origin) → IsEmpty (begins_by settings now log origin)
begins_empty settings now log (Published exclusive since) = no_frame (fresh (ident_of settings log)) refl refl
begins_empty settings now log (Remote address initial_term join) = no_entry _ refl

rejoined_empty : (numbers : List ℕ) (w : AnyWhole) → IsEmpty w → IsEmpty (rejoined numbers w)
unfolding term_rejoined settled
rejoined_empty numbers (whole w) empty = no_frame _ empty.frames empty.sender
rejoined_empty numbers (rebuilt r) empty = no_entry _ (ap (filter _) empty.frames)

-- ---- logs that were there, and those that are new

-- where it is of a number that no log had, it is empty
abbrev NewIf : RunEnd → WholeLog → Type 0
NewIf e log = log_at e.logs log.source ≡ None → IsEmpty log.whole

new_kept : (e : RunEnd) → IsKept (NewIf e)
new_kept e = record {
  begins = λ settings now log none. begins_empty settings now log log.origin;
  rejoins = λ pairs log new none. rejoined_empty (readers_of pairs log.source) log.whole (new none);
}

not_none : (log : WholeLog) (o : Option WholeLog) → o ≡ Some log → o ≡ None → ⊥
not_none log o some none = let never : None ≡ Some log = sym none ∙ some in absurd (cc never)

found_known : (e : RunEnd) (source : ℕ) (log new : WholeLog) → log_at e.logs source ≡ Some log → new.source ≡ source → NewIf e new
found_known e source log new found same =
    λ none.
    absurd (not_none log (log_at e.logs source) found (subst (λ (n : ℕ). log_at e.logs n ≡ None) same none))

first_here : (n : ℕ) (first : WholeLog) (logs : List WholeLog) → first.source ≡ n → log_at (first ∷ logs) n ≡ Some first
first_here n first logs same = rw (eq-eqb first.source n same) refl

later_none : (b : Bool) (first : WholeLog) (found : Option WholeLog) → cond b (Some first) found ≡ None → found ≡ None
later_none true first found is = absurd (cc is)
later_none false first found is = is

-- none of those that are there is new
known_in : (all logs : List WholeLog) → ((n : ℕ) → log_at all n ≡ None → log_at logs n ≡ None) →
    All (λ log. log_at all log.source ≡ None → IsEmpty log.whole) logs
known_in all [] less = All-nil (λ (log : WholeLog). log_at all log.source ≡ None → IsEmpty log.whole)
known_in all (first ∷ logs) less =
    All-cons (λ (log : WholeLog). log_at all log.source ≡ None → IsEmpty log.whole) first logs
    (λ none. absurd (not_none first (log_at (first ∷ logs) first.source) (first_here first.source first logs refl) (less first.source none)))
    (known_in all logs (λ n none. later_none (first.source == n) first (log_at logs n) (less n none)))

all_known : (e : RunEnd) → All (NewIf e) e.logs
all_known e = known_in e.logs e.logs (λ n none. none)

-- a move leaves the log's number
moved_known : (e : RunEnd) (source : ℕ) (move : WholeLog → Move) (absent : Answer) → ((log : WholeLog) → (move log).after.source ≡ log.source) →
    All (NewIf e) (on_log e source move absent).after.logs
moved_known e source move absent same =
    log_keeps (NewIf e) e source move absent
    (λ log found there. found_known e source log (move log).after found (same log ∙ there.source_is)) (all_known e)

-- ---- moves

offer_to_source : (now timeout : ℕ) (verdict : Verdict) (message : List ℕ) (log : WholeLog) (w : AnyWhole) →
    (offer_to now timeout verdict message log w).after.source ≡ log.source
offer_to_source now timeout verdict message log (whole w) =
    let P : Move → Type 0 = λ move. move.after.source ≡ log.source in
    cond_both (not verdict.allow) _ _ P (λ _. refl)
    (λ _. cond_both (nat_lt (greatest_message w.ident) (length message)) _ _ P (λ _. refl)
    (λ _. cond_both (not (is_connected w now timeout)) _ _ P (λ _. refl) (λ _. refl)))
offer_to_source now timeout verdict message log (rebuilt r) = refl

offer_under_source : (s : State) (now : ℕ) (message : List ℕ) (log : WholeLog) (o : Option LogRequest) →
    (offer_under s.settings.connection_timeout o now message log).after.source ≡ log.source
offer_under_source s now message log None = refl
offer_under_source s now message log (Some request) =
    cond_both (not (request.source == log.source)) _ _ (λ (move : Move). move.after.source ≡ log.source) (λ _. refl)
    (λ _. offer_to_source now s.settings.connection_timeout request.decision.verdict message log log.whole)

offer_known : (s : State) (e : RunEnd) (now client registration : ℕ) (message : List ℕ) (o : Option LogRequest) →
    All (NewIf e) (on_offered s e now client registration message o).after.logs
unfolding offer_move
offer_known s e now client registration message None = all_known e
offer_known s e now client registration message (Some request) =
    moved_known e request.source (offer_move s now client registration message) (OfferedAs Closed)
    (λ log. offer_under_source s now message log (offering_of s client registration))

poll_under_source : (subscription limit : ℕ) (log : WholeLog) (o : Option LogRequest) (at : Option ℕ) →
    (poll_under subscription limit log o at).after.source ≡ log.source
poll_under_source subscription limit log None at = refl
poll_under_source subscription limit log (Some request) None = refl
poll_under_source subscription limit log (Some request) (Some at) =
    cond_both (not request.decision.verdict.allow) _ _ (λ (move : Move). move.after.source ≡ log.source) (λ _. refl) (λ _. refl)

poll_known : (s : State) (e : RunEnd) (client subscription source limit : ℕ) →
    All (NewIf e) (on_log e source (poll_move s client subscription limit) IsGone).after.logs
unfolding poll_move
poll_known s e client subscription source limit =
    moved_known e source (poll_move s client subscription limit) IsGone
    (λ log.
    poll_under_source subscription limit log (receiving_of s client subscription log.source) (position_in log.whole subscription))

step_known : (s : State) (e : RunEnd) (step : Step) → All (NewIf e) (moved_by s e step).after.logs
step_known s e (Conductor event) = event_keeps (NewIf e) e event (new_kept e) (all_known e)
step_known s e (Packet now local from bytes) =
    packet_cases (λ what. All (NewIf e) what.after.logs) s e now local from (record {
      drops = λ cause. all_known e;
      receives = λ source sent. moved_known e source (receive_move now sent) unheard (λ log. refl);
      hears = λ source place. moved_known e source (beat_move now place) unheard (λ log. refl);
      asks = λ source move quiet. moved_known e source move unheard (λ log. (quiet log).source);
      sets_up = λ fields. event_keeps (NewIf e) e (SetUp now local from fields) (new_kept e) (all_known e);
    }) (packet_of bytes)
step_known s e (Offers now client registration message) = offer_known s e now client registration message (offering_of s client registration)
step_known s e (Polls now client subscription source limit) = poll_known s e client subscription source limit
step_known s e (Send now source) = moved_known e source (send_move s now) IsGone (λ log. (send_quiet s now log).source)
step_known s e (Image now source) =
    report_cases (λ what. All (NewIf e) what.after.logs) s e now source (all_known e)
    (λ move quiet. moved_known e source move IsGone (λ log. (quiet log).source)) (publisher_of s source)
step_known s e (Lists now client) = all_known e
step_known s e (Value now client number) = all_known e

-- ---- the law

opens_empty : (s : State) (e : RunEnd) → OpensEmptyLogs s e
opens_empty s e = record {
  opens = λ step source log none found.
      (let there = found_log (NewIf e) source log (moved_by s e step).after.logs (step_known s e step) found in
      there.holds (subst (λ (n : ℕ). log_at e.logs n ≡ None) (sym there.source_is) none));
}

opened_by_any : AtEachRegistry OpensEmptyLogs
opened_by_any settings policy peers readings answers k sound are = opens_empty _ _

pub new_logs_empty : NewLogsAreEmpty
new_logs_empty = record { of_drivers = opened_by_any; of_worlds = of_worlds OpensEmptyLogs opened_by_any }
