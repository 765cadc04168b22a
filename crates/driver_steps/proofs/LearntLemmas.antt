-- What a step leaves of the addresses that a log has learnt.
use Rattle.std.proofs.Common.{◌≡◌, ◌⊎◌, inl, inr, ℕ, ◌==◌, not, nat_lt, Bool, true, false, cond, List, [], ◌∷◌, ◌++◌, length, filter, map, Option, Some, None, Result, Ok, Err, refl, sym, ap, subst, ◌∙◌}
use Rattle.std.specs.List.{All}
use Rattle.std.proofs.lemmas.Bool.{cond_both, eqb-true, not-false}
use Rattle.std.proofs.lemmas.List.Elements.{All-nil, All-cons, All-filter, All-map}
use Rattle.channel_uri.specs.declared.address.Address.{Address}
use Rattle.driver_core.specs.Change.{Change}
use Rattle.driver_core.specs.declared.state.event.Event.{Event}
use Rattle.driver_core.specs.declared.state.event.Event.TheVariants.{Setup as SetUp}
use Rattle.driver_core.specs.declared.asked.image_request.Astray.{Astray}
use Rattle.driver_core.specs.declared.asked.log_request.LogRequest.{LogRequest}
use Rattle.driver_core.specs.Conduct.{conduct}
use Rattle.driver_core.specs.LogRequests.{offering_of, receiving_of}
use Rattle.driver_core.specs.Pairs.{pairs_of}
use Rattle.driver_core.specs.PublicationRequests.{join_decision, joined_as, joined_by, joining_of, publication_at, publisher_of, resending_of}
use Rattle.driver_core.specs.Renewal.{source_at}
use Rattle.driver_core.specs.SendRequests.{sending_of}
use Rattle.driver_core.specs.State.{State}
use Rattle.log_steps.specs.declared.answer.Answer.{Answer}
use Rattle.log_steps.specs.declared.answer.Answer.TheVariants.{Dropped, Gone as IsGone, Offered as OfferedAs}
use Rattle.log_steps.specs.declared.answer.Offered.TheVariants.{Closed}
use Rattle.log_steps.specs.declared.cause.Cause.TheVariants.{Denied}
use Rattle.driver_steps.specs.declared.step.Step.{Step}
use Rattle.driver_steps.specs.declared.step.Step.TheVariants.{Conductor, Packet, Offer as Offers, Poll as Polls, Image, List as Lists, Send, Value}
use Rattle.driver_steps.specs.Ends.{begun, conducted, image_by, inputs_of, log_at, logs_after, Moved, moved_by, moved_on, on_asked, on_image, on_log, on_offered, on_packet, on_report, on_told, opened_for, rejoined_log, RunEnd, stays_open, with_log}
use Rattle.log_steps.specs.Hearing.{learn_move, nak_move, status_move, with_learnt}
use Rattle.driver_steps.specs.OpenLogs.{is_closed}
use Rattle.driver_steps.specs.JoinLaws.{ChangesBy, ChangesByPacket, ChangesByStatus, LearntStays}
use Rattle.log_steps.specs.Moves.{Move, WholeLog, answered, offer_move, offer_to, offer_under, poll_move, poll_under}
use Rattle.log_steps.specs.Receiving.{beat_move, receive_move, unheard}
use Rattle.log_steps.specs.Reporting.{report_move}
use Rattle.driver_steps.specs.Runs.{Reading, left_by, moved_to, read_by}
use Rattle.log_steps.specs.Sending.{send_by, send_move}
use Rattle.driver_steps.proofs.EndLemmas.{after_both}
use Rattle.driver_steps.proofs.FoundLemmas.{found_holds, found_source}
use Rattle.driver_steps.proofs.QuietLemmas.{send_quiet, status_quiet}
use Rattle.frame_codec.specs.declared.fault.BadPacket.{BadPacket}
use Rattle.frame_codec.specs.declared.nak.Nak.{Nak}
use Rattle.frame_codec.specs.declared.status_message.StatusMessage.{StatusMessage}
use Rattle.frame_codec.specs.Datagram.{Content, frames, beat, nak, status, setup, packet_of}
use Rattle.learnt_addresses.specs.declared.learning.Learning.{Learning}
use Rattle.learnt_addresses.specs.declared.learning.Learning.TheVariants.{Full, Learnt, Renewed}
use Rattle.learnt_addresses.specs.declared.learnt_address.LearntAddress.{LearntAddress}
use Rattle.learnt_addresses.specs.LearntAddresses.{forgotten, learning, learnt, none}
use Rattle.log_traffic.specs.Whole.{AnyWhole, whole, rebuilt, position_in}
use Rattle.policy_core.specs.declared.verdict.Verdict.{Verdict}
use Rattle.stream_registry.specs.declared.lingering.LogPlace.{LogPlace}
use Rattle.stream_registry.specs.declared.pairs.Pair.{Pair}
use Rattle.stream_registry.specs.declared.row.LogRow.{LogRow}
use Rattle.stream_registry.specs.Places.{is_dynamic}
use Rattle.term_log.specs.Log.{greatest_message}
use Rattle.term_log.specs.Whole.{is_connected}

-- ---- a log before and after

abbrev Changes : Type 1
Changes = WholeLog → WholeLog → Type 0

-- a log that was not open has learnt none
abbrev IsBlank : WholeLog → Type 0
IsBlank log = log.recovery.learnt ≡ none

-- what learnt the same is changed so
abbrev AllowsNone : Changes → Type 0
AllowsNone R = (log after : WholeLog) → after.recovery.learnt ≡ log.recovery.learnt → R log after

abbrev IsLeft : Changes → Option WholeLog → Option WholeLog → Type 0
IsLeft R old None = Unit {0}
IsLeft R None (Some after) = IsBlank after
IsLeft R (Some log) (Some after) = R log after

left_itself : (R : Changes) → AllowsNone R → (o : Option WholeLog) → IsLeft R o o
left_itself R same None = tt
left_itself R same (Some log) = same log log refl

-- the first of the logs is another now, or the later ones are
left_either : (R : Changes) (first after : WholeLog) (o p : Option WholeLog) (b : Bool) → R first after → IsLeft R o p →
    IsLeft R (cond b (Some first) o) (cond b (Some after) p)
left_either R first after o p true this rest = this
left_either R first after o p false this rest = rest

-- ---- one log moves

record IsNext (R : Changes) (log after : WholeLog) : Type 0 where
  source_is : after.source ≡ log.source
  changes : R log after

with_left_by : (R : Changes) → AllowsNone R → (source number : ℕ) (first new : WholeLog) (logs : List WholeLog) (b : Bool) →
    ((log : WholeLog) → cond b (Some first) (log_at logs source) ≡ Some log → IsNext R log new) →
    (((log : WholeLog) → log_at logs source ≡ Some log → IsNext R log new) →
    IsLeft R (log_at logs number) (log_at (with_log logs source new) number)) →
    IsLeft R (cond (first.source == number) (Some first) (log_at logs number))
    (log_at (cond b (new ∷ logs) (first ∷ with_log logs source new)) number)
with_left_by R same source number first new logs true next rest =
    let there : IsNext R first new = next first refl in
    subst (λ (n : ℕ). IsLeft R (cond (first.source == number) (Some first) (log_at logs number))
    (cond (n == number) (Some new) (log_at logs number))) (sym there.source_is)
    (left_either R first new _ _ (first.source == number) there.changes (left_itself R same (log_at logs number)))
with_left_by R same source number first new logs false next rest =
    left_either R first first _ _ (first.source == number) (same first first refl) (rest next)

with_left : (R : Changes) → AllowsNone R → (source number : ℕ) (new : WholeLog) (logs : List WholeLog) →
    ((log : WholeLog) → log_at logs source ≡ Some log → IsNext R log new) →
    IsLeft R (log_at logs number) (log_at (with_log logs source new) number)
with_left R same source number new [] next = tt
with_left R same source number new (first ∷ logs) next =
    with_left_by R same source number first new logs (first.source == source) next
    (with_left R same source number new logs)

-- what is left of the logs by such a step
abbrev Leaves : Changes → RunEnd → Moved → ℕ → Type 0
Leaves R e what number = IsLeft R (log_at e.logs number) (log_at what.after.logs number)

moved_leaves : (R : Changes) → AllowsNone R → (e : RunEnd) (source : ℕ) (move : WholeLog → Move) (absent : Answer) (number : ℕ) →
    (o : Option WholeLog) → log_at e.logs source ≡ o →
    ((log : WholeLog) → log_at e.logs source ≡ Some log → IsNext R log (move log).after) →
    Leaves R e (moved_on e source move absent o) number
moved_leaves R same e source move absent number None found next = left_itself R same (log_at e.logs number)
moved_leaves R same e source move absent number (Some log) found next =
    with_left R same source number (move log).after e.logs
    (λ other there.
    let is : Some log ≡ Some other = sym found ∙ there in
    let it : log ≡ other = cc in
    subst (λ (l : WholeLog). IsNext R l (move log).after) it (next log found))

log_leaves : (R : Changes) → AllowsNone R → (e : RunEnd) (source : ℕ) (move : WholeLog → Move) (absent : Answer) (number : ℕ) →
    ((log : WholeLog) → log_at e.logs source ≡ Some log → IsNext R log (move log).after) →
    Leaves R e (on_log e source move absent) number
unfolding on_log
log_leaves R same e source move absent number next =
    moved_leaves R same e source move absent number (log_at e.logs source) refl next

-- ---- an event

none_left : (R : Changes) (o : Option WholeLog) → ((log : WholeLog) → o ≡ Some log → IsBlank log) → IsLeft R None o
none_left R None blank = tt
none_left R (Some log) blank = blank log refl

begun_blank : (s : State) (o : Option LogRow) → All IsBlank (begun s o)
begun_blank s None = All-nil IsBlank
begun_blank s (Some log) = All-cons IsBlank _ [] refl (All-nil IsBlank)

opened_blank : (s : State) (o : Option LogPlace) → All IsBlank (opened_for s o)
opened_blank s None = All-nil IsBlank
opened_blank s (Some place) = begun_blank s (source_at s.streams.sources place.source)

abbrev kept_logs : List LogPlace → List Pair → List WholeLog → List WholeLog
kept_logs closes pairs logs = map (rejoined_log pairs) (filter (stays_open closes) logs)

-- a log that is closed is not open any more
gone_by : (closes : List LogPlace) (pairs : List Pair) (number : ℕ) (first : WholeLog) (logs : List WholeLog) (b c : Bool) →
    not (is_closed closes first.source) ≡ b → (first.source == number) ≡ c → is_closed closes number ≡ true →
    log_at (kept_logs closes pairs logs) number ≡ None →
    log_at (map (rejoined_log pairs) (cond b (first ∷ filter (stays_open closes) logs) (filter (stays_open closes) logs))) number ≡ None
gone_by closes pairs number first logs false c stays is closed rest = rest
gone_by closes pairs number first logs true false stays is closed rest =
    ap (λ (b : Bool). cond b (Some (rejoined_log pairs first)) (log_at (kept_logs closes pairs logs) number)) is ∙ rest
gone_by closes pairs number first logs true true stays is closed rest =
    let wrong : true ≡ false =
    sym stays ∙ ap (λ (n : ℕ). not (is_closed closes n)) (eqb-true first.source number is) ∙ ap not closed in
    absurd (cc wrong)

closed_gone : (closes : List LogPlace) (pairs : List Pair) (number : ℕ) → is_closed closes number ≡ true → (logs : List WholeLog) →
    log_at (kept_logs closes pairs logs) number ≡ None
closed_gone closes pairs number closed [] = refl
closed_gone closes pairs number closed (first ∷ logs) =
    gone_by closes pairs number first logs (stays_open closes first) (first.source == number) refl refl closed
    (closed_gone closes pairs number closed logs)

-- whether the event closes the first log, and whether that is the one
kept_left_by : (R : Changes) → AllowsNone R → (closes : List LogPlace) (pairs : List Pair) (number : ℕ) (first : WholeLog) (logs later : List WholeLog)
    (b c : Bool) → not (is_closed closes first.source) ≡ b → (first.source == number) ≡ c →
    IsLeft R (log_at logs number) (log_at (kept_logs closes pairs later) number) →
    IsLeft R (cond c (Some first) (log_at logs number))
    (log_at (map (rejoined_log pairs) (cond b (first ∷ filter (stays_open closes) later) (filter (stays_open closes) later))) number)
kept_left_by R same closes pairs number first logs later false false stays is rest = rest
kept_left_by R same closes pairs number first logs later false true stays is rest =
    let closed : is_closed closes number ≡ true =
    ap (is_closed closes) (sym (eqb-true first.source number is)) ∙ not-false (is_closed closes first.source) stays in
    subst (IsLeft R (Some first)) (sym (closed_gone closes pairs number closed later)) tt
kept_left_by R same closes pairs number first logs later true c stays is rest =
    subst (λ (d : Bool). IsLeft R (cond c (Some first) (log_at logs number))
    (cond d (Some (rejoined_log pairs first)) (log_at (kept_logs closes pairs later) number))) (sym is)
    (left_either R first (rejoined_log pairs first) _ _ c (same first (rejoined_log pairs first) refl) rest)

kept_left : (R : Changes) → AllowsNone R → (closes : List LogPlace) (pairs : List Pair) (number : ℕ) (opened : List WholeLog) → All IsBlank opened →
    (logs : List WholeLog) → IsLeft R (log_at logs number) (log_at (kept_logs closes pairs (logs ++ opened)) number)
kept_left R same closes pairs number opened blank [] =
    let left = All-filter (stays_open closes) IsBlank opened blank in
    let after : All IsBlank (kept_logs closes pairs opened) =
    All-map IsBlank (rejoined_log pairs) (filter (stays_open closes) opened) left in
    none_left R (log_at (kept_logs closes pairs opened) number)
    (λ log found. found_holds IsBlank number log (kept_logs closes pairs opened) after found)
kept_left R same closes pairs number opened blank (first ∷ logs) =
    kept_left_by R same closes pairs number first logs (logs ++ opened) (stays_open closes first) (first.source == number) refl refl
    (kept_left R same closes pairs number opened blank logs)

after_left : (R : Changes) → AllowsNone R → (change : Change) (logs : List WholeLog) (number : ℕ) →
    IsLeft R (log_at logs number) (log_at (logs_after change logs) number)
unfolding logs_after
after_left R same change logs number =
    kept_left R same change.outcome.closes (pairs_of change.after) number (opened_for change.after change.outcome.opens)
    (opened_blank change.after change.outcome.opens) logs

event_leaves : (R : Changes) → AllowsNone R → (e : RunEnd) (event : Event) (number : ℕ) → Leaves R e (conducted e event) number
unfolding conducted
event_leaves R same e event number =
    after_left R same (conduct e.registry event (inputs_of e.registry event e.logs)) e.logs number

-- ---- steps that change nothing of it

-- the same is learnt
record IsUnlearnt (log after : WholeLog) : Type 0 where
  source_is : after.source ≡ log.source
  learnt_is : after.recovery.learnt ≡ log.recovery.learnt

unlearnt : (log : WholeLog) → IsUnlearnt log log
unlearnt log = record { source_is = refl; learnt_is = refl }

unlearnt_leaves : (R : Changes) → AllowsNone R → (e : RunEnd) (source : ℕ) (move : WholeLog → Move) (absent : Answer) (number : ℕ) →
    ((log : WholeLog) → IsUnlearnt log (move log).after) → Leaves R e (on_log e source move absent) number
unlearnt_leaves R same e source move absent number keeps =
    log_leaves R same e source move absent number
    (λ log found. record { source_is = (keeps log).source_is; changes = same log (move log).after (keeps log).learnt_is })

image_leaves : (R : Changes) → AllowsNone R → (e : RunEnd) (move : WholeLog → Move) (found : Result ℕ Astray) (number : ℕ) →
    ((log : WholeLog) → IsUnlearnt log (move log).after) → Leaves R e (on_image e move found) number
image_leaves R same e move (Err why) number keeps = left_itself R same (log_at e.logs number)
image_leaves R same e move (Ok source) number keeps = unlearnt_leaves R same e source move unheard number keeps

asked_leaves : (R : Changes) → AllowsNone R → (e : RunEnd) (now : ℕ) (from : Address) (fields : Nak) (request : Option LogRequest) (number : ℕ) →
    Leaves R e (on_asked e now from fields request) number
asked_leaves R same e now from fields None number = left_itself R same (log_at e.logs number)
asked_leaves R same e now from fields (Some request) number =
    unlearnt_leaves R same e request.source (nak_move now from request.decision fields) unheard number
    (λ log. record { source_is = refl; learnt_is = refl })

report_leaves : (R : Changes) → AllowsNone R → (s : State) (e : RunEnd) (now source : ℕ) (to : Option Address) (number : ℕ) →
    Leaves R e (on_report s e now source to) number
report_leaves R same s e now source None number = left_itself R same (log_at e.logs number)
report_leaves R same s e now source (Some to) number =
    unlearnt_leaves R same e source (report_move now s.settings.receiver_id to) IsGone number
    (λ log. record { source_is = refl; learnt_is = refl })

offers_unlearnt : (now timeout : ℕ) (verdict : Verdict) (message : List ℕ) (log : WholeLog) (w : AnyWhole) →
    IsUnlearnt log (offer_to now timeout verdict message log w).after
offers_unlearnt now timeout verdict message log (rebuilt r) = unlearnt log
offers_unlearnt now timeout verdict message log (whole w) =
    let P : Move → Type 0 = λ move. IsUnlearnt log move.after in
    cond_both (not verdict.allow) _ _ P (λ _. unlearnt log)
    (λ _. cond_both (nat_lt (greatest_message w.ident) (length message)) _ _ P (λ _. unlearnt log)
    (λ _. cond_both (not (is_connected w now timeout)) _ _ P (λ _. unlearnt log)
    (λ _. record { source_is = refl; learnt_is = refl })))

offer_unlearnt : (s : State) (now : ℕ) (message : List ℕ) (log : WholeLog) (o : Option LogRequest) →
    IsUnlearnt log (offer_under s.settings.connection_timeout o now message log).after
offer_unlearnt s now message log None = unlearnt log
offer_unlearnt s now message log (Some request) =
    cond_both (not (request.source == log.source)) _ _ (λ (move : Move). IsUnlearnt log move.after) (λ _. unlearnt log)
    (λ _. offers_unlearnt now s.settings.connection_timeout request.decision.verdict message log log.whole)

offered_leaves : (R : Changes) → AllowsNone R → (s : State) (e : RunEnd) (now client registration : ℕ) (message : List ℕ) (o : Option LogRequest)
    (number : ℕ) → Leaves R e (on_offered s e now client registration message o) number
unfolding offer_move
offered_leaves R same s e now client registration message None number = left_itself R same (log_at e.logs number)
offered_leaves R same s e now client registration message (Some request) number =
    unlearnt_leaves R same e request.source (offer_move s now client registration message) (OfferedAs Closed) number
    (λ log. offer_unlearnt s now message log (offering_of s client registration))

poll_unlearnt : (subscription limit : ℕ) (log : WholeLog) (o : Option LogRequest) (at : Option ℕ) →
    IsUnlearnt log (poll_under subscription limit log o at).after
poll_unlearnt subscription limit log None at = unlearnt log
poll_unlearnt subscription limit log (Some request) None = unlearnt log
poll_unlearnt subscription limit log (Some request) (Some at) =
    cond_both (not request.decision.verdict.allow) _ _ (λ (move : Move). IsUnlearnt log move.after) (λ _. unlearnt log)
    (λ _. record { source_is = refl; learnt_is = refl })

-- ---- a status message

learns : (now : ℕ) (from : Address) (message : StatusMessage) (log : WholeLog) (answer : Learning) → learning log.recovery.learnt from ≡ answer →
    (learn_move now from message log answer).after.recovery.learnt ≡ learnt now from log.recovery.learnt
unfolding learnt
learns now from message log Full is = rw is refl
learns now from message log Learnt is = refl
learns now from message log Renewed is = refl

-- by whether the publication learns its destinations
status_changes : (s : State) (now : ℕ) (from : Address) (fields : StatusMessage) (publication : LogRow) (log : WholeLog) (b : Bool) →
    publication_at s fields.session_id fields.stream_id ≡ Some publication → is_dynamic publication.channel ≡ b → publication.number ≡ log.source →
    let after : WholeLog = (status_move now from (cond b (Some (join_decision s from publication)) None) fields log).after in
    (after.recovery.learnt ≡ log.recovery.learnt) ⊎ ChangesByStatus s now from fields log after
status_changes s now from fields publication log false found dynamic number = inl refl
status_changes s now from fields publication log true found dynamic number =
    let verdict : Verdict = (join_decision s from publication).verdict in
    let joins : Move = learn_move now from fields log (learning log.recovery.learnt from) in
    let leaves : Move = answered (with_learnt (forgotten from log.recovery.learnt) log) (Dropped (Denied verdict)) in
    let rows : Bool → List LearntAddress = λ (allow : Bool). (cond allow joins leaves).after.recovery.learnt in
    inr (record {
      publication = publication;
      publication_is = found;
      dynamic = dynamic;
      number_is = number;
      joins = λ allows. ap rows allows ∙ learns now from fields log _ refl;
      denied = λ denies. ap rows denies;
    })

-- what a datagram may change
abbrev ByPacket : State → ℕ → Address → Result Content BadPacket → Changes
ByPacket s now from read log after = (after.recovery.learnt ≡ log.recovery.learnt) ⊎ ChangesByPacket s now from read log after

packet_allows : (s : State) (now : ℕ) (from : Address) (read : Result Content BadPacket) → AllowsNone (ByPacket s now from read)
packet_allows s now from read log after same = inl same

told_leaves : (s : State) (e : RunEnd) (now : ℕ) (from : Address) (fields : StatusMessage) (o : Option LogRow) (number : ℕ) →
    publication_at s fields.session_id fields.stream_id ≡ o →
    Leaves (ByPacket s now from (Ok (status fields))) e (on_told e now from fields (joined_by s from o)) number
told_leaves s e now from fields None number found =
    left_itself (ByPacket s now from (Ok (status fields))) (packet_allows s now from (Ok (status fields))) (log_at e.logs number)
told_leaves s e now from fields (Some publication) number found =
    log_leaves (ByPacket s now from (Ok (status fields))) (packet_allows s now from (Ok (status fields))) e publication.number
    (status_move now from (joined_as s from publication) fields) unheard number
    (λ log there. record {
      source_is = (status_quiet now from (joined_as s from publication) fields log).source;
      changes = status_changes s now from fields publication log (is_dynamic publication.channel) found refl
          (sym (found_source publication.number log e.logs there));
    })

-- ---- a datagram

packet_leaves : (s : State) (e : RunEnd) (now : ℕ) (local from : Address) (read : Result Content BadPacket) (number : ℕ) →
    Leaves (ByPacket s now from read) e (on_packet s e now local from read) number
unfolding joining_of
packet_leaves s e now local from (Err fault) number =
    left_itself (ByPacket s now from (Err fault)) (packet_allows s now from (Err fault)) (log_at e.logs number)
packet_leaves s e now local from (Ok (frames [])) number =
    left_itself (ByPacket s now from (Ok (frames []))) (packet_allows s now from (Ok (frames []))) (log_at e.logs number)
packet_leaves s e now local from (Ok (frames (frame ∷ later))) number =
    image_leaves (ByPacket s now from (Ok (frames (frame ∷ later)))) (packet_allows s now from (Ok (frames (frame ∷ later)))) e
    (receive_move now (frame ∷ later)) (image_by s e local from frame.header.place) number
    (λ log. record { source_is = refl; learnt_is = refl })
packet_leaves s e now local from (Ok (beat header)) number =
    image_leaves (ByPacket s now from (Ok (beat header))) (packet_allows s now from (Ok (beat header))) e
    (beat_move now header.place) (image_by s e local from header.place) number
    (λ log. record { source_is = refl; learnt_is = refl })
packet_leaves s e now local from (Ok (setup fields)) number =
    event_leaves (ByPacket s now from (Ok (setup fields))) (packet_allows s now from (Ok (setup fields))) e (SetUp now local from fields) number
packet_leaves s e now local from (Ok (nak fields)) number =
    asked_leaves (ByPacket s now from (Ok (nak fields))) (packet_allows s now from (Ok (nak fields))) e now from fields
    (resending_of s from fields.session_id fields.stream_id) number
packet_leaves s e now local from (Ok (status fields)) number =
    told_leaves s e now from fields (publication_at s fields.session_id fields.stream_id) number refl

-- ---- any step

abbrev ByStep : State → Step → Changes
ByStep s step log after = (after.recovery.learnt ≡ log.recovery.learnt) ⊎ ChangesBy s step log after

step_allows : (s : State) (step : Step) → AllowsNone (ByStep s step)
step_allows s step log after same = inl same

send_changes : (s : State) (now source : ℕ) (log : WholeLog) (lingers : Option Bool) → source ≡ log.source →
    ByStep s (Send now source) log (send_by s now log lingers).after
send_changes s now source log None is = inl refl
send_changes s now source log (Some lingers) is = inr (is, refl)

step_leaves : (s : State) (e : RunEnd) (step : Step) (number : ℕ) → Leaves (ByStep s step) e (moved_by s e step) number
unfolding poll_move send_move
step_leaves s e (Conductor event) number = event_leaves (ByStep s (Conductor event)) (step_allows s (Conductor event)) e event number
step_leaves s e (Packet now local from bytes) number = packet_leaves s e now local from (packet_of bytes) number
step_leaves s e (Offers now client registration message) number =
    offered_leaves (ByStep s (Offers now client registration message)) (step_allows s (Offers now client registration message))
    s e now client registration message (offering_of s client registration) number
step_leaves s e (Polls now client subscription source limit) number =
    unlearnt_leaves (ByStep s (Polls now client subscription source limit)) (step_allows s (Polls now client subscription source limit))
    e source (poll_move s client subscription limit) IsGone number
    (λ log. poll_unlearnt subscription limit log (receiving_of s client subscription log.source) (position_in log.whole subscription))
step_leaves s e (Send now source) number =
    log_leaves (ByStep s (Send now source)) (step_allows s (Send now source)) e source (send_move s now) IsGone number
    (λ log found. record {
      source_is = (send_quiet s now log).source;
      changes = send_changes s now source log (sending_of s log.source) (sym (found_source source log e.logs found));
    })
step_leaves s e (Image now source) number =
    report_leaves (ByStep s (Image now source)) (step_allows s (Image now source)) s e now source (publisher_of s source) number
step_leaves s e (Lists now client) number = left_itself (ByStep s (Lists now client)) (step_allows s (Lists now client)) (log_at e.logs number)
step_leaves s e (Value now client value) number =
    left_itself (ByStep s (Value now client value)) (step_allows s (Value now client value)) (log_at e.logs number)

-- refused memory or not, by the registry that its actor looks at
reading_leaves : (e : RunEnd) (reading : Reading) (answer : Answer) (number : ℕ) →
    IsLeft (ByStep (read_by e reading.older) reading.step) (log_at e.logs number) (log_at (left_by e reading answer).logs number)
reading_leaves e reading answer number =
    let R : Changes = ByStep (read_by e reading.older) reading.step in
    after_both (λ (next : RunEnd). IsLeft R (log_at e.logs number) (log_at next.logs number)) e (moved_to e reading) answer
    (left_itself R (step_allows (read_by e reading.older) reading.step) (log_at e.logs number))
    (step_leaves (read_by e reading.older) e reading.step number)

both_left : (R : Changes) (o p : Option WholeLog) (after : WholeLog) (q : Option WholeLog) → o ≡ q → p ≡ Some after → IsLeft R o p →
    IsLeft R q (Some after)
both_left R o p after q before behind left =
    subst (λ (x : Option WholeLog). IsLeft R x (Some after)) before (subst (IsLeft R o) behind left)

pub learnt_stays : (e : RunEnd) → LearntStays e
learnt_stays e = record {
  stays = λ reading answer number log after before behind.
      both_left (ByStep (read_by e reading.older) reading.step) _ _ after (Some log) before behind (reading_leaves e reading answer number);
  begins = λ reading answer number after before behind.
      both_left (ByStep (read_by e reading.older) reading.step) _ _ after None before behind (reading_leaves e reading answer number);
}
