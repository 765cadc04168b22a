-- NAKs by any registry of a run.
use Rattle.std.proofs.Common.{◌≡◌, ℕ, ℤ, ◌<◌, ◌==◌, true, false, List, [], ◌∷◌, take, Contains, Option, Some, None, Result, Ok, Err, ⊎_elim, refl, sym, ap, subst, ◌∙◌, arith}
use Rattle.std.proofs.lemmas.Bool.{and_parts, eqb-true}
use Rattle.log_traffic.specs.declared.asking.NakReply.{NakReply}
use Rattle.log_traffic.specs.declared.asking.NakReply.TheVariants as replies
use Rattle.log_traffic.specs.Asking.{gate_behind, nak_reply, reply_by}
use Rattle.log_traffic.specs.Whole.{AnyWhole, whole, made_for as made_any}
use Rattle.channel_uri.specs.declared.address.Address.{Address}
use Rattle.driver_core.specs.declared.state.event.Event.{Event}
use Rattle.driver_core.specs.declared.state.event.Event.TheVariants.{Setup as SetUp}
use Rattle.driver_core.specs.declared.state.event.Inputs.{Inputs}
use Rattle.driver_core.specs.declared.asked.image_request.Astray.{Astray as Astray'}
use Rattle.driver_core.specs.declared.state.outcome.Outcome.{Outcome}
use Rattle.driver_core.specs.declared.state.outcome.Response.{Response}
use Rattle.driver_core.specs.declared.state.outcome.Response.TheVariants as response
use Rattle.driver_core.specs.declared.state.replies.Message.{Message}
use Rattle.driver_core.specs.declared.state.settings.Settings.{Settings}
use Rattle.driver_core.specs.Conduct.{conduct}
use Rattle.driver_core.specs.PublicationRequests.{is_sent_as, joining_of, publication_at, resend_decision, resending_of, resent_by}
use Rattle.driver_core.specs.State.{State}
use Rattle.driver_core.proofs.VerdictLemmas.{by_policy}
use Rattle.driver_laws.specs.NumberLaws.{AreRising, ComesAbove}
use Rattle.driver_laws.specs.OlderLaws.{NakIsDecidedBy, NaksAreDecidedBy, NaksByAnyRegistryAreGrantedExactly, registry_in}
use Rattle.driver_laws.specs.PublishingLaws.{WasLive}
use Rattle.driver_laws.proofs.LoggedLemmas.{found_in}
use Rattle.driver_laws.proofs.NumberLemmas.{are_drawn, numbers_rise}
use Rattle.driver_laws.proofs.OlderLemmas.{above_of, row_of, same_published}
use Rattle.driver_laws.proofs.RisingLemmas.{rises_unique}
use Rattle.log_steps.specs.declared.answer.Answer.{Answer}
use Rattle.log_steps.specs.declared.answer.Answer.TheVariants.{Dropped, Resent}
use Rattle.log_steps.specs.declared.cause.Cause.TheVariants.{Denied}
use Rattle.driver_steps.specs.declared.step.Step.TheVariants.{Packet}
use Rattle.log_steps.specs.Answers.{answered_by, answer_of}
use Rattle.driver_steps.specs.Ends.{conducted, image_by, inputs_of, log_at, moved_by, moved_on, on_asked, on_image, on_log, on_packet, on_told, opening_end, RunEnd}
use Rattle.driver_core.specs.declared.asked.publication_request.JoinRequest.{JoinRequest}
use Rattle.log_steps.proofs.HearingLemmas.{status_told}
use Rattle.log_steps.specs.Hearing.{answer_asked, answer_heard, nak_move, status_move}
use Rattle.log_steps.specs.Idents.{made_of}
use Rattle.driver_steps.specs.Laws.{LogsFollow, stays, taken_from}
use Rattle.log_steps.specs.Moves.{Move, WholeLog, answered}
use Rattle.log_steps.specs.Receiving.{beat_move, receive_move, unheard}
use Rattle.driver_steps.specs.ResendLaws.{resend_question}
use Rattle.driver_steps.specs.Runs.{end_of}
use Rattle.driver_steps.proofs.DecisionLemmas.{IsAppended, IsForPublication, appended_for, left_by, log_moves, made_at, published_made, stays_left}
use Rattle.driver_steps.proofs.FollowLemmas.{logs_follow}
use Rattle.driver_steps.proofs.FoundLemmas.{found_source}
use Rattle.frame_codec.specs.declared.fault.BadPacket.{BadPacket}
use Rattle.frame_codec.specs.declared.nak.Nak.{Nak}
use Rattle.frame_codec.specs.declared.status_message.StatusMessage.{StatusMessage}
use Rattle.frame_codec.specs.Datagram.{Content, frames, beat, nak, status, setup, packet_of}
use Rattle.policy_core.specs.declared.decision.Decision.{Decision}
use Rattle.log_traffic.specs.declared.hearing.StatusAnswer.{StatusAnswer}
use Rattle.log_traffic.specs.declared.hearing.StatusAnswer.TheVariants as heard
use Rattle.log_traffic.specs.Resending.{asking_in, gate_after}
use Rattle.retransmit_gate.specs.declared.answer.Answer.{Answer as Word}
use Rattle.retransmit_gate.specs.declared.answer.Answer.TheVariants as words
use Rattle.retransmit_gate.specs.ResendLaws.{answer_to}
use Rattle.stream_registry.specs.declared.row.LogRow.{LogRow}
use Rattle.stream_registry.specs.Origins.{is_published}
use Rattle.term_log.specs.Whole.{Whole}

-- ---- the log of the publication

sent_published : (session stream : ℤ) (log : LogRow) → is_sent_as session stream log ≡ true → is_published log ≡ true
sent_published session stream log is =
    let first = and_parts _ _ is in
    let second = and_parts _ _ first.0 in
    let third = and_parts _ _ second.0 in
    third.0

-- whatever log has the number of a publication is that publication
still_published : (s after : State) → AreRising s → ComesAbove s after → (publication row : LogRow) →
    Contains s.streams.sources publication → is_published publication ≡ true → Contains after.streams.sources row →
    row.number ≡ publication.number → is_published row ≡ true
still_published s after rises above publication row has published stands number =
    ⊎_elim
    (λ (was : WasLive s.streams row).
    let same : was.before.number ≡ publication.number = sym (ap (λ (one : LogRow). one.number) was.same) ∙ number in
    let one : was.before ≡ publication =
    rises_unique (λ (one : LogRow). one.number) 0 s.last_number s.streams.sources was.before publication rises.sources was.stood has same in
    same_published row was.before was.same ∙ ap (λ (l : LogRow). is_published l) one ∙ published)
    (λ (new : s.last_number < row.number).
    let drawn = (are_drawn s rises).sources publication has in
    absurd (omega (arith, new, number, drawn.below)))
    (above.sources row stands)

appended_at : (s : State) (e : RunEnd) → LogsFollow e → AreRising s → ComesAbove s e.registry →
    (session stream : ℤ) (publication : LogRow) (log : WholeLog) → publication_at s session stream ≡ Some publication →
    log_at e.logs publication.number ≡ Some log → IsAppended log
appended_at s e follows rises above session stream publication log is found =
    let settings : Settings = e.registry.settings in
    let sources : List LogRow = e.registry.streams.sources in
    let n : ℕ = publication.number in
    let here = found_in (is_sent_as session stream) s.streams.sources publication is in
    let row = row_of settings e.logs sources n log follows.made found in
    let at = found_in (λ (one : LogRow). one.number == n) sources row.0 row.1 in
    let published =
    still_published s e.registry rises above publication row.0 here.stands (sent_published session stream publication here.passes) at.stands
    (eqb-true row.0.number n at.passes) in
    let made : made_any log.whole ≡ made_of settings row.0 = made_at settings e.logs sources n log row.0 follows.made found row.1 in
    appended_for log.whole (subst IsForPublication (sym made) (published_made settings row.0 row.0.origin published))

-- ---- the move

-- of a log that is this
abbrev move_on : ℕ → Address → Decision → Nak → WholeLog → AnyWhole → Move
move_on now from decision fields log w = record {
  after = record log { recovery = record log.recovery { gate = gate_behind decision now fields log.recovery.gate w } };
  answer = answer_asked from (nak_reply decision now fields log.recovery.gate w);
}

-- of one that the decision lets through
abbrev let_on : ℕ → Address → Nak → WholeLog → Whole → Move
let_on now from fields log w = record {
  after = record log { recovery = record log.recovery { gate = gate_after true log.recovery.gate (asking_in now w fields) } };
  answer = answer_asked from (Some (reply_by fields w (answer_to log.recovery.gate (asking_in now w fields))));
}

granted_move : (now : ℕ) (from : Address) (decision : Decision) (fields : Nak) (log : WholeLog) (w : Whole) →
    decision.verdict.allow ≡ true → move_on now from decision fields log (whole w) ≡ let_on now from fields log w
granted_move now from decision fields log w allows = rw allows refl

denied_move : (now : ℕ) (from : Address) (decision : Decision) (fields : Nak) (log : WholeLog) (w : Whole) →
    decision.verdict.allow ≡ false →
    move_on now from decision fields log (whole w) ≡ answered log (Dropped (Denied decision.verdict))
denied_move now from decision fields log w denies = rw denies refl

asked_is : (s : State) (e : RunEnd) (now : ℕ) (local from : Address) (bytes : List ℕ) (fields : Nak) (o : Option LogRow) →
    packet_of bytes ≡ Ok (nak fields) → publication_at s fields.session_id fields.stream_id ≡ o →
    moved_by s e (Packet now local from bytes) ≡ on_asked e now from fields (resent_by s from o)
unfolding resending_of
asked_is s e now local from bytes fields o read is =
    ap (on_packet s e now local from) read ∙ ap (λ (p : Option LogRow). on_asked e now from fields (resent_by s from p)) is

nak_there : (s : State) (e : RunEnd) → LogsFollow e → AreRising s → ComesAbove s e.registry →
    (now : ℕ) (local from : Address) (bytes : List ℕ) (fields : Nak) (publication : LogRow) (log : WholeLog) →
    packet_of bytes ≡ Ok (nak fields) → publication_at s fields.session_id fields.stream_id ≡ Some publication →
    log_at e.logs publication.number ≡ Some log →
    (frames : Whole)
    × (log.whole ≡ whole frames)
    × NakIsDecidedBy s e now from fields publication log frames (moved_by s e (Packet now local from bytes))
nak_there s e follows rises above now local from bytes fields publication log read is found =
    let decision : Decision = resend_decision s from publication in
    let n : ℕ = publication.number in
    let of = appended_at s e follows rises above fields.session_id fields.stream_id publication log is found in
    let moves : moved_by s e (Packet now local from bytes) ≡ left_by e n (move_on now from decision fields log (whole of.0)) =
    asked_is s e now local from bytes fields (Some publication) read is
    ∙ log_moves e n (nak_move now from decision fields) unheard log found
    ∙ ap (λ (w : AnyWhole). left_by e n (move_on now from decision fields log w)) of.1 in (
      of.0,
      of.1,
      record {
        by = by_policy s (resend_question s from publication);
        granted = λ allows.
            moves
            ∙ ap (left_by e n) (granted_move now from decision fields log of.0 allows)
            ∙ ap (λ (m : ℕ). left_by e m (let_on now from fields log of.0)) (sym (found_source n log e.logs found));
        denied = λ denies.
            moves
            ∙ ap (left_by e n) (denied_move now from decision fields log of.0 denies)
            ∙ stays_left e n log (Dropped (Denied decision.verdict)) found;
      },
    )

nak_closed : (s : State) (e : RunEnd) (now : ℕ) (local from : Address) (bytes : List ℕ) (fields : Nak) (publication : LogRow) →
    packet_of bytes ≡ Ok (nak fields) → publication_at s fields.session_id fields.stream_id ≡ Some publication →
    log_at e.logs publication.number ≡ None → moved_by s e (Packet now local from bytes) ≡ stays e unheard
unfolding on_log
nak_closed s e now local from bytes fields publication read is none =
    asked_is s e now local from bytes fields (Some publication) read is
    ∙ ap (moved_on e publication.number (nak_move now from (resend_decision s from publication) fields) unheard) none

-- ---- nothing else is sent again

abbrev IsOther : Answer → Type 0
IsOther (Resent to datagrams) = ⊥
IsOther answer = Unit {0}

log_other : (e : RunEnd) (source : ℕ) (move : WholeLog → Move) (o : Option WholeLog) →
    ((log : WholeLog) → IsOther (move log).answer) → IsOther (moved_on e source move unheard o).answer
log_other e source move None others = tt
log_other e source move (Some log) others = others log

on_log_other : (e : RunEnd) (source : ℕ) (move : WholeLog → Move) → ((log : WholeLog) → IsOther (move log).answer) →
    IsOther (on_log e source move unheard).answer
unfolding on_log
on_log_other e source move others = log_other e source move (log_at e.logs source) others

image_other : (e : RunEnd) (move : WholeLog → Move) (found : Result ℕ Astray') →
    ((log : WholeLog) → IsOther (move log).answer) → IsOther (on_image e move found).answer
image_other e move (Ok source) others = on_log_other e source move others
image_other e move (Err why) others = tt

heard_other : (answer : Option StatusAnswer) → IsOther (answer_heard answer)
heard_other None = tt
heard_other (Some heard.Elicited) = tt
heard_other (Some (heard.Limit position)) = tt
heard_other (Some heard.OutOfWindow) = tt

told_other : (e : RunEnd) (now : ℕ) (from : Address) (fields : StatusMessage) (request : Option JoinRequest) →
    IsOther (on_told e now from fields request).answer
told_other e now from fields None = tt
told_other e now from fields (Some request) =
    on_log_other e request.source (status_move now from request.decision fields)
    (λ log. status_told IsOther now from request.decision fields log (λ cause. tt) (heard_other _))

outcome_other : (response : Response) (replies : List Message) → IsOther (answered_by response replies)
outcome_other response.Nothing replies = tt
outcome_other (response.Attached number) replies = tt
outcome_other response.Full replies = tt
outcome_other response.Stopped replies = tt
outcome_other (response.PolicyInForce epoch) replies = tt
outcome_other response.PolicyFull replies = tt
outcome_other (response.Imaged number) replies = tt
outcome_other (response.Dropped fault) replies = tt

event_other : (e : RunEnd) (event : Event) → IsOther (conducted e event).answer
unfolding conducted answer_of
event_other e event =
    let outcome : Outcome = (conduct e.registry event (inputs_of e.registry event e.logs)).outcome in
    outcome_other outcome.response outcome.replies

-- what is sent again goes to who asks
word_to : (from to : Address) (fields : Nak) (w : Whole) (word : Word) (datagrams : List (List ℕ)) →
    Resent to datagrams ≡ answer_asked from (Some (reply_by fields w word)) → to ≡ from
word_to from to fields w words.Empty datagrams is = absurd (cc is)
word_to from to fields w words.OutOfWindow datagrams is = absurd (cc is)
word_to from to fields w words.Lingering datagrams is = absurd (cc is)
word_to from to fields w words.Busy datagrams is = absurd (cc is)
word_to from to fields w words.Resend datagrams is = cc is

reply_to : (from to : Address) (reply : Option NakReply) (datagrams : List (List ℕ)) →
    Resent to datagrams ≡ answer_asked from reply → to ≡ from
reply_to from to None datagrams is = absurd (cc is)
reply_to from to (Some (replies.Denied verdict)) datagrams is = absurd (cc is)
reply_to from to (Some replies.Empty) datagrams is = absurd (cc is)
reply_to from to (Some replies.OutOfWindow) datagrams is = absurd (cc is)
reply_to from to (Some replies.Lingering) datagrams is = absurd (cc is)
reply_to from to (Some replies.Busy) datagrams is = absurd (cc is)
reply_to from to (Some (replies.Resent others)) datagrams is = cc is

logged_to : (e : RunEnd) (now source : ℕ) (from to : Address) (decision : Decision) (fields : Nak) (datagrams : List (List ℕ))
    (o : Option WholeLog) → Resent to datagrams ≡ (moved_on e source (nak_move now from decision fields) unheard o).answer → to ≡ from
logged_to e now source from to decision fields datagrams None is = absurd (cc is)
logged_to e now source from to decision fields datagrams (Some log) is =
    reply_to from to (nak_reply decision now fields log.recovery.gate log.whole) datagrams is

asked_to : (s : State) (e : RunEnd) (now : ℕ) (from to : Address) (fields : Nak) (datagrams : List (List ℕ)) (o : Option LogRow) →
    Resent to datagrams ≡ (on_asked e now from fields (resent_by s from o)).answer → to ≡ from
unfolding on_log
asked_to s e now from to fields datagrams None is = absurd (cc is)
asked_to s e now from to fields datagrams (Some publication) is =
    logged_to e now publication.number from to (resend_decision s from publication) fields datagrams (log_at e.logs publication.number) is

abbrev IsAsked : Address → Result Content BadPacket → Address → Type 0
IsAsked from read to = (fields : Nak) × (read ≡ Ok (nak fields)) × (to ≡ from)

none_other : (from to : Address) (read : Result Content BadPacket) (datagrams : List (List ℕ)) (answer : Answer) →
    IsOther answer → Resent to datagrams ≡ answer → IsAsked from read to
none_other from to read datagrams answer other is = absurd (subst IsOther (sym is) other)

only_asked : (s : State) (e : RunEnd) (now : ℕ) (local from to : Address) (datagrams : List (List ℕ)) (read : Result Content BadPacket) →
    Resent to datagrams ≡ (on_packet s e now local from read).answer → IsAsked from read to
unfolding resending_of
only_asked s e now local from to datagrams (Err fault) is = absurd (cc is)
only_asked s e now local from to datagrams (Ok (frames [])) is = absurd (cc is)
only_asked s e now local from to datagrams (Ok (frames (frame ∷ later))) is =
    none_other from to (Ok (frames (frame ∷ later))) datagrams _
    (image_other e (receive_move now (frame ∷ later)) (image_by s e local from frame.header.place) (λ log. tt)) is
only_asked s e now local from to datagrams (Ok (beat header)) is =
    none_other from to (Ok (beat header)) datagrams _
    (image_other e (beat_move now header.place) (image_by s e local from header.place) (λ log. tt)) is
only_asked s e now local from to datagrams (Ok (setup fields)) is =
    none_other from to (Ok (setup fields)) datagrams _ (event_other e (SetUp now local from fields)) is
only_asked s e now local from to datagrams (Ok (nak fields)) is =
    (fields, refl, asked_to s e now from to fields datagrams (publication_at s fields.session_id fields.stream_id) is)
only_asked s e now local from to datagrams (Ok (status fields)) is =
    none_other from to (Ok (status fields)) datagrams _
    (told_other e now from fields (joining_of s from fields.session_id fields.stream_id)) is

-- ---- of a run

asked_by_any : (s : State) (e : RunEnd) → LogsFollow e → AreRising s → ComesAbove s e.registry → NaksAreDecidedBy s e
asked_by_any s e follows rises above = record {
  there = nak_there s e follows rises above;
  closed = nak_closed s e;
  nobody = λ now local from bytes fields read none. asked_is s e now local from bytes fields None read none;
  only = λ now local from to bytes datagrams is. only_asked s e now local from to datagrams (packet_of bytes) is;
}

pub naks_by_any : NaksByAnyRegistryAreGrantedExactly
naks_by_any settings policy peers readings answers k sound are =
    let first : List (Event × Inputs) = take k (taken_from (opening_end settings policy peers) readings answers) in
    asked_by_any (registry_in settings policy peers readings answers k) (end_of (opening_end settings policy peers) readings answers)
    (logs_follow settings policy peers readings answers sound are) (numbers_rise settings policy peers first)
    (above_of settings policy peers readings answers k)
