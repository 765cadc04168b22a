-- What is sent again on a NAK comes from the live log, where the policy allows it.
use Rattle.std.proofs.Common.{◌≡◌, ℕ, ℤ, ◌==◌, not, Bool, true, false, cond, List, [], ◌∷◌, map, find, Option, Some, None, Result, Ok, Err, refl, sym, ap, subst, ◌∙◌}
use Rattle.std.proofs.lemmas.Bool.{and_parts, cond_both, eq-eqb}
use Rattle.log_traffic.specs.declared.asking.NakReply.{NakReply}
use Rattle.log_traffic.specs.Asking.{gate_behind, nak_reply, reply_by}
use Rattle.log_traffic.specs.Held.{Made}
use Rattle.log_traffic.specs.Whole.{AnyWhole, whole, rebuilt}
use Rattle.channel_uri.specs.declared.address.Address.{Address}
use Rattle.driver_core.specs.declared.state.event.Event.{Event}
use Rattle.driver_core.specs.declared.state.event.Event.TheVariants.{Setup as SetUp}
use Rattle.driver_core.specs.declared.asked.image_request.Astray.{Astray}
use Rattle.driver_core.specs.declared.state.outcome.Outcome.{Outcome}
use Rattle.driver_core.specs.declared.state.outcome.Response.{Response}
use Rattle.driver_core.specs.declared.state.outcome.Response.TheVariants as response
use Rattle.driver_core.specs.declared.state.replies.Message.{Message}
use Rattle.driver_core.specs.declared.state.settings.Settings.{Settings}
use Rattle.driver_core.specs.Conduct.{conduct}
use Rattle.driver_core.specs.PublicationRequests.{is_sent_as, publication_at, joining_of, resend_decision, resending_of, resent_by}
use Rattle.driver_core.specs.Renewal.{source_at}
use Rattle.driver_core.proofs.VerdictLemmas.{by_policy}
use Rattle.log_steps.specs.declared.answer.Answer.{Answer}
use Rattle.log_steps.specs.declared.answer.Answer.TheVariants.{Dropped, Resent}
use Rattle.log_steps.specs.declared.cause.Cause.TheVariants.{Denied}
use Rattle.log_steps.specs.Answers.{answered_by, answer_of}
use Rattle.driver_steps.specs.Ends.{RunEnd, conducted, image_by, inputs_of, log_at, moved_on, on_asked, on_image, on_log, on_packet, on_told}
use Rattle.log_steps.specs.Hearing.{answer_asked, answer_heard, nak_move, status_move}
use Rattle.driver_steps.specs.Laws.{made_as, made_for, stays}
use Rattle.log_steps.specs.Moves.{WholeLog, Move, answered}
use Rattle.log_steps.specs.Receiving.{beat_move, receive_move, unheard}
use Rattle.driver_steps.specs.ResendLaws.{IsResentFrom, ResendsAreDecided, ResendsComeFromTheLiveLog, resend_question, resend_verdict}
use Rattle.log_steps.proofs.HearingLemmas.{status_told}
use Rattle.driver_steps.proofs.DecisionLemmas.{IsAppended, IsForPublication, appended_for, left_by, log_moves, made_at, published_made, stays_left}
use Rattle.driver_steps.proofs.FollowLemmas.{Follows, ends_follow}
use Rattle.driver_steps.proofs.LiveLemmas.{is_allowed}
use Rattle.driver_steps.proofs.RegisteredLemmas.{published_at}
use Rattle.driver_steps.proofs.SourceLemmas.{Found, found_only}
use Rattle.frame_codec.specs.declared.fault.BadPacket.{BadPacket}
use Rattle.frame_codec.specs.declared.nak.Nak.{Nak}
use Rattle.frame_codec.specs.declared.status_message.StatusMessage.{StatusMessage}
use Rattle.frame_codec.specs.Datagram.{Content, frames, beat, nak, status, setup, packet_of}
use Rattle.driver_core.specs.declared.asked.publication_request.JoinRequest.{JoinRequest}
use Rattle.policy_core.specs.declared.decision.Decision.{Decision}
use Rattle.log_traffic.specs.declared.hearing.StatusAnswer.{StatusAnswer}
use Rattle.log_traffic.specs.declared.hearing.StatusAnswer.TheVariants as heard
use Rattle.log_traffic.specs.Resending.{asking_in, resent_of}
use Rattle.retransmit_gate.specs.declared.answer.Answer.{Answer as Word}
use Rattle.retransmit_gate.specs.declared.answer.Answer.TheVariants as words
use Rattle.retransmit_gate.specs.Gate.{Resends}
use Rattle.retransmit_gate.specs.ResendLaws.{answer_to}
use Rattle.stream_registry.specs.declared.row.LogRow.{LogRow}
use Rattle.stream_registry.specs.Origins.{is_published}
use Rattle.term_log.specs.Whole.{Whole}

-- ---- answers by which nothing is sent again

abbrev IsOther : Answer → Type 0
IsOther (Resent to datagrams) = ⊥
IsOther answer = Unit {0}

log_other : (e : RunEnd) (source : ℕ) (move : WholeLog → Move) (o : Option WholeLog) →
    ((log : WholeLog) → IsOther (move log).answer) → IsOther (moved_on e source move unheard o).answer
log_other e source move None others = tt
log_other e source move (Some log) others = others log

on_log_other : (e : RunEnd) (source : ℕ) (move : WholeLog → Move) → ((log : WholeLog) → IsOther (move log).answer) →
    IsOther (on_log e source move unheard).answer
unfolding on_log
on_log_other e source move others = log_other e source move (log_at e.logs source) others

image_other : (e : RunEnd) (move : WholeLog → Move) (found : Result ℕ Astray) →
    ((log : WholeLog) → IsOther (move log).answer) → IsOther (on_image e move found).answer
image_other e move (Ok source) others = on_log_other e source move others
image_other e move (Err why) others = tt

heard_other : (answer : Option StatusAnswer) → IsOther (answer_heard answer)
heard_other None = tt
heard_other (Some heard.Elicited) = tt
heard_other (Some (heard.Limit position)) = tt
heard_other (Some heard.OutOfWindow) = tt

told_other : (e : RunEnd) (now : ℕ) (from : Address) (fields : StatusMessage) (request : Option JoinRequest) →
    IsOther (on_told e now from fields request).answer
told_other e now from fields None = tt
told_other e now from fields (Some request) =
    on_log_other e request.source (status_move now from request.decision fields)
    (λ log. status_told IsOther now from request.decision fields log (λ cause. tt) (heard_other _))

outcome_other : (response : Response) (replies : List Message) → IsOther (answered_by response replies)
outcome_other response.Nothing replies = tt
outcome_other (response.Attached number) replies = tt
outcome_other response.Full replies = tt
outcome_other response.Stopped replies = tt
outcome_other (response.PolicyInForce epoch) replies = tt
outcome_other response.PolicyFull replies = tt
outcome_other (response.Imaged number) replies = tt
outcome_other (response.Dropped fault) replies = tt

event_other : (e : RunEnd) (event : Event) → IsOther (conducted e event).answer
unfolding conducted answer_of
event_other e event =
    let outcome : Outcome = (conduct e.registry event (inputs_of e.registry event e.logs)).outcome in
    outcome_other outcome.response outcome.replies

-- ---- what is sent again

-- the gate's word is to send again
word_resends : (from to : Address) (fields : Nak) (w : Whole) (word : Word) (datagrams : List (List ℕ)) →
    Resent to datagrams ≡ answer_asked from (Some (reply_by fields w word)) → (to ≡ from) × (datagrams ≡ resent_of w fields)
word_resends from to fields w words.Empty datagrams is = absurd (cc is)
word_resends from to fields w words.OutOfWindow datagrams is = absurd (cc is)
word_resends from to fields w words.Lingering datagrams is = absurd (cc is)
word_resends from to fields w words.Busy datagrams is = absurd (cc is)
word_resends from to fields w words.Resend datagrams is = (cc is, cc is)

-- and before it comes the decision
record IsGiven (from : Address) (decision : Decision) (fields : Nak) (w : AnyWhole) (to : Address) (datagrams : List (List ℕ)) : Type 0 where
  allows : decision.verdict.allow ≡ true
  to_is : to ≡ from
  frames : Whole
  frames_are : w ≡ whole frames
  datagrams_are : datagrams ≡ resent_of frames fields

log_resends : (now : ℕ) (from to : Address) (decision : Decision) (fields : Nak) (gate : Resends) (w : AnyWhole)
    (datagrams : List (List ℕ)) → Resent to datagrams ≡ answer_asked from (nak_reply decision now fields gate w) →
    IsGiven from decision fields w to datagrams
log_resends now from to decision fields gate (rebuilt r) datagrams = λ is. absurd (cc is)
log_resends now from to decision fields gate (whole w) datagrams =
    cond_both (not decision.verdict.allow) _ _
    (λ (reply : NakReply).
    Resent to datagrams ≡ answer_asked from (Some reply) → IsGiven from decision fields (whole w) to datagrams)
    (λ _ other. absurd (cc other))
    (λ granted same.
    let given = word_resends from to fields w (answer_to gate (asking_in now w fields)) datagrams same in
    record {
      allows = is_allowed decision.verdict.allow granted;
      to_is = given.0;
      frames = w;
      frames_are = refl;
      datagrams_are = given.1;
    })

found_resends : (e : RunEnd) (now : ℕ) (from to : Address) (fields : Nak) (datagrams : List (List ℕ)) (publication : LogRow)
    (o : Option WholeLog) → publication_at e.registry fields.session_id fields.stream_id ≡ Some publication →
    log_at e.logs publication.number ≡ o →
    Resent to datagrams
    ≡ (moved_on e publication.number (nak_move now from (resend_decision e.registry from publication) fields) unheard o).answer →
    IsResentFrom e from fields to datagrams
found_resends e now from to fields datagrams publication None published found is = absurd (cc is)
found_resends e now from to fields datagrams publication (Some log) published found is =
    let given =
    log_resends now from to (resend_decision e.registry from publication) fields log.recovery.gate log.whole datagrams is in
    record {
      publication = publication;
      publication_is = published;
      by = by_policy e.registry (resend_question e.registry from publication);
      allows = given.allows;
      to_is = given.to_is;
      log = log;
      live = found;
      frames = given.frames;
      frames_are = given.frames_are;
      datagrams_are = given.datagrams_are;
    }

asked_resends : (e : RunEnd) (now : ℕ) (from to : Address) (fields : Nak) (datagrams : List (List ℕ)) (o : Option LogRow) →
    publication_at e.registry fields.session_id fields.stream_id ≡ o →
    Resent to datagrams ≡ (on_asked e now from fields (resent_by e.registry from o)).answer →
    IsResentFrom e from fields to datagrams
unfolding on_log
asked_resends e now from to fields datagrams None published is = absurd (cc is)
asked_resends e now from to fields datagrams (Some publication) published is =
    found_resends e now from to fields datagrams publication (log_at e.logs publication.number) published refl is

-- only by a NAK
abbrev IsResent : RunEnd → Address → Result Content BadPacket → Address → List (List ℕ) → Type 0
IsResent e from read to datagrams = (fields : Nak) × (read ≡ Ok (nak fields)) × IsResentFrom e from fields to datagrams

none_other : (e : RunEnd) (from to : Address) (read : Result Content BadPacket) (datagrams : List (List ℕ)) (answer : Answer) →
    IsOther answer → Resent to datagrams ≡ answer → IsResent e from read to datagrams
none_other e from to read datagrams answer other is = absurd (subst IsOther (sym is) other)

packet_resends : (e : RunEnd) (now : ℕ) (local from to : Address) (datagrams : List (List ℕ)) (read : Result Content BadPacket) →
    Resent to datagrams ≡ (on_packet e.registry e now local from read).answer → IsResent e from read to datagrams
unfolding resending_of
packet_resends e now local from to datagrams (Err fault) is = absurd (cc is)
packet_resends e now local from to datagrams (Ok (frames [])) is = absurd (cc is)
packet_resends e now local from to datagrams (Ok (frames (frame ∷ later))) is =
    none_other e from to (Ok (frames (frame ∷ later))) datagrams _
    (image_other e (receive_move now (frame ∷ later))
    (image_by e.registry e local from frame.header.place) (λ log. tt)) is
packet_resends e now local from to datagrams (Ok (beat header)) is =
    none_other e from to (Ok (beat header)) datagrams _
    (image_other e (beat_move now header.place)
    (image_by e.registry e local from header.place) (λ log. tt)) is
packet_resends e now local from to datagrams (Ok (setup fields)) is =
    none_other e from to (Ok (setup fields)) datagrams _ (event_other e (SetUp now local from fields)) is
packet_resends e now local from to datagrams (Ok (nak fields)) is = (
  fields,
  refl,
  asked_resends e now from to fields datagrams (publication_at e.registry fields.session_id fields.stream_id) refl is,
)
packet_resends e now local from to datagrams (Ok (status fields)) is =
    none_other e from to (Ok (status fields)) datagrams _
    (told_other e now from fields (joining_of e.registry from fields.session_id fields.stream_id)) is

-- ---- the log of the publication

numbered_by : (passes here : Bool) (first log : LogRow) (found at : Option LogRow) → (first.number == log.number) ≡ here →
    (found ≡ Some log → (one : LogRow) × (at ≡ Some one)) → cond passes (Some first) found ≡ Some log →
    (one : LogRow) × (cond here (Some first) at ≡ Some one)
numbered_by passes true first log found at same rest is = (first, refl)
numbered_by true false first log found at same rest is =
    let this : first ≡ log = cc is in
    let clash : true ≡ false = sym (eq-eqb first.number log.number (ap (λ (l : LogRow). l.number) this)) ∙ same in
    absurd (cc clash)
numbered_by false false first log found at same rest is = rest is

-- some log is found by the number of one that is there
numbered : (test : LogRow → Bool) (logs : List LogRow) (log : LogRow) → find test logs ≡ Some log →
    (one : LogRow) × (source_at logs log.number ≡ Some one)
numbered test [] log is = absurd (cc is)
numbered test (first ∷ logs) log is =
    numbered_by (test first) (first.number == log.number) first log (find test logs) (source_at logs log.number) refl
    (numbered test logs log) is

live_by : (b : Bool) (first : WholeLog) (source one : LogRow) (logs : Option WholeLog) (sources : Option LogRow) →
    (sources ≡ Some one → (log : WholeLog) × (logs ≡ Some log)) → cond b (Some source) sources ≡ Some one →
    (log : WholeLog) × (cond b (Some first) logs ≡ Some log)
live_by true first source one logs sources rest is = (first, refl)
live_by false first source one logs sources rest is = rest is

first_number : ℕ → List (ℕ × Made) → ℕ
first_number other [] = other
first_number other (made ∷ others) = made.0

others_of : List (ℕ × Made) → List (ℕ × Made)
others_of [] = []
others_of (made ∷ others) = others

-- each live source has its log
live_at : (settings : Settings) (logs : List WholeLog) (sources : List LogRow) (number : ℕ) (one : LogRow) →
    map made_for logs ≡ map (made_as settings) sources → source_at sources number ≡ Some one →
    (log : WholeLog) × (log_at logs number ≡ Some log)
unfolding first_number others_of
live_at settings logs [] number one made is = absurd (cc is)
live_at settings [] (source ∷ sources) number one made is = absurd (cc made)
live_at settings (first ∷ logs) (source ∷ sources) number one made is =
    let same : first.source ≡ source.number = ap (first_number first.source) made in
    let others : map made_for logs ≡ map (made_as settings) sources = ap others_of made in
    live_by (first.source == number) first source one (log_at logs number) (source_at sources number)
    (live_at settings logs sources number one others)
    (ap (λ (n : ℕ). cond (n == number) (Some source) (source_at sources number)) same ∙ is)

sent_published : (session stream : ℤ) (log : LogRow) → is_sent_as session stream log ≡ true → is_published log ≡ true
sent_published session stream log is =
    let first = and_parts _ _ is in
    let second = and_parts _ _ first.0 in
    let third = and_parts _ _ second.0 in
    third.0

-- the log of a publication is open, and one of frames that were appended
record IsLive (e : RunEnd) (publication : LogRow) : Type 0 where
  log : WholeLog
  found : log_at e.logs publication.number ≡ Some log
  appended : IsAppended log

publication_live : (e : RunEnd) (session stream : ℤ) (publication : LogRow) → Follows e →
    publication_at e.registry session stream ≡ Some publication → IsLive e publication
publication_live e session stream publication follows is =
    let settings : Settings = e.registry.settings in
    let sources : List LogRow = e.registry.streams.sources in
    let of : Found (λ log. is_published log ≡ true) 0 e.registry.last_number sources publication =
    found_only (λ log. is_published log ≡ true) (is_sent_as session stream) 0 e.registry.last_number sources publication
    (sent_published session stream) follows.sound.numbered is in
    let there = numbered (is_sent_as session stream) sources publication is in
    let live = live_at settings e.logs sources publication.number there.0 follows.logs.made there.1 in
    let made = made_at settings e.logs sources publication.number live.0 there.0 follows.logs.made live.1 there.1 in
    let published = published_at publication.number sources there.0 of.only there.1 in
    record {
      log = live.0;
      found = live.1;
      appended = appended_for live.0.whole
          (subst IsForPublication (sym made) (published_made settings there.0 there.0.origin published));
    }

-- ---- what is denied

-- a NAK's move, of a log that is this
abbrev move_on : ℕ → Address → Decision → Nak → WholeLog → AnyWhole → Move
move_on now from decision fields log w = record {
  after = record log { recovery = record log.recovery { gate = gate_behind decision now fields log.recovery.gate w } };
  answer = answer_asked from (nak_reply decision now fields log.recovery.gate w);
}

denied_move : (now : ℕ) (from : Address) (decision : Decision) (fields : Nak) (log : WholeLog) (w : Whole) →
    decision.verdict.allow ≡ false →
    move_on now from decision fields log (whole w) ≡ answered log (Dropped (Denied decision.verdict))
denied_move now from decision fields log w denies = rw denies refl

packet_denied : (e : RunEnd) (now : ℕ) (local from : Address) (bytes : List ℕ) (fields : Nak) (publication : LogRow) →
    Follows e → packet_of bytes ≡ Ok (nak fields) →
    publication_at e.registry fields.session_id fields.stream_id ≡ Some publication →
    (resend_verdict e.registry from publication).allow ≡ false →
    on_packet e.registry e now local from (packet_of bytes) ≡ stays e (Dropped (Denied (resend_verdict e.registry from publication)))
unfolding resending_of
packet_denied e now local from bytes fields publication follows read published denies =
    let decision : Decision = resend_decision e.registry from publication in
    let live = publication_live e fields.session_id fields.stream_id publication follows published in
    let log : WholeLog = live.log in
    ap (on_packet e.registry e now local from) read
    ∙ ap (λ (o : Option LogRow). on_asked e now from fields (resent_by e.registry from o)) published
    ∙ log_moves e publication.number (nak_move now from decision fields) unheard log live.found
    ∙ ap (λ (w : AnyWhole). left_by e publication.number (move_on now from decision fields log w)) live.appended.1
    ∙ ap (left_by e publication.number) (denied_move now from decision fields log live.appended.0 denies)
    ∙ stays_left e publication.number log (Dropped (Denied decision.verdict)) live.found

resends_decided : (e : RunEnd) → Follows e → ResendsAreDecided e
resends_decided e follows = record {
  resent = λ now local from to bytes datagrams is. packet_resends e now local from to datagrams (packet_of bytes) is;
  denied = λ now local from bytes fields publication read published denies.
      packet_denied e now local from bytes fields publication follows read published denies;
}

pub resends_come : ResendsComeFromTheLiveLog
resends_come settings policy peers steps answers sound are =
    resends_decided _ (ends_follow settings policy peers steps answers sound are)
