-- By whose leave an address becomes a destination, and which addresses are learnt at the end of every run.
use Rattle.std.proofs.Common.{◌≡◌, ℕ, Bool, true, cond, not, nat_lt, List, [], ◌∷◌, length, Option, Some, None, Result, Ok, Err, refl, sym, ap, ◌∙◌, ◌==◌}
use Rattle.std.specs.List.{All}
use Rattle.std.proofs.lemmas.Bool.{cond_both}
use Rattle.std.proofs.lemmas.List.Elements.{All-nil}
use Rattle.channel_uri.specs.declared.address.Address.{Address}
use Rattle.driver_core.specs.declared.state.event.Event.TheVariants.{Setup as SetUp}
use Rattle.driver_core.specs.declared.asked.image_request.Astray.{Astray}
use Rattle.driver_core.specs.declared.asked.log_request.LogRequest.{LogRequest}
use Rattle.driver_core.specs.declared.state.peer.Peer.{Peer}
use Rattle.driver_core.specs.declared.asked.publication_request.JoinRequest.{JoinRequest}
use Rattle.driver_core.specs.declared.state.settings.Settings.{Settings}
use Rattle.driver_core.specs.LogRequests.{offering_of, receiving_of}
use Rattle.driver_core.specs.PublicationRequests.{join_decision, joined_by, joining_of, publication_at, publisher_of, resending_of}
use Rattle.driver_core.specs.SendRequests.{sending_of}
use Rattle.driver_core.specs.State.{State}
use Rattle.driver_core.proofs.VerdictLemmas.{by_policy}
use Rattle.log_steps.specs.declared.answer.Answer.{Answer}
use Rattle.log_steps.specs.declared.answer.Answer.TheVariants.{Dropped, Gone as IsGone, Offered as OfferedAs}
use Rattle.log_steps.specs.declared.answer.Offered.TheVariants.{Closed}
use Rattle.log_steps.specs.declared.cause.Cause.TheVariants.{Denied, Full as IsFull}
use Rattle.driver_steps.specs.declared.step.Step.{Step}
use Rattle.driver_steps.specs.declared.step.Step.TheVariants.{Conductor, Packet, Offer as Offers, Poll as Polls, Image, List as Lists, Send, Value}
use Rattle.driver_steps.specs.Ends.{image_by, log_at, moved_by, on_asked, on_image, on_offered, on_packet, on_report, on_told, opening_end, RunEnd}
use Rattle.log_steps.specs.Hearing.{heard_move, join_move, learn_move, nak_move, status_move, with_learnt}
use Rattle.driver_steps.specs.JoinLaws.{AddressesAreLearntExactly, JoinIsDecided, JoinsAreDecided, LearnOrderly, join_question, moved_by_log}
use Rattle.log_steps.specs.Moves.{Move, WholeLog, answered, offer_move, offer_to, offer_under, poll_move, poll_under}
use Rattle.log_steps.specs.Receiving.{beat_move, receive_move, unheard}
use Rattle.log_steps.specs.Reporting.{report_move}
use Rattle.driver_steps.specs.Runs.{Reading, end_of}
use Rattle.log_steps.specs.Sending.{send_by, send_move}
use Rattle.driver_steps.proofs.DecisionLemmas.{left_by, log_moves, stays_left}
use Rattle.driver_steps.proofs.EndLemmas.{run_keeps}
use Rattle.driver_steps.proofs.FoundLemmas.{found_source}
use Rattle.driver_steps.proofs.LearntLemmas.{learnt_stays}
use Rattle.driver_steps.proofs.LiveLemmas.{IsKept, event_keeps, log_keeps}
use Rattle.frame_codec.specs.declared.fault.BadPacket.{BadPacket}
use Rattle.frame_codec.specs.declared.nak.Nak.{Nak}
use Rattle.frame_codec.specs.declared.status_message.StatusMessage.{StatusMessage}
use Rattle.frame_codec.specs.Datagram.{Content, frames, beat, nak, status, setup, packet_of}
use Rattle.learnt_addresses.specs.declared.learning.Learning.{Learning}
use Rattle.learnt_addresses.specs.declared.learning.Learning.TheVariants.{Full, Learnt, Renewed}
use Rattle.learnt_addresses.specs.declared.learnt_address.LearntAddress.{LearntAddress}
use Rattle.learnt_addresses.specs.Laws.{AreOrderly}
use Rattle.learnt_addresses.specs.LearntAddresses.{forgotten, learning, learnt}
use Rattle.learnt_addresses.proofs.OrderLemmas.{stays_orderly}
use Rattle.log_traffic.specs.Whole.{AnyWhole, whole, rebuilt, position_in}
use Rattle.policy_core.specs.declared.decision.Decision.{Decision}
use Rattle.policy_core.specs.declared.verdict.Verdict.{Verdict}
use Rattle.policy_core.specs.RuleList.{Rules}
use Rattle.stream_registry.specs.declared.row.LogRow.{LogRow}
use Rattle.stream_registry.specs.Places.{is_dynamic}
use Rattle.term_log.specs.Log.{greatest_message}
use Rattle.term_log.specs.Whole.{is_connected}

-- ---- by whose leave

-- a publication that learns its destinations asks the policy
joins_by : (s : State) (from : Address) (publication : LogRow) → is_dynamic publication.channel ≡ true →
    joined_by s from (Some publication) ≡ Some (record { source = publication.number; decision = Some (join_decision s from publication) })
joins_by s from publication dynamic =
    ap (λ (d : Option Decision). Some (record { source = publication.number; decision = d }))
    (ap (λ (b : Bool). cond b (Some (join_decision s from publication)) None) dynamic)

joining_is : (s : State) (from : Address) (fields : StatusMessage) (publication : LogRow) →
    publication_at s fields.session_id fields.stream_id ≡ Some publication → is_dynamic publication.channel ≡ true →
    joining_of s from fields.session_id fields.stream_id
    ≡ Some (record { source = publication.number; decision = Some (join_decision s from publication) })
unfolding joining_of
joining_is s from fields publication found dynamic = ap (joined_by s from) found ∙ joins_by s from publication dynamic

same_learnt : (log : WholeLog) (rows : List LearntAddress) → rows ≡ log.recovery.learnt → with_learnt rows log ≡ log
same_learnt log rows same = ap (λ (l : List LearntAddress). with_learnt l log) same

heard_after : (now : ℕ) (from : Address) (message : StatusMessage) (log : WholeLog) (answer : Learning) → (answer ≡ Full → ⊥) →
    learn_move now from message log answer ≡ heard_move now message (with_learnt (learnt now from log.recovery.learnt) log)
heard_after now from message log Full other = absurd (other refl)
heard_after now from message log Learnt other = refl
heard_after now from message log Renewed other = refl

pub join_decided : (e : RunEnd) (now : ℕ) (local from : Address) (fields : StatusMessage) (publication : LogRow) (log : WholeLog) →
    publication_at e.registry fields.session_id fields.stream_id ≡ Some publication → is_dynamic publication.channel ≡ true →
    log_at e.logs publication.number ≡ Some log →
    JoinIsDecided e now from fields publication log (on_packet e.registry e now local from (Ok (status fields)))
join_decided e now local from fields publication log found dynamic live =
    let decision : Decision = join_decision e.registry from publication in
    let move : Move = join_move now from decision fields log in
    let goes : on_packet e.registry e now local from (Ok (status fields)) ≡ left_by e publication.number move =
    ap (on_told e now from fields) (joining_is e.registry from fields publication found dynamic)
    ∙ log_moves e publication.number (status_move now from (Some decision) fields) unheard log live in
    let number : publication.number ≡ log.source = sym (found_source publication.number log e.logs live) in
    let by_log : (m : Move) → left_by e publication.number m ≡ moved_by_log e log m = λ m. ap (λ (n : ℕ). left_by e n m) number in
    let joins : decision.verdict.allow ≡ true → move ≡ learn_move now from fields log (learning log.recovery.learnt from) =
    λ allows. ap (λ (b : Bool). cond b (learn_move now from fields log (learning log.recovery.learnt from))
    (answered (with_learnt (forgotten from log.recovery.learnt) log) (Dropped (Denied decision.verdict)))) allows in
    record {
      by = by_policy e.registry (join_question e.registry from publication);
      denied = λ denies.
          goes
          ∙ ap (λ (b : Bool). left_by e publication.number (cond b (learn_move now from fields log (learning log.recovery.learnt from))
          (answered (with_learnt (forgotten from log.recovery.learnt) log) (Dropped (Denied decision.verdict))))) denies
          ∙ by_log _;
      full = λ allows full.
          goes
          ∙ ap (left_by e publication.number) (joins allows ∙ ap (learn_move now from fields log) full)
          ∙ stays_left e publication.number log (Dropped IsFull) live;
      joined = λ allows other.
          goes
          ∙ ap (left_by e publication.number) (joins allows ∙ heard_after now from fields log _ other)
          ∙ by_log _;
    }

joins_decided : (e : RunEnd) → JoinsAreDecided e
joins_decided e = record { there = join_decided e }

-- ---- which are learnt

abbrev OrderlyLog : WholeLog → Type 0
OrderlyLog log = AreOrderly log.recovery.learnt

orderly_kept : IsKept OrderlyLog
orderly_kept = record {
  begins = λ settings now log. stays_orderly.none;
  rejoins = λ pairs log orderly. orderly;
}

learn_orderly : (now : ℕ) (from : Address) (message : StatusMessage) (log : WholeLog) (answer : Learning) → OrderlyLog log →
    OrderlyLog (learn_move now from message log answer).after
learn_orderly now from message log Full orderly = orderly
learn_orderly now from message log Learnt orderly = stays_orderly.learnt now from log.recovery.learnt orderly
learn_orderly now from message log Renewed orderly = stays_orderly.learnt now from log.recovery.learnt orderly

status_orderly : (now : ℕ) (from : Address) (decision : Option Decision) (message : StatusMessage) (log : WholeLog) → OrderlyLog log →
    OrderlyLog (status_move now from decision message log).after
status_orderly now from None message log orderly = orderly
status_orderly now from (Some decision) message log orderly =
    cond_both decision.verdict.allow _ _ (λ (move : Move). OrderlyLog move.after)
    (λ _. learn_orderly now from message log (learning log.recovery.learnt from) orderly)
    (λ _. stays_orderly.forgotten from log.recovery.learnt orderly)

told_orderly : (e : RunEnd) (now : ℕ) (from : Address) (fields : StatusMessage) (request : Option JoinRequest) → All OrderlyLog e.logs →
    All OrderlyLog (on_told e now from fields request).after.logs
told_orderly e now from fields None orderly = orderly
told_orderly e now from fields (Some request) orderly =
    log_keeps OrderlyLog e request.source (status_move now from request.decision fields) unheard
    (λ log found there. status_orderly now from request.decision fields log there.holds) orderly

asked_orderly : (e : RunEnd) (now : ℕ) (from : Address) (fields : Nak) (request : Option LogRequest) → All OrderlyLog e.logs →
    All OrderlyLog (on_asked e now from fields request).after.logs
asked_orderly e now from fields None orderly = orderly
asked_orderly e now from fields (Some request) orderly =
    log_keeps OrderlyLog e request.source (nak_move now from request.decision fields) unheard (λ log found there. there.holds) orderly

image_orderly : (e : RunEnd) (move : WholeLog → Move) (found : Result ℕ Astray) → ((log : WholeLog) → OrderlyLog log → OrderlyLog (move log).after) →
    All OrderlyLog e.logs → All OrderlyLog (on_image e move found).after.logs
image_orderly e move (Err why) keeps orderly = orderly
image_orderly e move (Ok source) keeps orderly =
    log_keeps OrderlyLog e source move unheard (λ log found there. keeps log there.holds) orderly

packet_orderly : (s : State) (e : RunEnd) (now : ℕ) (local from : Address) (read : Result Content BadPacket) → All OrderlyLog e.logs →
    All OrderlyLog (on_packet s e now local from read).after.logs
packet_orderly s e now local from (Err fault) orderly = orderly
packet_orderly s e now local from (Ok (frames [])) orderly = orderly
packet_orderly s e now local from (Ok (frames (frame ∷ later))) orderly =
    image_orderly e (receive_move now (frame ∷ later)) (image_by s e local from frame.header.place) (λ log kept. kept) orderly
packet_orderly s e now local from (Ok (beat header)) orderly =
    image_orderly e (beat_move now header.place) (image_by s e local from header.place) (λ log kept. kept) orderly
packet_orderly s e now local from (Ok (setup fields)) orderly = event_keeps OrderlyLog e (SetUp now local from fields) orderly_kept orderly
packet_orderly s e now local from (Ok (nak fields)) orderly =
    asked_orderly e now from fields (resending_of s from fields.session_id fields.stream_id) orderly
packet_orderly s e now local from (Ok (status fields)) orderly =
    told_orderly e now from fields (joining_of s from fields.session_id fields.stream_id) orderly

offers_orderly : (now timeout : ℕ) (verdict : Verdict) (message : List ℕ) (log : WholeLog) (w : AnyWhole) → OrderlyLog log →
    OrderlyLog (offer_to now timeout verdict message log w).after
offers_orderly now timeout verdict message log (rebuilt r) orderly = orderly
offers_orderly now timeout verdict message log (whole w) orderly =
    let P : Move → Type 0 = λ move. OrderlyLog move.after in
    cond_both (not verdict.allow) _ _ P (λ _. orderly)
    (λ _. cond_both (nat_lt (greatest_message w.ident) (length message)) _ _ P (λ _. orderly)
    (λ _. cond_both (not (is_connected w now timeout)) _ _ P (λ _. orderly) (λ _. orderly)))

offer_orderly : (s : State) (now : ℕ) (message : List ℕ) (log : WholeLog) (o : Option LogRequest) → OrderlyLog log →
    OrderlyLog (offer_under s.settings.connection_timeout o now message log).after
offer_orderly s now message log None orderly = orderly
offer_orderly s now message log (Some request) orderly =
    cond_both (not (request.source == log.source)) _ _ (λ (move : Move). OrderlyLog move.after) (λ _. orderly)
    (λ _. offers_orderly now s.settings.connection_timeout request.decision.verdict message log log.whole orderly)

offered_orderly : (s : State) (e : RunEnd) (now client registration : ℕ) (message : List ℕ) (o : Option LogRequest) → All OrderlyLog e.logs →
    All OrderlyLog (on_offered s e now client registration message o).after.logs
unfolding offer_move
offered_orderly s e now client registration message None orderly = orderly
offered_orderly s e now client registration message (Some request) orderly =
    log_keeps OrderlyLog e request.source (offer_move s now client registration message) (OfferedAs Closed)
    (λ log found there. offer_orderly s now message log (offering_of s client registration) there.holds) orderly

poll_orderly : (subscription limit : ℕ) (log : WholeLog) (o : Option LogRequest) (at : Option ℕ) → OrderlyLog log →
    OrderlyLog (poll_under subscription limit log o at).after
poll_orderly subscription limit log None at orderly = orderly
poll_orderly subscription limit log (Some request) None orderly = orderly
poll_orderly subscription limit log (Some request) (Some at) orderly =
    cond_both (not request.decision.verdict.allow) _ _ (λ (move : Move). OrderlyLog move.after) (λ _. orderly) (λ _. orderly)

send_orderly : (s : State) (now : ℕ) (log : WholeLog) (lingers : Option Bool) → OrderlyLog log → OrderlyLog (send_by s now log lingers).after
send_orderly s now log None orderly = orderly
send_orderly s now log (Some lingers) orderly = stays_orderly.standing now s.settings.destination_timeout log.recovery.learnt orderly

report_orderly : (s : State) (e : RunEnd) (now source : ℕ) (to : Option Address) → All OrderlyLog e.logs →
    All OrderlyLog (on_report s e now source to).after.logs
report_orderly s e now source None orderly = orderly
report_orderly s e now source (Some to) orderly =
    log_keeps OrderlyLog e source (report_move now s.settings.receiver_id to) IsGone (λ log found there. there.holds) orderly

moved_orderly : (s : State) (e : RunEnd) (step : Step) → All OrderlyLog e.logs → All OrderlyLog (moved_by s e step).after.logs
unfolding poll_move send_move
moved_orderly s e (Conductor event) orderly = event_keeps OrderlyLog e event orderly_kept orderly
moved_orderly s e (Packet now local from bytes) orderly = packet_orderly s e now local from (packet_of bytes) orderly
moved_orderly s e (Offers now client registration message) orderly =
    offered_orderly s e now client registration message (offering_of s client registration) orderly
moved_orderly s e (Polls now client subscription source limit) orderly =
    log_keeps OrderlyLog e source (poll_move s client subscription limit) IsGone
    (λ log found there.
    poll_orderly subscription limit log (receiving_of s client subscription log.source) (position_in log.whole subscription) there.holds) orderly
moved_orderly s e (Send now source) orderly =
    log_keeps OrderlyLog e source (send_move s now) IsGone
    (λ log found there. send_orderly s now log (sending_of s log.source) there.holds) orderly
moved_orderly s e (Image now source) orderly = report_orderly s e now source (publisher_of s source) orderly
moved_orderly s e (Lists now client) orderly = orderly
moved_orderly s e (Value now client number) orderly = orderly

opening_orderly : (settings : Settings) (policy : Rules) (peers : List Peer) → All OrderlyLog (opening_end settings policy peers).logs
unfolding opening_end
opening_orderly settings policy peers = All-nil OrderlyLog

ends_orderly : (settings : Settings) (policy : Rules) (peers : List Peer) (readings : List Reading) (answers : List Answer) →
    LearnOrderly (end_of (opening_end settings policy peers) readings answers)
ends_orderly settings policy peers readings answers =
    run_keeps (λ e. All OrderlyLog e.logs) moved_orderly (opening_end settings policy peers) readings answers (opening_orderly settings policy peers)

pub addresses_learnt : AddressesAreLearntExactly
addresses_learnt settings policy peers readings answers sound are = record {
  joins = joins_decided _;
  orderly = ends_orderly settings policy peers readings answers;
  stays = learnt_stays _;
}
