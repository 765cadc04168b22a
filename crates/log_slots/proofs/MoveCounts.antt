-- What each step on a log does to the number of messages that it has taken.
use Rattle.std.proofs.Common.{◌≡◌, ℕ, ◌+◌, ◌==◌, Bool, true, false, not, nat_lt, length, List, Option, Some, None, refl, sym, ap, ◌∙◌, arith}
use Rattle.std.specs.Prelude.{if◌then◌else◌}
use Rattle.channel_uri.specs.declared.address.Address.{Address}
use Rattle.driver_core.specs.declared.asked.log_request.LogRequest.{LogRequest}
use Rattle.driver_core.specs.LogRequests.{receiving_of}
use Rattle.driver_core.specs.PublicationRequests.{publisher_of}
use Rattle.driver_core.specs.SendRequests.{sending_of}
use Rattle.driver_core.specs.State.{State}
use Rattle.log_steps.specs.declared.answer.Answer.{Answer}
use Rattle.log_steps.specs.declared.answer.Answer.TheVariants.{Denied, Offered as OfferedAs}
use Rattle.log_steps.specs.declared.answer.Offered.TheVariants.{Closed, TooLong as IsTooLong, NotConnected}
use Rattle.log_steps.specs.Answers.{offered_as}
use Rattle.log_steps.specs.Held.{HeldLog}
use Rattle.log_steps.specs.Moves.{Does, Move, WholeLog, answered, for_source, given, offer_let, offer_to, offer_under, offers, poll_move, poll_under, taken}
use Rattle.log_steps.specs.Packets.{content_move, packet_move}
use Rattle.log_steps.specs.declared.packets.PacketRequest.{PacketRequest}
use Rattle.log_steps.specs.Receiving.{receive_move, unheard}
use Rattle.log_steps.specs.Reporting.{image_move, report_by}
use Rattle.log_steps.proofs.HearingLemmas.{status_whole}
use Rattle.log_steps.specs.Sending.{pace_of, send_by, send_move}
use Rattle.frame_codec.specs.Datagram.{Content, frames, beat, nak, status, setup}
use Rattle.frame_codec.specs.Frame.{Sent}
use Rattle.log_slots.proofs.WholeCounts.{beaten_keeps, polled_keeps, received_keeps, report_keeps, status_keeps, turn_keeps}
use Rattle.log_slots.specs.Counting.{taken_by}
use Rattle.log_traffic.proofs.PairLemmas.{messages_count}
use Rattle.log_traffic.specs.declared.any_log.AnyLog.{AnyLog}
use Rattle.log_traffic.specs.declared.any_log.AnyLog.TheVariants.{Term, Image}
use Rattle.log_traffic.specs.Held.{messages_held, rejoined_held}
use Rattle.log_traffic.specs.Whole.{AnyWhole, whole, rebuilt, HasWhole, messages_in, position_in}
use Rattle.policy_core.specs.declared.decision.Decision.{Decision}
use Rattle.policy_core.specs.declared.verdict.Verdict.{Verdict}
use Rattle.term_log.proofs.Counts.{offered_counts}
use Rattle.term_log.specs.Counting.{taken_by as message_of}
use Rattle.term_log.specs.declared.offer.Offer.{Offer}
use Rattle.term_log.specs.declared.offer.Offer.TheVariants.{At, TooLong, MaxPosition, BackPressured, AdminAction}
use Rattle.term_log.specs.Log.{greatest_message}
use Rattle.term_log.specs.Whole.{Whole, answer_to, is_connected, rejoined_kept}

-- ---- steps that take no message

abbrev pub Keeps : (WholeLog → Move) → Type 0
Keeps move = (log : WholeLog) → messages_in (move log).after.whole ≡ messages_in log.whole

if_keeps : (b : Bool) (x y : Move) (n : ℕ) → messages_in x.after.whole ≡ n → messages_in y.after.whole ≡ n →
    let m : Move = if b then x else y in messages_in m.after.whole ≡ n
if_keeps true x y n one two = one
if_keeps false x y n one two = two

pub gated_keeps : (source : ℕ) (move : WholeLog → Move) (absent : Answer) → Keeps move → Keeps (for_source source move absent)
gated_keeps source move absent keeps log =
    if_keeps (log.source == source) (move log) (answered log absent) (messages_in log.whole) (keeps log) refl

poll_by : (subscription limit : ℕ) (log : WholeLog) (request : Option LogRequest) (position : Option ℕ) →
    messages_in (poll_under subscription limit log request position).after.whole ≡ messages_in log.whole
poll_by subscription limit log None position = refl
poll_by subscription limit log (Some request) None = refl
poll_by subscription limit log (Some request) (Some position) =
    if_keeps (not request.decision.verdict.allow) (answered log (Denied request.decision.verdict)) (given subscription limit log)
    (messages_in log.whole) refl (polled_keeps log.whole subscription limit)

pub poll_keeps : (s : State) (client subscription limit : ℕ) → Keeps (poll_move s client subscription limit)
unfolding poll_move
poll_keeps s client subscription limit log =
    poll_by subscription limit log (receiving_of s client subscription log.source) (position_in log.whole subscription)

pub receive_keeps : (now : ℕ) (sent : List Sent) → Keeps (receive_move now sent)
receive_keeps now sent log = received_keeps log.whole now sent

pub content_keeps : (now : ℕ) (from : Address) (decision : Option Decision) (content : Content) → Keeps (content_move now from decision content)
content_keeps now from decision (frames sent) log = received_keeps log.whole now sent
content_keeps now from decision (beat header) log = beaten_keeps log.whole now header.place
content_keeps now from decision (setup fields) log = refl
content_keeps now from None (nak fields) log = refl
content_keeps now from (Some decision) (nak fields) log = refl
content_keeps now from decision (status fields) log =
    status_whole (λ w. messages_in w ≡ messages_in log.whole) now from decision fields log refl (status_keeps log.whole now fields)

pub packet_keeps : (now : ℕ) (from : Address) (request : PacketRequest) (content : Content) → Keeps (packet_move now from request content)
packet_keeps now from request content =
    gated_keeps request.source (content_move now from request.decision content) unheard (content_keeps now from request.decision content)

send_one : (s : State) (now : ℕ) (log : WholeLog) (lingers : Option Bool) →
    messages_in (send_by s now log lingers).after.whole ≡ messages_in log.whole
send_one s now log None = refl
send_one s now log (Some lingers) = turn_keeps log.whole (pace_of s.settings) now

pub send_keeps : (s : State) (now : ℕ) → Keeps (send_move s now)
unfolding send_move
send_keeps s now log = send_one s now log (sending_of s log.source)

report_one : (s : State) (now : ℕ) (log : WholeLog) (to : Option Address) →
    messages_in (report_by s now log to).after.whole ≡ messages_in log.whole
report_one s now log None = refl
report_one s now log (Some to) = report_keeps log.whole now log.recovery.receiver

pub image_keeps : (s : State) (now : ℕ) → Keeps (image_move s now)
image_keeps s now log = report_one s now log (publisher_of s log.source)

-- ---- an offer

-- the move takes as many messages as its answer says
abbrev Takes : ℕ → Move → Type 0
Takes before m = messages_in m.after.whole ≡ before + taken_by m.answer

if_takes : (b : Bool) (x y : Move) (n : ℕ) → Takes n x → Takes n y → Takes n (if b then x else y)
if_takes true x y n one two = one
if_takes false x y n one two = two

as_counted : (answer : Offer) → taken_by (OfferedAs (offered_as answer)) ≡ message_of answer
as_counted (At position) = refl
as_counted TooLong = refl
as_counted MaxPosition = refl
as_counted BackPressured = refl
as_counted AdminAction = refl

let_takes : (now timeout : ℕ) (verdict : Verdict) (message : List ℕ) (log : WholeLog) (w : Whole) → log.whole ≡ whole w →
    Takes (messages_in log.whole) (offer_let now timeout verdict message log w)
let_takes now timeout verdict message log w is =
    let before : messages_in log.whole ≡ messages_in (whole w) = ap messages_in is in
    let long = offered_counts w message in
    let same = as_counted (answer_to w message) in
    let all : Takes (messages_in log.whole) (taken message log w) = omega (arith, before, long, same) in
    let none : (answer : Answer) → taken_by answer ≡ 0 → Takes (messages_in log.whole) (answered log answer) = λ answer zero. omega (arith, zero) in
    if_takes (not verdict.allow) _ _ (messages_in log.whole) (none (Denied verdict) refl)
    (if_takes (nat_lt (greatest_message w.ident) (length message)) _ _ (messages_in log.whole) (none (OfferedAs IsTooLong) refl)
    (if_takes (not (is_connected w now timeout)) _ _ (messages_in log.whole) (none (OfferedAs NotConnected) refl) all))

to_takes : (now timeout : ℕ) (verdict : Verdict) (message : List ℕ) (log : WholeLog) (w : AnyWhole) → log.whole ≡ w →
    Takes (messages_in log.whole) (offer_to now timeout verdict message log w)
to_takes now timeout verdict message log (whole w) is = let_takes now timeout verdict message log w is
to_takes now timeout verdict message log (rebuilt r) is = omega arith

under_takes : (timeout : ℕ) (request : Option LogRequest) (now : ℕ) (message : List ℕ) (log : WholeLog) →
    Takes (messages_in log.whole) (offer_under timeout request now message log)
under_takes timeout None now message log = omega arith
under_takes timeout (Some request) now message log =
    if_takes (not (request.source == log.source)) (answered log (OfferedAs Closed)) (offers now timeout request.decision.verdict message log)
    (messages_in log.whole) (omega arith) (to_takes now timeout request.decision.verdict message log log.whole refl)

-- ---- the log that is held

-- the log as if it were that one
abbrev of_whole : HeldLog → AnyWhole → WholeLog
of_whole held w = record { source = held.source; whole = w; recovery = held.recovery }

pub held_keeps : (move : WholeLog → Move) (held after : HeldLog) (answer : Answer) → Does move held after answer → HasWhole held.log → Keeps move →
    messages_held after.log ≡ messages_held held.log
held_keeps move held after answer does has keeps =
    let log : WholeLog = of_whole held has.whole in
    let done = does.on log (record { source_is = refl; whole = has.stands; recovery_is = refl }) in
    (messages_count after.log).on (move log).after.whole done.1.whole ∙ keeps log ∙ sym ((messages_count held.log).on has.whole has.stands)

pub held_takes : (timeout : ℕ) (request : Option LogRequest) (now : ℕ) (message : List ℕ) (held after : HeldLog) (answer : Answer) →
    Does (offer_under timeout request now message) held after answer → HasWhole held.log →
    messages_held after.log ≡ messages_held held.log + taken_by answer
held_takes timeout request now message held after answer does has =
    let log : WholeLog = of_whole held has.whole in
    let move = offer_under timeout request now message in
    let done = does.on log (record { source_is = refl; whole = has.stands; recovery_is = refl }) in
    let new = (messages_count after.log).on (move log).after.whole done.1.whole in
    let old = (messages_count held.log).on has.whole has.stands in
    let takes = under_takes timeout request now message log in
    let same : taken_by answer ≡ taken_by (move log).answer = ap taken_by done.0 in
    omega (arith, new, old, takes, same)

pub rejoined_keeps : (subscriptions : List ℕ) (log : AnyLog) → messages_held (rejoined_held subscriptions log) ≡ messages_held log
unfolding rejoined_kept
rejoined_keeps subscriptions (Term log) = refl
rejoined_keeps subscriptions (Image log) = refl
