-- Offers, polls, turns of the sender, status messages, NAKs and looks at counters by any registry that a run went through, on the
-- logs that are open at its end. Own rules.
use Rattle.log_traffic.specs.Asking.{reply_by}
use Rattle.channel_uri.specs.declared.address.Address.{Address}
use Rattle.destinations.specs.declared.destination.Destination.{Destination}
use Rattle.destinations.specs.Destinations.{of}
use Rattle.driver_core.specs.declared.asked.send_request.Outlet.{Outlet}
use Rattle.driver_core.specs.SendRequests.{is_sent, learnt_outlet, outlet_of, sending_of}
use Rattle.learnt_addresses.specs.declared.learnt_address.LearntAddress.{LearntAddress}
use Rattle.stream_registry.specs.Places.{is_dynamic}
use Rattle.driver_laws.specs.ListingLaws.{LooksExactly}
use Rattle.driver_laws.specs.StepActs.{LearntIsDecidedBy, OutletIsDecidedBy, join_question, join_verdict, offer_question, offer_verdict, poll_question, poll_verdict, resend_question, resend_verdict}
use Rattle.log_steps.specs.Sending.{expired, pace_of, standing_of}
use Rattle.log_traffic.specs.Cutting.{cut_of, datagram_of}
use Rattle.stream_registry.specs.declared.row.LogRow.{LogRow}
use Rattle.stream_registry.specs.Origins.{lingering_since}
use Rattle.std.specs.Option.{is_some}
use Rattle.std.specs.Prelude.{Ok, map, ◌≡◌, ℕ, not, nat_lt, true, false, List, length, take, Some, None, if◌then◌else◌}
use Rattle.log_traffic.specs.Whole.{position_in, whole}
use Rattle.driver_core.specs.declared.state.peer.Peer.{Peer}
use Rattle.driver_core.specs.declared.state.settings.Settings.{Settings}
use Rattle.driver_core.specs.Conduct.{state_of}
use Rattle.driver_core.specs.Listing.{list, value}
use Rattle.driver_core.specs.LogRequests.{has_pair, registration_at}
use Rattle.driver_core.specs.Renewal.{source_at, subscription_at}
use Rattle.driver_core.specs.Soundness.{AreSettings}
use Rattle.driver_core.specs.State.{State, opened}
use Rattle.driver_core.specs.Verdicts.{IsByPolicy}
use Rattle.log_steps.specs.declared.answer.Answer.{Answer}
use Rattle.log_steps.specs.declared.answer.Answer.TheVariants.{Offered as OfferedAs, Denied, Dropped, Gone as IsGone, Idle, Resent, Sent}
use Rattle.log_steps.specs.declared.answer.Offered.TheVariants.{Closed, TooLong, NotConnected}
use Rattle.driver_steps.specs.declared.step.Step.TheVariants.{List as Lists, Offer, Packet, Poll, Send, Value}
use Rattle.log_steps.specs.Answers.{answer_listed, answer_shown}
use Rattle.driver_steps.specs.Ends.{log_at, Moved, moved_by, opening_end, RunEnd, with_log}
use Rattle.driver_steps.specs.Laws.{AsksToOffer, AsksToPoll, OfferRequest, PollRequest, given_by_log, stays, taken_by_log, taken_from}
use Rattle.driver_steps.specs.JoinLaws.{moved_by_log}
use Rattle.log_steps.specs.Moves.{WholeLog, answered}
use Rattle.driver_steps.specs.Runs.{Reading, AreAnswers, end_of}
use Rattle.driver_core.specs.declared.asked.image_request.Astray.TheVariants.{NoStream}
use Rattle.driver_core.specs.PublicationRequests.{publication_at}
use Rattle.log_steps.specs.declared.cause.Cause.TheVariants.{Astray, Denied as DeniedFor, Full as IsFull}
use Rattle.log_steps.specs.Hearing.{answer_asked, heard_move, with_learnt}
use Rattle.log_steps.specs.Receiving.{unheard}
use Rattle.frame_codec.specs.declared.nak.Nak.{Nak}
use Rattle.frame_codec.specs.declared.status_message.StatusMessage.{StatusMessage}
use Rattle.frame_codec.specs.Datagram.{nak, status, packet_of}
use Rattle.learnt_addresses.specs.declared.learning.Learning.TheVariants.{Full}
use Rattle.learnt_addresses.specs.LearntAddresses.{forgotten, learning, learnt}
use Rattle.policy_core.specs.RuleList.{Rules}
use Rattle.log_traffic.specs.Resending.{asking_in, gate_after}
use Rattle.retransmit_gate.specs.ResendLaws.{answer_to}
use Rattle.stream_registry.specs.declared.row.Subscription.{Subscription}
use Rattle.term_log.specs.Log.{greatest_message}
use Rattle.term_log.specs.Whole.{Whole, is_connected}

-- registry k of a run: what the first k events that it took make of the opened one
abbrev pub registry_in : Settings → Rules → List Peer → List Reading → List Answer → ℕ → State
registry_in settings policy peers readings answers k =
    state_of (opened settings policy peers) (take k (taken_from (opening_end settings policy peers) readings answers))

-- whatever happened since a driver was opened with sound settings, and whichever registry of that run one looks at
abbrev pub AtEachRegistry : (State → RunEnd → Type 0) → Type 0
AtEachRegistry P =
    (settings : Settings) (policy : Rules) (peers : List Peer) (readings : List Reading) (answers : List Answer) (k : ℕ) →
    AreSettings settings → AreAnswers (opening_end settings policy peers) readings answers →
    P (registry_in settings policy peers readings answers k) (end_of (opening_end settings policy peers) readings answers)

-- an allowed offer: too long, to nobody, or taken as the log can
abbrev pub let_through_seen : State → RunEnd → ℕ → List ℕ → WholeLog → Whole → Moved
let_through_seen s e now message log frames =
    if nat_lt (greatest_message frames.ident) (length message) then stays e (OfferedAs TooLong)
    else if not (is_connected frames now s.settings.connection_timeout) then stays e (OfferedAs NotConnected)
    else taken_by_log e message log frames

-- The verdict of that registry's policy decides: the offer goes on to the log exactly where it allows it, and else names it.
pub record OfferIsDecidedBy (s : State) (e : RunEnd) (now : ℕ) (message : List ℕ) (request : OfferRequest) (log : WholeLog) (frames : Whole)
    (what : Moved) : Type 0 where
  pub by : IsByPolicy s (offer_question request) (offer_verdict s request)
  pub granted : (offer_verdict s request).allow ≡ true → what ≡ let_through_seen s e now message log frames
  pub denied : (offer_verdict s request).allow ≡ false → what ≡ stays e (Denied (offer_verdict s request))

-- a registration that it has is with a publication, whose log, where it is still open, is one of frames that were appended
pub record OffersAreDecidedBy (s : State) (e : RunEnd) : Type 0 where
  pub there :
      (now handle number : ℕ) (message : List ℕ) (request : OfferRequest) (log : WholeLog) →
      AsksToOffer s handle number request → log_at e.logs request.publication.number ≡ Some log →
      (frames : Whole)
      × (log.whole ≡ whole frames)
      × OfferIsDecidedBy s e now message request log frames (moved_by s e (Offer now handle number message))
  pub closed :
      (now handle number : ℕ) (message : List ℕ) (request : OfferRequest) →
      AsksToOffer s handle number request → log_at e.logs request.publication.number ≡ None →
      moved_by s e (Offer now handle number message) ≡ stays e (OfferedAs Closed)
  pub unregistered :
      (now handle number : ℕ) (message : List ℕ) → registration_at s.streams.registrations handle number ≡ None →
      moved_by s e (Offer now handle number message) ≡ stays e (OfferedAs Closed)

abbrev pub OffersByAnyRegistryAreGrantedExactly : Type 0
OffersByAnyRegistryAreGrantedExactly = AtEachRegistry OffersAreDecidedBy

-- the verdict of that registry's policy decides: the fragments from where the subscription stands are given exactly where it
-- allows it
pub record PollIsDecidedBy (s : State) (e : RunEnd) (number limit : ℕ) (request : PollRequest) (log : WholeLog) (what : Moved) : Type 0 where
  pub by : IsByPolicy s (poll_question request) (poll_verdict s request)
  pub granted : (poll_verdict s request).allow ≡ true → what ≡ given_by_log e number limit log
  pub denied : (poll_verdict s request).allow ≡ false → what ≡ stays e (Denied (poll_verdict s request))

-- where the subscription of that registry has a position in the log, which it may have lost since
pub record PollsAreDecidedBy (s : State) (e : RunEnd) : Type 0 where
  pub there :
      (now handle number source limit at : ℕ) (request : PollRequest) (log : WholeLog) →
      AsksToPoll s handle number source request → log_at e.logs source ≡ Some log → position_in log.whole number ≡ Some at →
      PollIsDecidedBy s e number limit request log (moved_by s e (Poll now handle number source limit))
  pub unread_now :
      (now handle number source limit : ℕ) (log : WholeLog) →
      log_at e.logs source ≡ Some log → position_in log.whole number ≡ None →
      moved_by s e (Poll now handle number source limit) ≡ stays e IsGone
  pub closed :
      (now handle number source limit : ℕ) → log_at e.logs source ≡ None →
      moved_by s e (Poll now handle number source limit) ≡ stays e IsGone
  pub unread :
      (now handle number source limit : ℕ) → has_pair s source number ≡ false →
      moved_by s e (Poll now handle number source limit) ≡ stays e IsGone
  pub foreign :
      (now handle number source limit : ℕ) (subscription : Subscription) →
      subscription_at s.streams.subscriptions number ≡ Some subscription → ¬ (subscription.client ≡ handle) →
      moved_by s e (Poll now handle number source limit) ≡ stays e IsGone

abbrev pub PollsByAnyRegistryAreGrantedExactly : Type 0
PollsByAnyRegistryAreGrantedExactly = AtEachRegistry PollsAreDecidedBy

-- ---- a turn of the sender

-- the log moves on by what was cut, whoever gets it, and no other log is changed
abbrev pub cut_by_log_seen : State → RunEnd → ℕ → WholeLog → Whole → List ℕ → List Outlet → Moved
cut_by_log_seen s e now log frames bytes outlets = record {
  after = record e {
    logs = with_log e.logs log.source (record (expired s.settings now log) { whole = whole (cut_of (pace_of s.settings) now frames) });
  };
  answer = Sent bytes outlets;
}

-- addresses of which nothing was heard for longer than that registry's timeout are forgotten, and no other log is changed
abbrev pub idle_by_log_seen : State → RunEnd → ℕ → WholeLog → Moved
idle_by_log_seen s e now log = record {
  after = record e { logs = with_log e.logs log.source (expired s.settings now log) };
  answer = Idle;
}

-- The datagram that is due, for each destination that the publication has by that registry, in the order in which they were named,
-- or for each address that the log has learnt and that is not past that registry's timeout, in the order in which they were
-- learnt; and for each of these what that registry's policy says.
pub record SendIsDecidedBy (s : State) (e : RunEnd) (now : ℕ) (publication : LogRow) (log : WholeLog) (frames : Whole) (what : Moved) : Type 0 where
  pub outlets : List Outlet
  pub named :
      is_dynamic publication.channel ≡ false →
      outlets ≡ map (outlet_of s publication) (of s.destinations.rows publication.number)
  pub learnt :
      is_dynamic publication.channel ≡ true → outlets ≡ map (learnt_outlet s publication) (standing_of s.settings now log)
  pub decided :
      (destination : Destination) → OutletIsDecidedBy s publication destination (outlet_of s publication destination)
  pub decided_learnt : (address : LearntAddress) → LearntIsDecidedBy s publication address (learnt_outlet s publication address)
  pub idle :
      datagram_of (pace_of s.settings) now (is_some (lingering_since publication)) frames ≡ None →
      what ≡ idle_by_log_seen s e now log
  pub sent :
      (bytes : List ℕ) → datagram_of (pace_of s.settings) now (is_some (lingering_since publication)) frames ≡ Some bytes →
      what ≡ cut_by_log_seen s e now log frames bytes outlets

pub record SendsAreDecidedBy (s : State) (e : RunEnd) : Type 0 where
  pub there :
      (now source : ℕ) (publication : LogRow) (log : WholeLog) →
      source_at s.streams.sources source ≡ Some publication → is_sent publication ≡ true → log_at e.logs source ≡ Some log →
      (frames : Whole)
      × (log.whole ≡ whole frames)
      × SendIsDecidedBy s e now publication log frames (moved_by s e (Send now source))
  pub closed : (now source : ℕ) → log_at e.logs source ≡ None → moved_by s e (Send now source) ≡ stays e IsGone
  pub gone : (now source : ℕ) → sending_of s source ≡ None → moved_by s e (Send now source) ≡ stays e IsGone

abbrev pub SendsByAnyRegistryAreGrantedExactly : Type 0
SendsByAnyRegistryAreGrantedExactly = AtEachRegistry SendsAreDecidedBy

-- ---- a status message

-- The verdict of that registry's policy on the address from which it came decides: denied, the address is forgotten; allowed, where
-- there is no room for it nothing is changed, and else it is learnt, or heard of again, and then the log hears the message.
pub record JoinIsDecidedBy (s : State) (e : RunEnd) (now : ℕ) (from : Address) (fields : StatusMessage) (publication : LogRow)
    (log : WholeLog) (what : Moved) : Type 0 where
  pub by : IsByPolicy s (join_question s from publication) (join_verdict s from publication)
  pub denied :
      (join_verdict s from publication).allow ≡ false →
      what
      ≡ moved_by_log e log
      (answered (with_learnt (forgotten from log.recovery.learnt) log) (Dropped (DeniedFor (join_verdict s from publication))))
  pub full :
      (join_verdict s from publication).allow ≡ true → learning log.recovery.learnt from ≡ Full →
      what ≡ stays e (Dropped IsFull)
  pub joined :
      (join_verdict s from publication).allow ≡ true → ¬ (learning log.recovery.learnt from ≡ Full) →
      what ≡ moved_by_log e log (heard_move now fields (with_learnt (learnt now from log.recovery.learnt) log))

-- of the publication that has the message's session and stream in that registry; where its destinations are named, the log
-- hears the message, and no policy is asked
pub record JoinsAreDecidedBy (s : State) (e : RunEnd) : Type 0 where
  pub there :
      (now : ℕ) (local from : Address) (bytes : List ℕ) (fields : StatusMessage) (publication : LogRow) (log : WholeLog) →
      packet_of bytes ≡ Ok (status fields) → publication_at s fields.session_id fields.stream_id ≡ Some publication →
      is_dynamic publication.channel ≡ true → log_at e.logs publication.number ≡ Some log →
      JoinIsDecidedBy s e now from fields publication log (moved_by s e (Packet now local from bytes))
  pub named :
      (now : ℕ) (local from : Address) (bytes : List ℕ) (fields : StatusMessage) (publication : LogRow) (log : WholeLog) →
      packet_of bytes ≡ Ok (status fields) → publication_at s fields.session_id fields.stream_id ≡ Some publication →
      is_dynamic publication.channel ≡ false → log_at e.logs publication.number ≡ Some log →
      moved_by s e (Packet now local from bytes) ≡ moved_by_log e log (heard_move now fields log)
  pub closed :
      (now : ℕ) (local from : Address) (bytes : List ℕ) (fields : StatusMessage) (publication : LogRow) →
      packet_of bytes ≡ Ok (status fields) → publication_at s fields.session_id fields.stream_id ≡ Some publication →
      log_at e.logs publication.number ≡ None → moved_by s e (Packet now local from bytes) ≡ stays e unheard
  pub nobody :
      (now : ℕ) (local from : Address) (bytes : List ℕ) (fields : StatusMessage) →
      packet_of bytes ≡ Ok (status fields) → publication_at s fields.session_id fields.stream_id ≡ None →
      moved_by s e (Packet now local from bytes) ≡ stays e (Dropped (Astray NoStream))

abbrev pub JoinsByAnyRegistryAreGrantedExactly : Type 0
JoinsByAnyRegistryAreGrantedExactly = AtEachRegistry JoinsAreDecidedBy

-- ---- a NAK

-- what the log's gate says of it: it is sent again to who asks, or it is said why not; the gate keeps what it granted
abbrev pub asked_of_log : RunEnd → ℕ → Address → Nak → WholeLog → Whole → Moved
asked_of_log e now from fields log frames = record {
  after = record e {
    logs = with_log e.logs log.source (record log {
      recovery = record log.recovery { gate = gate_after true log.recovery.gate (asking_in now frames fields) };
    });
  };
  answer = answer_asked from (Some (reply_by fields frames (answer_to log.recovery.gate (asking_in now frames fields))));
}

-- the verdict of that registry's policy on who asks decides: the NAK goes on to the log's gate exactly where it allows it
pub record NakIsDecidedBy (s : State) (e : RunEnd) (now : ℕ) (from : Address) (fields : Nak) (publication : LogRow) (log : WholeLog)
    (frames : Whole) (what : Moved) : Type 0 where
  pub by : IsByPolicy s (resend_question s from publication) (resend_verdict s from publication)
  pub granted : (resend_verdict s from publication).allow ≡ true → what ≡ asked_of_log e now from fields log frames
  pub denied :
      (resend_verdict s from publication).allow ≡ false →
      what ≡ stays e (Dropped (DeniedFor (resend_verdict s from publication)))

-- of the publication that has the NAK's session and stream in that registry; nothing else is sent again
pub record NaksAreDecidedBy (s : State) (e : RunEnd) : Type 0 where
  pub there :
      (now : ℕ) (local from : Address) (bytes : List ℕ) (fields : Nak) (publication : LogRow) (log : WholeLog) →
      packet_of bytes ≡ Ok (nak fields) → publication_at s fields.session_id fields.stream_id ≡ Some publication →
      log_at e.logs publication.number ≡ Some log →
      (frames : Whole)
      × (log.whole ≡ whole frames)
      × NakIsDecidedBy s e now from fields publication log frames (moved_by s e (Packet now local from bytes))
  pub closed :
      (now : ℕ) (local from : Address) (bytes : List ℕ) (fields : Nak) (publication : LogRow) →
      packet_of bytes ≡ Ok (nak fields) → publication_at s fields.session_id fields.stream_id ≡ Some publication →
      log_at e.logs publication.number ≡ None → moved_by s e (Packet now local from bytes) ≡ stays e unheard
  pub nobody :
      (now : ℕ) (local from : Address) (bytes : List ℕ) (fields : Nak) →
      packet_of bytes ≡ Ok (nak fields) → publication_at s fields.session_id fields.stream_id ≡ None →
      moved_by s e (Packet now local from bytes) ≡ stays e (Dropped (Astray NoStream))
  pub only :
      (now : ℕ) (local from to : Address) (bytes : List ℕ) (datagrams : List (List ℕ)) →
      Resent to datagrams ≡ (moved_by s e (Packet now local from bytes)).answer →
      (fields : Nak) × (packet_of bytes ≡ Ok (nak fields)) × (to ≡ from)

abbrev pub NaksByAnyRegistryAreGrantedExactly : Type 0
NaksByAnyRegistryAreGrantedExactly = AtEachRegistry NaksAreDecidedBy

-- ---- a look at counters

-- A client of that registry is listed exactly what its policy shows, and answered a value exactly where it shows that one, else by
-- what it is denied; nothing is changed.
pub record LooksAreDecidedBy (s : State) (e : RunEnd) : Type 0 where
  pub lists : (now handle : ℕ) → moved_by s e (Lists now handle) ≡ stays e (answer_listed (list s handle))
  pub values :
      (now handle number : ℕ) → moved_by s e (Value now handle number) ≡ stays e (answer_shown (value s handle number))
  pub exactly : (handle : ℕ) → LooksExactly s handle

abbrev pub LooksByAnyRegistryAreShownExactly : Type 0
LooksByAnyRegistryAreShownExactly = AtEachRegistry LooksAreDecidedBy
