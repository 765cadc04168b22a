-- What holds at the end of every run, of the offers and polls there, and of the bytes that a poll gives.
use Rattle.std.specs.Prelude.{◌≡◌, ℕ, ◌+◌, ◌==◌, ◌&&◌, not, nat_lt, true, false, List, [], ◌∷◌, ◌++◌, length, map, All, Contains, Option, Some, None, Result, Ok, if◌then◌else◌}
use Rattle.log_traffic.specs.Held.{Made}
use Rattle.log_traffic.specs.Whole.{AnyWhole, whole, rebuilt, made_for as made_any, polled, readers_in}
use Rattle.image_log.specs.Polling.{polled as image_polled, polled_frame, whole_from}
use Rattle.image_log.specs.Rebuilt.{Rebuilt}
use Rattle.driver_core.specs.declared.state.event.Event.{Event}
use Rattle.driver_core.specs.declared.state.event.Event.TheVariants.{Setup as SetUp}
use Rattle.driver_core.specs.declared.state.event.Inputs.{Inputs}
use Rattle.driver_core.specs.declared.asked.log_request.LogRequest.{LogRequest}
use Rattle.driver_core.specs.declared.state.peer.Peer.{Peer}
use Rattle.driver_core.specs.declared.state.settings.Settings.{Settings}
use Rattle.driver_core.specs.Conduct.{outcome_of, state_of}
use Rattle.driver_core.specs.Listing.{list, value}
use Rattle.driver_core.specs.LogRequests.{offering_of, registration_at, has_pair}
use Rattle.driver_core.specs.Looking.{IsAtItsMoment}
use Rattle.driver_core.specs.Pairs.{pairs_of}
use Rattle.driver_core.specs.Renewal.{source_at, subscription_at}
use Rattle.driver_core.specs.Soundness.{AreSettings}
use Rattle.driver_core.specs.State.{State, opened}
use Rattle.driver_core.specs.Verdicts.{IsByPolicy}
use Rattle.log_steps.specs.declared.answer.Answer.{Answer}
use Rattle.log_steps.specs.declared.answer.Answer.TheVariants.{NoMemory, Offered as OfferedAs, Polled, Gone as IsGone, Denied}
use Rattle.log_steps.specs.declared.answer.Offered.TheVariants.{At, Closed, TooLong, NotConnected}
use Rattle.driver_steps.specs.declared.step.Step.{Step}
use Rattle.driver_steps.specs.declared.step.Step.TheVariants.{Conductor, Packet, Offer, Poll, Send, Image, List as Lists, Value}
use Rattle.log_steps.specs.Answers.{answer_of, answer_listed, answer_shown, offered_as}
use Rattle.driver_steps.specs.Ends.{RunEnd, Moved, opening_end, inputs_of, log_at, with_log, moved, IsAnswer}
use Rattle.driver_steps.specs.Runs.{Reading, AreAnswers, IsAnswerTo, end_of, left_by, read_by}
use Rattle.driver_core.specs.Readers.{readers_of}
use Rattle.log_steps.specs.Idents.{made_of}
use Rattle.log_steps.specs.Moves.{WholeLog}
use Rattle.channel_uri.specs.declared.address.Address.{Address}
use Rattle.client_registry.specs.declared.client.Client.{Client}
use Rattle.frame_codec.specs.declared.fault.BadPacket.{BadPacket}
use Rattle.frame_codec.specs.Datagram.{Content, setup, packet_of}
use Rattle.client_registry.specs.Clients.{client_at}
use Rattle.policy_core.specs.declared.act.Act.TheVariants.{Offer as ToOffer, Receive}
use Rattle.policy_core.specs.declared.verdict.Verdict.{Verdict}
use Rattle.policy_core.specs.Question.{Question}
use Rattle.policy_core.specs.RuleList.{Rules}
use Rattle.policy_core.specs.Rules.{verdict_of}
use Rattle.stream_registry.specs.declared.row.LogRow.{LogRow}
use Rattle.stream_registry.specs.declared.row.Registration.{Registration}
use Rattle.stream_registry.specs.declared.row.Subscription.{Subscription}
use Rattle.stream_registry.specs.PageLaws.{IsLaidOut}
use Rattle.term_log.specs.Cut.{cut}
use Rattle.term_log.specs.Frames.{Frame, fragment, total}
use Rattle.term_log.specs.Ident.{payload_length}
use Rattle.term_log.specs.Log.{greatest_message}
use Rattle.log_pairs.specs.Pairs.{position_of}
use Rattle.log_pairs.specs.Polling.{Fetched, behind, fragments_of, passed}
use Rattle.term_log.specs.Polling.{polled_run}
use Rattle.term_log.specs.Whole.{Whole, answer_to, is_connected, offered, polled as term_polled}

-- whatever happened since a driver was opened with sound settings
abbrev pub AtEachEnd : (RunEnd → Type 0) → Type 0
AtEachEnd P =
    (settings : Settings) (policy : Rules) (peers : List Peer) (readings : List Reading) (answers : List Answer) →
    AreSettings settings → AreAnswers (opening_end settings policy peers) readings answers →
    P (end_of (opening_end settings policy peers) readings answers)

-- ---- the registry of a run

abbrev pub event_at : RunEnd → Event → List (Event × Inputs)
event_at e event = (event, inputs_of e.registry event e.logs) ∷ []

-- that of a SETUP
abbrev pub event_in : RunEnd → ℕ → Address → Address → Result Content BadPacket → List (Event × Inputs)
event_in e now local from (Ok (setup fields)) = event_at e (SetUp now local from fields)
event_in e now local from read = []

-- the event of a step of the conductor, with what the logs say at it
abbrev pub event_of : RunEnd → Step → List (Event × Inputs)
event_of e (Conductor event) = event_at e event
event_of e (Packet now local from bytes) = event_in e now local from (packet_of bytes)
event_of e (Offer now client registration message) = []
event_of e (Poll now client subscription source limit) = []
event_of e (Send now source) = []
event_of e (Image now source) = []
event_of e (Lists now client) = []
event_of e (Value now client number) = []

-- the events that a run took: those of the conductor's steps that were not refused memory
abbrev pub taken_at : List (Event × Inputs) → Answer → List (Event × Inputs)
taken_at events NoMemory = []
taken_at events answer = events

abbrev pub taken_by : RunEnd → Step → Answer → List (Event × Inputs)
taken_by e step answer = taken_at (event_of e step) answer

abbrev pub taken_from : RunEnd → List Reading → List Answer → List (Event × Inputs)
taken_from e [] answers = []
taken_from e (reading ∷ readings) [] = []
taken_from e (reading ∷ readings) (answer ∷ answers) =
    taken_by e reading.step answer ++ taken_from (left_by e reading answer) readings answers

-- the registry after the events that a run took
abbrev pub registry_of : Settings → Rules → List Peer → List Reading → List Answer → State
registry_of settings policy peers readings answers =
    state_of (opened settings policy peers) (taken_from (opening_end settings policy peers) readings answers)

-- whoever is not refused memory is answered that
abbrev pub IsTold : Answer → Answer → Type 0
IsTold NoMemory told = Unit {0}
IsTold answer told = answer ≡ told

-- the run leaves that registry; and what comes next is answered by it, where it is not refused memory: an event by its
-- outcome, and a look by what is there to be seen
pub record TakesEvents (e : RunEnd) (s : State) : Type 0 where
  pub leaves : e.registry ≡ s
  pub tells :
      (event : Event) (answer : Answer) → IsAnswer e (Conductor event) answer →
      IsTold answer (answer_of (outcome_of s event (inputs_of e.registry event e.logs)))
  pub lists :
      (now client : ℕ) (answer : Answer) → IsAnswer e (Lists now client) answer →
      IsTold answer (answer_listed (list s client))
  pub values :
      (now client number : ℕ) (answer : Answer) → IsAnswer e (Value now client number) answer →
      IsTold answer (answer_shown (value s client number))

-- what is said of all lists of events holds of runs
abbrev pub RunsTakeEvents : Type 0
RunsTakeEvents =
    (settings : Settings) (policy : Rules) (peers : List Peer) (readings : List Reading) (answers : List Answer) →
    TakesEvents (end_of (opening_end settings policy peers) readings answers)
    (registry_of settings policy peers readings answers)

-- the policy in force is what its text makes of it at the registry's moment, and so is what it becomes later
abbrev pub PoliciesStandAtTheirMoment : Type 0
PoliciesStandAtTheirMoment = AtEachEnd (λ e. IsAtItsMoment e.registry)

-- ---- the logs of a run

-- a log by its number, and what it is made for
abbrev pub made_for : WholeLog → ℕ × Made
made_for log = (log.source, made_any log.whole)

abbrev pub made_as : Settings → LogRow → ℕ × Made
made_as settings log = (log.number, made_of settings log)

-- each live source has its log, in the same order; no two of them share a page; and exactly those subscriptions read
-- it that the registry says
pub record LogsFollow (e : RunEnd) : Type 0 where
  pub made :
      map made_for e.logs
      ≡ map (made_as e.registry.settings) e.registry.streams.sources
  pub apart : IsLaidOut e.registry.settings.arena_pages e.registry.streams
  pub read :
      All (λ log. readers_in log.whole ≡ readers_of (pairs_of e.registry) log.source) e.logs

abbrev pub LogsFollowTheRegistry : Type 0
LogsFollowTheRegistry = AtEachEnd LogsFollow

-- ---- an offer

-- who offers, by which registration, with which publication
pub record OfferRequest : Type 0 where
  pub client : Client
  pub registration : Registration
  pub publication : LogRow

pub record AsksToOffer (s : State) (handle number : ℕ) (request : OfferRequest) : Type 0 where
  pub client_is : client_at s.clients.rows handle ≡ Some request.client
  pub registration_is : registration_at s.streams.registrations handle number ≡ Some request.registration
  pub publication_is : source_at s.streams.sources request.registration.source ≡ Some request.publication

-- whether the client may put messages into the log, on the registration's own channel and the log's stream
abbrev pub offer_question : OfferRequest → Question
offer_question request = record {
  principal = request.client.principal;
  act = ToOffer;
  channel = request.registration.channel;
  stream = request.publication.stream;
}

abbrev pub offer_verdict : State → OfferRequest → Verdict
offer_verdict s request = verdict_of s.policy s.epoch (offer_question request)

-- nothing is changed
abbrev pub stays : RunEnd → Answer → Moved
stays e answer = record { after = e; answer = answer }

-- the log of these frames takes the message as it can, and no other log is changed
abbrev pub taken_by_log : RunEnd → List ℕ → WholeLog → Whole → Moved
taken_by_log e message log frames = record {
  after = record e { logs = with_log e.logs log.source (record log { whole = whole (offered frames message) }) };
  answer = OfferedAs (offered_as (answer_to frames message));
}

-- an allowed offer: too long, to nobody, or taken as the log can
abbrev pub let_through : RunEnd → ℕ → List ℕ → WholeLog → Whole → Moved
let_through e now message log frames =
    if nat_lt (greatest_message frames.ident) (length message) then stays e (OfferedAs TooLong)
    else if not (is_connected frames now e.registry.settings.connection_timeout) then stays e (OfferedAs NotConnected)
    else taken_by_log e message log frames

-- The verdict decides, which is the first matching rule's or the default's: the offer goes on to the log exactly where it
-- allows it, and else names it.
pub record OfferIsDecided (e : RunEnd) (now : ℕ) (message : List ℕ) (request : OfferRequest) (log : WholeLog) (frames : Whole) (what : Moved) : Type 0 where
  pub by : IsByPolicy e.registry (offer_question request) (offer_verdict e.registry request)
  pub granted : (offer_verdict e.registry request).allow ≡ true → what ≡ let_through e now message log frames
  pub denied :
      (offer_verdict e.registry request).allow ≡ false → what ≡ stays e (Denied (offer_verdict e.registry request))

-- the log of a publication is one of frames that were appended
pub record OffersAreDecided (e : RunEnd) : Type 0 where
  pub there :
      (now handle number : ℕ) (message : List ℕ) (request : OfferRequest) (log : WholeLog) →
      AsksToOffer e.registry handle number request → log_at e.logs request.publication.number ≡ Some log →
      (frames : Whole)
      × (log.whole ≡ whole frames)
      × OfferIsDecided e now message request log frames (moved e (Offer now handle number message))
  pub unregistered :
      (now handle number : ℕ) (message : List ℕ) → registration_at e.registry.streams.registrations handle number ≡ None →
      moved e (Offer now handle number message) ≡ stays e (OfferedAs Closed)

abbrev pub OffersAreGrantedExactly : Type 0
OffersAreGrantedExactly = AtEachEnd OffersAreDecided

-- ---- a poll

pub record PollRequest : Type 0 where
  pub client : Client
  pub subscription : Subscription

-- the subscription is the client's own, and reads the log of that source
pub record AsksToPoll (s : State) (handle number source : ℕ) (request : PollRequest) : Type 0 where
  pub client_is : client_at s.clients.rows handle ≡ Some request.client
  pub subscription_is : subscription_at s.streams.subscriptions number ≡ Some request.subscription
  pub own : request.subscription.client ≡ handle
  pub reads : has_pair s source number ≡ true

-- whether the client may have messages, on the subscription's channel and stream
abbrev pub poll_question : PollRequest → Question
poll_question request = record {
  principal = request.client.principal;
  act = Receive;
  channel = request.subscription.channel;
  stream = request.subscription.stream;
}

abbrev pub poll_verdict : State → PollRequest → Verdict
poll_verdict s request = verdict_of s.policy s.epoch (poll_question request)

-- the fragments from where the subscription stands are given, and it moves on in that log
abbrev pub given_by_log : RunEnd → ℕ → ℕ → WholeLog → Moved
given_by_log e number limit log = record {
  after = record e { logs = with_log e.logs log.source (record log { whole = (polled log.whole number limit).after }) };
  answer = Polled (polled log.whole number limit).fragments;
}

pub record PollIsDecided (e : RunEnd) (number limit : ℕ) (request : PollRequest) (log : WholeLog) (what : Moved) : Type 0 where
  pub by : IsByPolicy e.registry (poll_question request) (poll_verdict e.registry request)
  pub granted : (poll_verdict e.registry request).allow ≡ true → what ≡ given_by_log e number limit log
  pub denied :
      (poll_verdict e.registry request).allow ≡ false → what ≡ stays e (Denied (poll_verdict e.registry request))

pub record PollsAreDecided (e : RunEnd) : Type 0 where
  pub there :
      (now handle number source limit : ℕ) (request : PollRequest) (log : WholeLog) →
      AsksToPoll e.registry handle number source request → log_at e.logs source ≡ Some log →
      PollIsDecided e number limit request log (moved e (Poll now handle number source limit))
  pub unread :
      (now handle number source limit : ℕ) → has_pair e.registry source number ≡ false →
      moved e (Poll now handle number source limit) ≡ stays e IsGone
  pub foreign :
      (now handle number source limit : ℕ) (subscription : Subscription) →
      subscription_at e.registry.streams.subscriptions number ≡ Some subscription → ¬ (subscription.client ≡ handle) →
      moved e (Poll now handle number source limit) ≡ stays e IsGone

abbrev pub PollsAreGrantedExactly : Type 0
PollsAreGrantedExactly = AtEachEnd PollsAreDecided

-- ---- bytes only from the live log

-- the frames of a message that an allowed offer put into the log of that source
abbrev pub frames_for : AnyWhole → List ℕ → List Frame
frames_for (whole frames) message = cut (payload_length frames.ident) message
frames_for (rebuilt frames) message = []

abbrev pub frames_in : Option WholeLog → List ℕ → List Frame
frames_in None message = []
frames_in (Some log) message = frames_for log.whole message

abbrev pub put_into : RunEnd → ℕ → List ℕ → Option LogRequest → List Frame
put_into e source message None = []
put_into e source message (Some request) =
    if request.source == source && request.decision.verdict.allow then frames_in (log_at e.logs source) message else []

-- those of a step by that registry: an offer that its policy allows, and that was answered a position, has put its frames into
-- the log
abbrev pub granted_by : State → RunEnd → ℕ → Step → Answer → List Frame
granted_by s e source (Offer now client registration message) (OfferedAs (At position)) =
    put_into e source message (offering_of s client registration)
granted_by s e source step answer = []

-- and those of a run
abbrev pub granted_in : RunEnd → ℕ → List Reading → List Answer → List Frame
granted_in e source [] answers = []
granted_in e source (reading ∷ readings) [] = []
granted_in e source (reading ∷ readings) (answer ∷ answers) =
    granted_by (read_by e reading.older) e source reading.step answer
    ++ granted_in (left_by e reading answer) source readings answers

-- A poll of a publication's log: the frames go on from where the subscription stands, as many as it takes, until so many
-- fragments were given or there are no more. What they carry is given, in their order, each frame's once: pads carry
-- nothing, and the subscription stands after all of them then. Each fragment was put into the log by an offer that was
-- granted.
pub record AreNext (granted : List Frame) (subscription limit : ℕ) (given : List Fetched) (w : Whole) : Type 0 where
  pub at : ℕ
  pub before : List Frame
  pub next : List Frame
  pub left : List Frame
  pub stood : position_of w.pairs subscription ≡ Some at
  pub frames_are : w.frames ≡ before ++ (next ++ left)
  pub from : at ≡ w.ident.start + total before
  pub as_many : polled_run at next ≡ passed limit (polled_run at (next ++ left))
  pub given_are : given ≡ fragments_of (polled_run at next)
  pub stands : position_of (term_polled w subscription limit).after.pairs subscription ≡ Some (at + total next)
  pub offered : All (λ part. Contains granted (fragment part.flags part.payload)) given

-- a poll of a remote stream's log: the same, of the frames from there on up to where the stream is whole
pub record AreNextWhole (subscription limit : ℕ) (given : List Fetched) (r : Rebuilt) : Type 0 where
  pub at : ℕ
  pub stood : position_of r.pairs subscription ≡ Some at
  pub given_are : given ≡ fragments_of (passed limit (map polled_frame (whole_from r at)))
  pub stands :
      position_of (image_polled r subscription limit).after.pairs subscription
      ≡ Some (behind at (passed limit (map polled_frame (whole_from r at))))

abbrev pub AreNextIn : List Frame → ℕ → ℕ → List Fetched → AnyWhole → Type 0
AreNextIn granted subscription limit given (whole frames) = AreNext granted subscription limit given frames
AreNextIn granted subscription limit given (rebuilt frames) = AreNextWhole subscription limit given frames

-- what was polled comes from the log of that source, which is open
pub record ComeFromLog (e : RunEnd) (source subscription limit : ℕ) (granted : List Frame) (given : List Fetched) : Type 0 where
  pub log : WholeLog
  pub live : log_at e.logs source ≡ Some log
  pub next : AreNextIn granted subscription limit given log.whole

-- whichever registry the poll goes by
abbrev pub BytesComeFromTheLiveLog : Type 0
BytesComeFromTheLiveLog =
    (settings : Settings) (policy : Rules) (peers : List Peer) (readings : List Reading) (answers : List Answer)
    (older : Option State) (now client subscription source limit : ℕ) (fragments : List Fetched) →
    AreAnswers (opening_end settings policy peers) readings answers →
    IsAnswerTo (end_of (opening_end settings policy peers) readings answers)
    (record { older = older; step = Poll now client subscription source limit }) (Polled fragments) →
    ComeFromLog (end_of (opening_end settings policy peers) readings answers) source subscription limit
    (granted_in (opening_end settings policy peers) source readings answers) fragments
