-- What stands at the end of a run, its logs as whole lists of frames; what each step leaves, and what it is answered.
use Rattle.std.specs.Prelude.{◌≡◌, ℕ, Bool, false, List, [], ◌∷◌, ◌++◌, map, filter, find, max, not, ◌==◌, if◌then◌else◌, Option, Some, None, Result, Ok, Err}
use Rattle.log_traffic.specs.Whole.{is_silent_in, reach_of, rejoined}
use Rattle.driver_core.specs.Change.{Change}
use Rattle.driver_core.specs.declared.state.event.End.{End}
use Rattle.driver_core.specs.declared.state.event.Event.{Event}
use Rattle.driver_core.specs.declared.state.event.Event.TheVariants.{Setup as SetUp, Tick}
use Rattle.driver_core.specs.declared.state.event.Inputs.{Inputs}
use Rattle.driver_core.specs.declared.asked.image_request.Astray.{Astray}
use Rattle.driver_core.specs.declared.asked.image_request.Astray.TheVariants.{NoStream, Stranger}
use Rattle.driver_core.specs.declared.asked.log_request.LogRequest.{LogRequest}
use Rattle.driver_core.specs.declared.state.peer.Peer.{Peer}
use Rattle.driver_core.specs.declared.asked.publication_request.JoinRequest.{JoinRequest}
use Rattle.driver_core.specs.declared.state.settings.Settings.{Settings}
use Rattle.driver_core.specs.Conduct.{conduct}
use Rattle.driver_core.specs.ImageRequests.{image_for, image_named}
use Rattle.driver_core.specs.Listing.{list, value}
use Rattle.driver_core.specs.LogRequests.{offering_of}
use Rattle.driver_core.specs.Pairs.{pairs_of}
use Rattle.driver_core.specs.PublicationRequests.{joining_of, publisher_of, resending_of}
use Rattle.driver_core.specs.Renewal.{source_at}
use Rattle.driver_core.specs.State.{State, opened}
use Rattle.log_steps.specs.declared.answer.Answer.{Answer}
use Rattle.log_steps.specs.declared.answer.Answer.TheVariants.{Dropped, NoMemory, Offered as OfferedAs, Gone as IsGone}
use Rattle.log_steps.specs.declared.answer.Offered.TheVariants.{Closed}
use Rattle.log_steps.specs.declared.cause.Cause.{Cause}
use Rattle.log_steps.specs.declared.cause.Cause.TheVariants.{Astray as IsAstray, Unread}
use Rattle.driver_steps.specs.declared.step.Step.{Step}
use Rattle.driver_steps.specs.declared.step.Step.TheVariants.{Conductor, Packet, Offer, Poll, Send, Image, List as Lists, Value}
use Rattle.log_steps.specs.Answers.{answer_of, answer_listed, answer_shown}
use Rattle.driver_core.specs.Readers.{readers_of}
use Rattle.driver_steps.specs.OpenLogs.{is_closed}
use Rattle.log_steps.specs.Idents.{begins_of}
use Rattle.log_steps.specs.Moves.{WholeLog, Move, offer_move, poll_move}
use Rattle.log_steps.specs.Receiving.{beat_move, receive_move, unheard}
use Rattle.log_steps.specs.Recovery.{recovering}
use Rattle.log_steps.specs.Hearing.{nak_move, status_move}
use Rattle.log_steps.specs.Reporting.{report_move}
use Rattle.log_steps.specs.Sending.{send_move}
use Rattle.channel_uri.specs.declared.address.Address.{Address}
use Rattle.frame_codec.specs.declared.fault.BadPacket.{BadPacket}
use Rattle.frame_codec.specs.declared.header.TermPlace.{TermPlace}
use Rattle.frame_codec.specs.declared.nak.Nak.{Nak}
use Rattle.frame_codec.specs.declared.status_message.StatusMessage.{StatusMessage}
use Rattle.frame_codec.specs.Datagram.{Content, frames, beat, nak, status, setup, packet_of}
use Rattle.frame_codec.specs.Frame.{Sent}
use Rattle.policy_core.specs.RuleList.{Rules}
use Rattle.stream_registry.specs.declared.lingering.LogPlace.{LogPlace}
use Rattle.stream_registry.specs.declared.pairs.Pair.{Pair}
use Rattle.stream_registry.specs.declared.row.LogRow.{LogRow}

-- the registry, and the open logs in the order in which they were opened
pub record RunEnd : Type 0 where
  pub registry : State
  pub logs : List WholeLog

-- the end of the empty run
unfoldable pub opening_end : Settings → Rules → List Peer → RunEnd
opening_end settings policy peers = record { registry = opened settings policy peers; logs = [] }

-- what a step leaves, and what it is answered
pub record Moved : Type 0 where
  pub after : RunEnd
  pub answer : Answer

-- ---- the logs at an event

-- what the logs report to the conductor: how far each reaches
abbrev pub end_of_log : WholeLog → End
end_of_log log = record { source = log.source; position = reach_of log.whole }

-- at a tick, the images of which nothing was heard for longer than the liveness by the moment that it sets
abbrev pub is_silent_at : State → ℕ → WholeLog → Bool
is_silent_at s now log = is_silent_in log.whole (max s.moment now) s.settings.image_liveness

abbrev pub silent_of : State → Event → List WholeLog → List ℕ
silent_of s (Tick now) logs = map (λ log. log.source) (filter (is_silent_at s now) logs)
silent_of s event logs = []

abbrev pub inputs_of : State → Event → List WholeLog → Inputs
inputs_of s event logs = record { silent = silent_of s event logs; ends = map end_of_log logs }

-- a log without frames, made for what its row says
abbrev pub begun : State → Option LogRow → List WholeLog
begun s None = []
begun s (Some log) = record {
  source = log.number;
  whole = begins_of s.settings s.moment log;
  recovery = recovering s.settings;
} ∷ []

abbrev pub opened_for : State → Option LogPlace → List WholeLog
opened_for s None = []
opened_for s (Some place) = begun s (source_at s.streams.sources place.source)

abbrev pub stays_open : List LogPlace → WholeLog → Bool
stays_open closes log = not (is_closed closes log.source)

-- exactly the subscriptions of these pairs read the log: one that did from where it is, a new one from as far as it reaches
abbrev pub rejoined_log : List Pair → WholeLog → WholeLog
rejoined_log pairs log = record log { whole = rejoined (readers_of pairs log.source) log.whole }

-- the log that the event opens comes after the others, those go that it closes, and exactly the pairs read them
unfoldable pub logs_after : Change → List WholeLog → List WholeLog
logs_after change logs =
    map (rejoined_log (pairs_of change.after))
    (filter (stays_open change.outcome.closes) (logs ++ opened_for change.after change.outcome.opens))

-- ---- a step on one log

abbrev pub log_at : List WholeLog → ℕ → Option WholeLog
log_at logs source = find (λ log. log.source == source) logs

-- the first log of that source is another now
abbrev pub with_log : List WholeLog → ℕ → WholeLog → List WholeLog
with_log [] source log = []
with_log (first ∷ logs) source log =
    if first.source == source then log ∷ logs else first ∷ with_log logs source log

abbrev pub moved_on : RunEnd → ℕ → (WholeLog → Move) → Answer → Option WholeLog → Moved
moved_on e source move absent None = record { after = e; answer = absent }
moved_on e source move absent (Some log) = record {
  after = record e { logs = with_log e.logs source (move log).after };
  answer = (move log).answer;
}

-- the move of the log of that source; where it is not open, that answer
unfoldable pub on_log : RunEnd → ℕ → (WholeLog → Move) → Answer → Moved
on_log e source move absent = moved_on e source move absent (log_at e.logs source)

-- an offer goes to the log that the client's registration is with by that registry
abbrev pub on_offered : State → RunEnd → ℕ → ℕ → ℕ → List ℕ → Option LogRequest → Moved
on_offered s e now client registration message None = record { after = e; answer = OfferedAs Closed }
on_offered s e now client registration message (Some request) =
    on_log e request.source (offer_move s now client registration message) (OfferedAs Closed)

-- ---- an event

-- the conductor takes it
unfoldable pub conducted : RunEnd → Event → Moved
conducted e event =
    let change : Change = conduct e.registry event (inputs_of e.registry event e.logs) in
    record {
      after = record { registry = change.after; logs = logs_after change e.logs };
      answer = answer_of change.outcome;
    }

-- ---- a datagram

-- all stays as it was
abbrev pub dropped : RunEnd → Cause → Moved
dropped e cause = record { after = e; answer = Dropped cause }

-- the log of the image that it is for moves
abbrev pub on_image : RunEnd → (WholeLog → Move) → Result ℕ Astray → Moved
on_image e move (Ok source) = on_log e source move unheard
on_image e move (Err why) = dropped e (IsAstray why)

-- whether the image that the registry has there is the one that the newest has
abbrev pub is_same_image : Option ℕ → Option ℕ → Bool
is_same_image None newest = false
is_same_image (Some image) None = false
is_same_image (Some image) (Some other) = image == other

-- an image that is not there any more has no log, whoever sends to it
abbrev pub still_there : Bool → Result ℕ Astray → Result ℕ Astray → Result ℕ Astray
still_there there (Err NoStream) newest = Err NoStream
still_there there (Err Stranger) newest = if there then Err Stranger else Err NoStream
still_there there (Ok source) (Err why) = Err NoStream
still_there there (Ok source) (Ok other) = if source == other then Ok source else Err NoStream

-- by a registry and the newest: which image a datagram is for
abbrev pub image_between : State → State → Address → Address → TermPlace → Result ℕ Astray
image_between s newest local from place =
    still_there
    (is_same_image (image_named s local place.session_id place.stream_id)
    (image_named newest local place.session_id place.stream_id))
    (image_for s local from place.session_id place.stream_id)
    (image_for newest local from place.session_id place.stream_id)

abbrev pub image_by : State → RunEnd → Address → Address → TermPlace → Result ℕ Astray
image_by s e local from place = image_between s e.registry local from place

-- frames of one stream; there is one at least
abbrev pub on_frames : State → RunEnd → ℕ → Address → Address → List Sent → Moved
on_frames s e now local from [] = dropped e (IsAstray NoStream)
on_frames s e now local from (frame ∷ later) =
    on_image e (receive_move now (frame ∷ later)) (image_by s e local from frame.header.place)

-- a NAK goes to the log of its session and stream, on what the policy says of who asks
abbrev pub on_asked : RunEnd → ℕ → Address → Nak → Option LogRequest → Moved
on_asked e now from fields None = dropped e (IsAstray NoStream)
on_asked e now from fields (Some request) =
    on_log e request.source (nak_move now from request.decision fields) unheard

-- a status message goes to the log of its session and stream; where that learns its destinations, on what the policy says of who
-- sent it
abbrev pub on_told : RunEnd → ℕ → Address → StatusMessage → Option JoinRequest → Moved
on_told e now from fields None = dropped e (IsAstray NoStream)
on_told e now from fields (Some request) =
    on_log e request.source (status_move now from request.decision fields) unheard

-- by what its bytes hold; a SETUP is the conductor's, who goes by the newest registry
abbrev pub on_packet : State → RunEnd → ℕ → Address → Address → Result Content BadPacket → Moved
on_packet s e now local from (Err fault) = dropped e (Unread fault)
on_packet s e now local from (Ok (frames sent)) = on_frames s e now local from sent
on_packet s e now local from (Ok (beat header)) =
    on_image e (beat_move now header.place) (image_by s e local from header.place)
on_packet s e now local from (Ok (setup fields)) = conducted e (SetUp now local from fields)
on_packet s e now local from (Ok (nak fields)) =
    on_asked e now from fields (resending_of s from fields.session_id fields.stream_id)
on_packet s e now local from (Ok (status fields)) =
    on_told e now from fields (joining_of s from fields.session_id fields.stream_id)

-- ---- a turn of the receiver with an image

-- what is due goes to the address of its publisher
abbrev pub on_report : State → RunEnd → ℕ → ℕ → Option Address → Moved
on_report s e now source None = record { after = e; answer = IsGone }
on_report s e now source (Some to) = on_log e source (report_move now s.settings.receiver_id to) IsGone

-- ---- any step

-- the registry that its actor looks at: the newest, where no older one is handed in
abbrev pub looks_at : State → Option State → State
looks_at newest None = newest
looks_at newest (Some older) = older

-- by that registry
abbrev pub moved_by : State → RunEnd → Step → Moved
moved_by s e (Conductor event) = conducted e event
moved_by s e (Packet now local from bytes) = on_packet s e now local from (packet_of bytes)
moved_by s e (Offer now client registration message) =
    on_offered s e now client registration message (offering_of s client registration)
moved_by s e (Poll now client subscription source limit) =
    on_log e source (poll_move s client subscription limit) IsGone
moved_by s e (Send now source) = on_log e source (send_move s now) IsGone
moved_by s e (Image now source) = on_report s e now source (publisher_of s source)
moved_by s e (Lists now client) = record { after = e; answer = answer_listed (list s client) }
moved_by s e (Value now client number) = record { after = e; answer = answer_shown (value s client number) }

-- by the newest
abbrev pub moved : RunEnd → Step → Moved
moved e step = moved_by e.registry e step

-- a step that is refused memory leaves all as it was; any other leaves and is answered what it comes to
abbrev pub after_by : RunEnd → Moved → Answer → RunEnd
after_by e what NoMemory = e
after_by e what answer = what.after

abbrev pub IsAnswerOf : Moved → Answer → Type 0
IsAnswerOf what NoMemory = Unit {0}
IsAnswerOf what answer = answer ≡ what.answer

abbrev pub IsAnswer : RunEnd → Step → Answer → Type 0
IsAnswer e step answer = IsAnswerOf (moved e step) answer
