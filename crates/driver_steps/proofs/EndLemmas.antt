-- What holds along runs; and a run leaves the registry that its events leave.
use Rattle.std.proofs.Common.{◌≡◌, ℕ, List, [], ◌∷◌, ◌++◌, Option, Some, None, Result, Ok, Err, refl, sym, ap, ◌∙◌, subst}
use Rattle.driver_core.specs.declared.state.event.Event.{Event}
use Rattle.driver_core.specs.declared.state.event.Inputs.{Inputs}
use Rattle.driver_core.specs.declared.asked.log_request.LogRequest.{LogRequest}
use Rattle.driver_core.specs.declared.asked.publication_request.JoinRequest.{JoinRequest}
use Rattle.driver_core.specs.declared.state.peer.Peer.{Peer}
use Rattle.driver_core.specs.declared.state.settings.Settings.{Settings}
use Rattle.driver_core.specs.Conduct.{outcome_of, state_after, state_of}
use Rattle.driver_core.specs.declared.asked.image_request.Astray.{Astray}
use Rattle.driver_core.specs.Listing.{list, value}
use Rattle.driver_core.specs.LogRequests.{offering_of}
use Rattle.driver_core.specs.PublicationRequests.{joining_of, publisher_of, resending_of}
use Rattle.driver_core.specs.State.{State, opened}
use Rattle.log_steps.specs.Sending.{send_move}
use Rattle.log_steps.specs.declared.answer.Answer.{Answer}
use Rattle.log_steps.specs.declared.answer.Answer.TheVariants.{NoMemory, Offered as OfferedAs, Gone as IsGone}
use Rattle.log_steps.specs.declared.answer.Offered.TheVariants.{Closed}
use Rattle.driver_steps.specs.declared.step.Step.{Step}
use Rattle.driver_steps.specs.declared.step.Step.TheVariants.{Conductor, Packet, Offer, Poll, Image, List as Lists, Send, Value}
use Rattle.log_steps.specs.Answers.{answer_of, answer_listed, answer_shown}
use Rattle.driver_steps.specs.Ends.{after_by, conducted, image_by, inputs_of, IsAnswer, log_at, Moved, moved, moved_by, moved_on, on_asked, on_image, on_log, on_offered, on_packet, on_report, on_told, opening_end, RunEnd}
use Rattle.driver_steps.specs.Runs.{Reading, end_of, left_by, moved_to, read_by}
use Rattle.log_steps.specs.Hearing.{nak_move, status_move}
use Rattle.driver_steps.specs.Laws.{event_in, event_of, taken_by, taken_from, registry_of, IsTold, TakesEvents, RunsTakeEvents}
use Rattle.log_steps.specs.Moves.{WholeLog, Move, offer_move, poll_move}
use Rattle.log_steps.specs.Receiving.{beat_move, receive_move, unheard}
use Rattle.log_steps.specs.Reporting.{report_move}
use Rattle.channel_uri.specs.declared.address.Address.{Address}
use Rattle.frame_codec.specs.declared.fault.BadPacket.{BadPacket}
use Rattle.frame_codec.specs.declared.nak.Nak.{Nak}
use Rattle.frame_codec.specs.declared.status_message.StatusMessage.{StatusMessage}
use Rattle.frame_codec.specs.Datagram.{Content, frames, beat, nak, status, setup, packet_of}
use Rattle.policy_core.specs.RuleList.{Rules}

-- ---- what holds along runs

-- a step leaves what it comes to, or all as it was
pub after_both : (P : RunEnd → Type 0) (e : RunEnd) (what : Moved) (answer : Answer) → P e → P what.after → P (after_by e what answer)
after_both P e what NoMemory same moves = same
after_both P e what answer same moves = moves

-- what each step keeps, whichever registry it goes by, each run keeps
pub run_keeps : (P : RunEnd → Type 0) → ((s : State) (e : RunEnd) (step : Step) → P e → P (moved_by s e step).after) →
    (e : RunEnd) (readings : List Reading) (answers : List Answer) → P e → P (end_of e readings answers)
run_keeps P keeps e [] answers holds = holds
run_keeps P keeps e (reading ∷ readings) [] holds = holds
run_keeps P keeps e (reading ∷ readings) (answer ∷ answers) holds =
    run_keeps P keeps (left_by e reading answer) readings answers
    (after_both P e (moved_to e reading) answer holds
    (keeps (read_by e reading.older) e reading.step holds))

-- ---- the registry that a step leaves

move_keeps_registry : (e : RunEnd) (source : ℕ) (move : WholeLog → Move) (absent : Answer) (o : Option WholeLog) →
    (moved_on e source move absent o).after.registry ≡ e.registry
move_keeps_registry e source move absent None = refl
move_keeps_registry e source move absent (Some log) = refl

-- an offer leaves the registry as it was
pub offer_keeps_registry : (s : State) (e : RunEnd) (now client registration : ℕ) (message : List ℕ) (o : Option LogRequest) →
    (on_offered s e now client registration message o).after.registry ≡ e.registry
unfolding on_log
offer_keeps_registry s e now client registration message None = refl
offer_keeps_registry s e now client registration message (Some request) =
    move_keeps_registry e request.source (offer_move s now client registration message) (OfferedAs Closed)
    (log_at e.logs request.source)

-- and so does what comes to a log
pub log_keeps_registry : (e : RunEnd) (source : ℕ) (move : WholeLog → Move) (absent : Answer) →
    (on_log e source move absent).after.registry ≡ e.registry
unfolding on_log
log_keeps_registry e source move absent = move_keeps_registry e source move absent (log_at e.logs source)

image_keeps_registry : (e : RunEnd) (move : WholeLog → Move) (found : Result ℕ Astray) →
    (on_image e move found).after.registry ≡ e.registry
image_keeps_registry e move (Ok source) = log_keeps_registry e source move unheard
image_keeps_registry e move (Err why) = refl

asked_keeps_registry : (e : RunEnd) (now : ℕ) (from : Address) (fields : Nak) (request : Option LogRequest) →
    (on_asked e now from fields request).after.registry ≡ e.registry
asked_keeps_registry e now from fields None = refl
asked_keeps_registry e now from fields (Some request) =
    log_keeps_registry e request.source (nak_move now from request.decision fields) unheard

told_keeps_registry : (e : RunEnd) (now : ℕ) (from : Address) (fields : StatusMessage) (request : Option JoinRequest) →
    (on_told e now from fields request).after.registry ≡ e.registry
told_keeps_registry e now from fields None = refl
told_keeps_registry e now from fields (Some request) =
    log_keeps_registry e request.source (status_move now from request.decision fields) unheard

pub report_keeps_registry : (s : State) (e : RunEnd) (now source : ℕ) (to : Option Address) →
    (on_report s e now source to).after.registry ≡ e.registry
report_keeps_registry s e now source None = refl
report_keeps_registry s e now source (Some to) =
    log_keeps_registry e source (report_move now s.settings.receiver_id to) IsGone

-- of datagrams, SETUPs alone are events
packet_takes_event : (s : State) (e : RunEnd) (now : ℕ) (local from : Address) (read : Result Content BadPacket) →
    (on_packet s e now local from read).after.registry ≡ state_of e.registry (event_in e now local from read)
unfolding conducted
packet_takes_event s e now local from (Err fault) = refl
packet_takes_event s e now local from (Ok (frames [])) = refl
packet_takes_event s e now local from (Ok (frames (frame ∷ later))) =
    image_keeps_registry e (receive_move now (frame ∷ later)) (image_by s e local from frame.header.place)
packet_takes_event s e now local from (Ok (beat header)) =
    image_keeps_registry e (beat_move now header.place) (image_by s e local from header.place)
packet_takes_event s e now local from (Ok (setup fields)) = refl
packet_takes_event s e now local from (Ok (nak fields)) =
    asked_keeps_registry e now from fields (resending_of s from fields.session_id fields.stream_id)
packet_takes_event s e now local from (Ok (status fields)) =
    told_keeps_registry e now from fields (joining_of s from fields.session_id fields.stream_id)

-- any step leaves the registry that its events leave
pub moved_takes : (s : State) (e : RunEnd) (step : Step) → (moved_by s e step).after.registry ≡ state_of e.registry (event_of e step)
unfolding conducted
moved_takes s e (Conductor event) = refl
moved_takes s e (Packet now local from bytes) = packet_takes_event s e now local from (packet_of bytes)
moved_takes s e (Offer now client registration message) =
    offer_keeps_registry s e now client registration message (offering_of s client registration)
moved_takes s e (Poll now client subscription source limit) =
    log_keeps_registry e source (poll_move s client subscription limit) IsGone
moved_takes s e (Send now source) = log_keeps_registry e source (send_move s now) IsGone
moved_takes s e (Image now source) = report_keeps_registry s e now source (publisher_of s source)
moved_takes s e (Lists now client) = refl
moved_takes s e (Value now client number) = refl

step_takes : (e : RunEnd) (step : Step) (what : Moved) (answer : Answer) → what.after.registry ≡ state_of e.registry (event_of e step) →
    (after_by e what answer).registry ≡ state_of e.registry (taken_by e step answer)
step_takes e step what NoMemory is = refl
step_takes e step what answer is = is

-- ---- the registry that a run leaves

pub state_of_both : (s : State) (events more : List (Event × Inputs)) →
    state_of s (events ++ more) ≡ state_of (state_of s events) more
state_of_both s [] more = refl
state_of_both s (event ∷ events) more = state_of_both (state_after s event.0 event.1) events more

pub run_takes : (e : RunEnd) (readings : List Reading) (answers : List Answer) →
    (end_of e readings answers).registry ≡ state_of e.registry (taken_from e readings answers)
run_takes e [] answers = refl
run_takes e (reading ∷ readings) [] = refl
run_takes e (reading ∷ readings) (answer ∷ answers) =
    let more : List (Event × Inputs) = taken_from (left_by e reading answer) readings answers in
    run_takes (left_by e reading answer) readings answers
    ∙ ap (λ (s : State). state_of s more)
    (step_takes e reading.step (moved_to e reading) answer (moved_takes (read_by e reading.older) e reading.step))
    ∙ sym (state_of_both e.registry (taken_by e reading.step answer) more)

-- ---- what comes next

answered_told : (e : RunEnd) (step : Step) (answer : Answer) → IsAnswer e step answer →
    IsTold answer (moved e step).answer
answered_told e step NoMemory is = tt
answered_told e step answer is = is

end_takes : (e : RunEnd) (s : State) → e.registry ≡ s → TakesEvents e s
unfolding conducted
end_takes e s is = record {
  leaves = is;
  tells = λ event answer answered.
      subst (λ (t : State). IsTold answer (answer_of (outcome_of t event (inputs_of e.registry event e.logs)))) is
      (answered_told e (Conductor event) answer answered);
  lists = λ now client answer answered.
      subst (λ (t : State). IsTold answer (answer_listed (list t client))) is
      (answered_told e (Lists now client) answer answered);
  values = λ now client number answer answered.
      subst (λ (t : State). IsTold answer (answer_shown (value t client number))) is
      (answered_told e (Value now client number) answer answered);
}

pub opening_is : (settings : Settings) (policy : Rules) (peers : List Peer) →
    (opening_end settings policy peers).registry ≡ opened settings policy peers
unfolding opening_end
opening_is settings policy peers = refl

pub runs_take : RunsTakeEvents
runs_take settings policy peers readings answers =
    let first : RunEnd = opening_end settings policy peers in
    end_takes (end_of first readings answers) (registry_of settings policy peers readings answers)
    (run_takes first readings answers
    ∙ ap (λ (s : State). state_of s (taken_from first readings answers)) (opening_is settings policy peers))
