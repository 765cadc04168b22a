-- All that was decided for each actor, and the end of it that is kept. Own rules.
use Rattle.std.specs.Prelude.{◌≡◌, ℕ, ◌==◌, List, [], ◌∷◌, ◌++◌, find, map, position, Option, Some, None, Result, Ok, if◌then◌else◌}
use Rattle.audit_ring.specs.Audit.{Kept, kept_of}
use Rattle.channel_uri.specs.declared.address.Address.{Address}
use Rattle.driver_core.specs.Conduct.{outcome_of}
use Rattle.driver_core.specs.LeftOut.{left_out}
use Rattle.driver_core.specs.Listing.{value}
use Rattle.driver_core.specs.declared.state.event.Event.{Event}
use Rattle.driver_core.specs.declared.state.event.Event.TheVariants.{Setup as SetUp}
use Rattle.driver_core.specs.declared.state.outcome.Outcome.{Outcome}
use Rattle.driver_core.specs.declared.state.outcome.Response.{Response}
use Rattle.driver_core.specs.declared.state.outcome.Response.TheVariants.{Attached}
use Rattle.driver_core.specs.declared.asked.send_request.Outlet.{Outlet}
use Rattle.log_steps.specs.declared.answer.Answer.{Answer}
use Rattle.log_steps.specs.declared.answer.Answer.TheVariants.{Sent}
use Rattle.driver_steps.specs.declared.step.Step.{Step}
use Rattle.driver_steps.specs.declared.step.Step.TheVariants.{Conductor as Conducts, Packet, Offer, Poll, Send, List as Lists, Value}
use Rattle.driver_steps.specs.EndDecisions.{nak_decided, offer_decided, poll_decided, status_decided}
use Rattle.log_steps.specs.Decided.{shown_decision}
use Rattle.driver_steps.specs.Ends.{RunEnd, inputs_of, moved}
use Rattle.driver_world.specs.declared.actor.Actor.{Actor}
use Rattle.driver_world.specs.declared.actor.Actor.TheVariants.{Conductor, Sender, Receiver, Client}
use Rattle.frame_codec.specs.declared.fault.BadPacket.{BadPacket}
use Rattle.frame_codec.specs.Datagram.{Content, nak, setup, status, packet_of}
use Rattle.policy_core.specs.declared.decision.Decision.{Decision}

-- ---- all that was decided

-- for the conductor, the sender, the receiver, and each client that ever attached, by its id
pub record Decided : Type 0 where
  pub conductor : List Decision
  pub sender : List Decision
  pub receiver : List Decision
  pub clients : List (ℕ × List Decision)

unfoldable pub nothing_decided : Decided
nothing_decided = record { conductor = []; sender = []; receiver = []; clients = [] }

-- a client that no attach named gets no report
abbrev pub told_client : ℕ → List Decision → List (ℕ × List Decision) → List (ℕ × List Decision)
told_client id more [] = []
told_client id more (client ∷ others) =
    if client.0 == id then (client.0, client.1 ++ more) ∷ others else client ∷ told_client id more others

-- so much more was decided for the actor
abbrev pub told : Actor → List Decision → Decided → Decided
told Conductor more all = record all { conductor = all.conductor ++ more }
told Sender more all = record all { sender = all.sender ++ more }
told Receiver more all = record all { receiver = all.receiver ++ more }
told (Client id) more all = record all { clients = told_client id more all.clients }

-- a client that is attached is an actor from there on
abbrev pub attached_by : Response → Decided → Decided
attached_by (Attached id) all = record all { clients = all.clients ++ (id, []) ∷ [] }
attached_by response all = all

-- ---- by a step

-- one decision, if there is one
abbrev pub told_one : Actor → Option Decision → Decided → Decided
told_one actor None all = all
told_one actor (Some decision) all = told actor (decision ∷ []) all

-- an event reports to the conductor all that it decided, in its order
abbrev pub decided_by_outcome : Outcome → Decided → Decided
decided_by_outcome outcome all = attached_by outcome.response (told Conductor outcome.decisions all)

abbrev pub decided_by_event : RunEnd → Event → Decided → Decided
decided_by_event e event all = decided_by_outcome (outcome_of e.registry event (inputs_of e.registry event e.logs)) all

-- a NAK reports to the sender whether who asks may have frames again, and a status message whether who sent it may be a
-- destination
abbrev pub decided_by_content : RunEnd → ℕ → Address → Address → Result Content BadPacket → Decided → Decided
decided_by_content e now local from (Ok (setup fields)) all = decided_by_event e (SetUp now local from fields) all
decided_by_content e now local from (Ok (nak fields)) all = told_one Sender (nak_decided e from fields) all
decided_by_content e now local from (Ok (status fields)) all = told_one Sender (status_decided e from fields) all
decided_by_content e now local from read all = all

-- a datagram that is cut reports to the sender of each destination whether it may go there
abbrev pub decision_of : Outlet → Decision
decision_of outlet = outlet.decision

abbrev pub told_sent : Answer → Decided → Decided
told_sent (Sent bytes outlets) all = told Sender (map decision_of outlets) all
told_sent answer all = all

-- Offers and polls report to their client, and so do looks at counters: by what they are not shown.
unfoldable pub decided_by : RunEnd → Step → Decided → Decided
decided_by e (Conducts event) all = decided_by_event e event all
decided_by e (Packet now local from bytes) all = decided_by_content e now local from (packet_of bytes) all
decided_by e (Offer now client registration message) all =
    told_one (Client client) (offer_decided e client registration) all
decided_by e (Poll now client subscription source limit) all =
    told_one (Client client) (poll_decided e client subscription source) all
decided_by e (Send now source) all = told_sent (moved e (Send now source)).answer all
decided_by e (Lists now client) all = told (Client client) (left_out e.registry client) all
decided_by e (Value now client number) all = told_one (Client client) (shown_decision (value e.registry client number)) all
decided_by e step all = all

-- ---- what is kept of it

pub record Audits : Type 0 where
  pub conductor : Kept
  pub sender : Kept
  pub receiver : Kept
  pub clients : List (ℕ × Kept)

abbrev pub kept_client : ℕ × List Decision → ℕ × Kept
kept_client client = (client.0, kept_of client.1)

-- the last decisions of each actor
abbrev pub kept_all : Decided → Audits
kept_all all = record {
  conductor = kept_of all.conductor;
  sender = kept_of all.sender;
  receiver = kept_of all.receiver;
  clients = map kept_client all.clients;
}

-- that of the first client of that id; of one that no attach named, nothing
abbrev pub kept_or_none : Option (ℕ × Kept) → Kept
kept_or_none None = kept_of []
kept_or_none (Some client) = client.1

abbrev pub kept_for : Actor → Audits → Kept
kept_for Conductor audits = audits.conductor
kept_for Sender audits = audits.sender
kept_for Receiver audits = audits.receiver
kept_for (Client id) audits = kept_or_none (find (λ client. client.0 == id) audits.clients)

-- with for how many clients there is room in memory
pub record HeldAudits : Type 0 where
  pub audits : Audits
  pub room : ℕ

-- what was kept of all those decisions is kept now of those
pub record Tells (old new : Audits) (more : Decided → Decided) : Type 0 where
  pub on : (all : Decided) → old ≡ kept_all all → new ≡ kept_all (more all)

-- an audit that waits for its client is empty
abbrev pub IsSpare : Option Kept → Type 0
IsSpare None = Unit {0}
IsSpare (Some audit) = audit ≡ kept_of []

-- where the first client of that id is in the list
abbrev pub place_at : List (ℕ × Kept) → ℕ → Option ℕ
place_at clients id = position (λ client. client.0 == id) clients

-- that is kept, or, where there is no audit, nothing
abbrev pub IsAuditOf : Option Kept → Kept → Type 0
IsAuditOf None kept = kept ≡ kept_of []
IsAuditOf (Some audit) kept = audit ≡ kept
