-- What the lock of a slot for logs guards, and what a step makes of it. Own rules.
use Rattle.std.specs.Prelude.{◌≡◌, ℕ, ℤ, ◌==◌, ◌&&◌, Bool, true, false, List, [], ◌∷◌, Option, Some, None, IfSome, if◌then◌else◌}
use Rattle.std.specs.Ordering.{int_eq}
use Rattle.log_steps.specs.declared.answer.Answer.{Answer}
use Rattle.log_steps.specs.declared.packets.PacketRequest.{PacketRequest}
use Rattle.log_steps.specs.Decided.{Decides, decision_for}
use Rattle.log_steps.specs.Held.{HeldLog, LiesAsBefore}
use Rattle.log_steps.specs.Memory.{Gives}
use Rattle.log_steps.specs.Moves.{Does, Move, WholeLog}
use Rattle.log_steps.specs.Receiving.{unheard}
use Rattle.frame_codec.specs.Datagram.{Content, frames}
use Rattle.log_arena.specs.Homes.{Home}
use Rattle.log_traffic.specs.Held.{Made, for_publication, for_stream, is_silent_held, made_held, messages_held, place_held, reach_held, rejoined_held}
use Rattle.log_traffic.specs.Whole.{HasWhole}
use Rattle.policy_core.specs.declared.decision.Decision.{Decision}

-- the number of the log that is there, or was there last, and its session and stream; and the log, while it is open
pub record SlotLog : Type 0 where
  pub source : ℕ
  pub session : ℤ
  pub stream : ℤ
  pub log : Option HeldLog

-- it is made for that session and stream
abbrev pub IsMadeFor : ℤ → ℤ → Made → Type 0
IsMadeFor session stream (for_publication ident) = (ident.session ≡ session) × (ident.stream ≡ stream)
IsMadeFor session stream (for_stream ident) = (ident.session_id ≡ session) × (ident.stream_id ≡ stream)

-- a log has that number, is made for that session and stream, and its lease is of that region
pub record IsOwn (home : Home) (source : ℕ) (session stream : ℤ) (held : HeldLog) : Type 0 where
  pub source_is : held.source ≡ source
  pub made_is : IsMadeFor session stream (made_held held.log)
  pub home_is : (place_held held.log).home ≡ home

abbrev pub IsSlot : Home → ℕ → ℤ → ℤ → Option HeldLog → Type 0
IsSlot home source session stream None = Unit {0}
IsSlot home source session stream (Some held) = IsOwn home source session stream held

-- a lock may guard this: a log that is open lies in that region, is made for what the slot says, and stands for a whole log
pub record IsLocked (home : Home) (slot : SlotLog) : Type 0 where
  pub own : IsSlot home slot.source slot.session slot.stream slot.log
  pub whole : IfSome slot.log (λ (held : HeldLog). HasWhole held.log)

-- how many messages the log that is open has taken
abbrev pub messages_in : Option HeldLog → ℕ
messages_in None = 0
messages_in (Some held) = messages_held held.log

-- the log of that source is open
abbrev pub log_of : ℕ → SlotLog → Option HeldLog
log_of source slot = if slot.source == source then slot.log else None

-- it is open no longer
abbrev pub without_log : ℕ → SlotLog → SlotLog
without_log source slot = if slot.source == source then record slot { log = None } else slot

-- it is open there, of that session and stream
abbrev pub with_log : ℤ → ℤ → HeldLog → SlotLog
with_log session stream log = record { source = log.source; session = session; stream = stream; log = Some log }

-- how far it reaches
abbrev pub reach_by : Option HeldLog → Option ℕ
reach_by None = None
reach_by (Some held) = Some (reach_held held.log)

abbrev pub reach_in : ℕ → SlotLog → Option ℕ
reach_in source slot = reach_by (log_of source slot)

-- exactly these subscriptions read it
abbrev pub rejoined_by : List ℕ → Option HeldLog → Option HeldLog
rejoined_by subscriptions None = None
rejoined_by subscriptions (Some held) = Some (record held { log = rejoined_held subscriptions held.log })

abbrev pub with_readers : ℕ → List ℕ → SlotLog → SlotLog
with_readers source subscriptions slot =
    if slot.source == source then record slot { log = rejoined_by subscriptions slot.log } else slot

-- it is that of an image whose publisher was not heard for longer than the limit
abbrev pub is_silent_by : ℕ → ℕ → Option HeldLog → Bool
is_silent_by now limit None = false
is_silent_by now limit (Some held) = is_silent_held held.log now limit

abbrev pub is_silent_in : ℕ → ℕ → ℕ → SlotLog → Bool
is_silent_in source now limit slot = is_silent_by now limit (log_of source slot)

-- ---- a step

-- the log moves, and it lies where it lay
pub record MovesOpen (move : WholeLog → Move) (held : HeldLog) (new : Option HeldLog) (answer : Answer) : Type 0 where
  pub log : HeldLog
  pub does : Does move held log answer
  pub lies : LiesAsBefore held log
  pub new_is : new ≡ Some log

-- the log that is open moves; where none is, that is the answer
abbrev pub Moves : (WholeLog → Move) → Answer → Option HeldLog → Option HeldLog → Answer → Type 0
Moves move absent None new answer = (new ≡ None) × (answer ≡ absent)
Moves move absent (Some held) new answer = MovesOpen move held new answer

-- that is decided of the log that is open; nothing, where none is
abbrev pub DecidesIn : (WholeLog → Option Decision) → Option HeldLog → Option Decision → Type 0
DecidesIn decide None decision = decision ≡ None
DecidesIn decide (Some held) decision = Decides decide held decision

-- a log is open, and something is given of it
abbrev pub GivesIn : (WholeLog → Move) → Option HeldLog → Type 0
GivesIn move None = ⊥
GivesIn move (Some held) = Gives move held

-- ---- a datagram

-- the frames of a datagram are of that session and stream; any other names what it is for by itself
abbrev pub is_of : ℤ → ℤ → Content → Bool
is_of session stream (frames []) = false
is_of session stream (frames (frame ∷ later)) =
    int_eq frame.header.place.session_id session && int_eq frame.header.place.stream_id stream
is_of session stream content = true

-- a datagram that is not of the log's session and stream is not heard
abbrev pub HearsIf : Bool → (WholeLog → Move) → HeldLog → Option HeldLog → Answer → Type 0
HearsIf true move held new answer = MovesOpen move held new answer
HearsIf false move held new answer = (new ≡ Some held) × (answer ≡ unheard)

abbrev pub HearsIn : Bool → (WholeLog → Move) → Option HeldLog → Option HeldLog → Answer → Type 0
HearsIn is_for move None new answer = (new ≡ None) × (answer ≡ unheard)
HearsIn is_for move (Some held) new answer = HearsIf is_for move held new answer

abbrev pub Hears : Content → (WholeLog → Move) → SlotLog → Option HeldLog → Answer → Type 0
Hears content move slot new answer = HearsIn (is_of slot.session slot.stream content) move slot.log new answer

-- of a NAK the request says what was decided; the log of another source has nothing to do with it
abbrev pub packet_decision : PacketRequest → WholeLog → Option Decision
packet_decision request = decision_for request.source (λ log. request.decision)

-- nothing is decided of a datagram that is not of the log's session and stream
abbrev pub DecidesIf : Bool → (WholeLog → Option Decision) → HeldLog → Option Decision → Type 0
DecidesIf true decide held decision = Decides decide held decision
DecidesIf false decide held decision = decision ≡ None

abbrev pub DecidesHeardIn : Bool → (WholeLog → Option Decision) → Option HeldLog → Option Decision → Type 0
DecidesHeardIn is_for decide None decision = decision ≡ None
DecidesHeardIn is_for decide (Some held) decision = DecidesIf is_for decide held decision

abbrev pub DecidesHeard : Content → (WholeLog → Option Decision) → SlotLog → Option Decision → Type 0
DecidesHeard content decide slot decision = DecidesHeardIn (is_of slot.session slot.stream content) decide slot.log decision

-- nothing is given of it
abbrev pub GivesIf : Bool → (WholeLog → Move) → HeldLog → Type 0
GivesIf true move held = Gives move held
GivesIf false move held = ⊥

abbrev pub GivesHeardIn : Bool → (WholeLog → Move) → Option HeldLog → Type 0
GivesHeardIn is_for move None = ⊥
GivesHeardIn is_for move (Some held) = GivesIf is_for move held

abbrev pub GivesHeard : Content → (WholeLog → Move) → SlotLog → Type 0
GivesHeard content move slot = GivesHeardIn (is_of slot.session slot.stream content) move slot.log
