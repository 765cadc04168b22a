-- The records of a stream are answered in their order, each once. Own rules.
use Rattle.std.specs.Prelude.{◌≡◌, ◌≤◌, ℕ, ◌⊎◌, Bool, true, false, List, [], ◌∷◌, ◌++◌, All, length, drop, Option, Some, None, Result, Ok, Err}
use Rattle.std.specs.Io.KnownBytes.{Appends}
use Rattle.std.specs.declared.alloc.AllocError.{AllocError}
use Rattle.driver_service.specs.Answering.{AnswersRecord}
use Rattle.driver_service.specs.Calls.{Does}
use Rattle.driver_service.specs.Reasons.{reason_code, reason_text}
use Rattle.driver_service.specs.declared.reason.Reason.{Reason}
use Rattle.driver_service.specs.declared.reason.Reason.TheVariants as reasons
use Rattle.service_records.specs.Answer.{answer_bytes}
use Rattle.service_records.specs.Framing.{cut_of, framed, longest}
use Rattle.service_records.specs.Request.{request_of}
use Rattle.service_records.specs.declared.answer.Answer.TheVariants as answers
use Rattle.service_records.specs.declared.fault.RecordFault.{RecordFault}
use Rattle.service_streams.specs.Streams.{AppendsFront, Known, Step, TakesSteps, all_heard, all_told}
use Rattle.service_streams.specs.declared.talking.Buffers.{Buffers}
use Rattle.service_streams.specs.declared.talking.Ended.{Ended}
use Rattle.service_streams.specs.declared.talking.Ended.TheVariants as ends
use Rattle.service_streams.specs.declared.talking.Greeting.{Greeting}

-- ---- the first record and the last one

abbrev pub welcome_bytes : Greeting → List ℕ
welcome_bytes greeting = answer_bytes (answers.Welcome 1 greeting.principal greeting.client greeting.liveness) []

abbrev pub bye_bytes : Reason → List ℕ
bye_bytes reason = answer_bytes (answers.Bye (reason_code reason)) (reason_text reason)

-- ---- records, and their answers

-- records as they stand in a stream
abbrev pub all_framed : List (List ℕ) → List ℕ
all_framed [] = []
all_framed (body ∷ bodies) = framed body ++ all_framed bodies

-- it is no longer than a record may be
abbrev pub IsShort : List ℕ → Type 0
IsShort body = length body ≤ longest

-- a client, and how many of its offers were refused so far
abbrev pub Party : Type 0 → Type 0
Party S = S × ℕ

-- a record is acted on as `Connection::answer_record` does, and these are the bytes of its answer
abbrev pub AnswersBody : {S : Type 0} → Does S → List ℕ → Party S → Party S → List ℕ → Result Unit AllocError → Type 0
AnswersBody does body old new answer told = AnswersRecord does (request_of body) old.1 new.1 old.0 new.0 [] answer told

-- these records are answered, one after another
abbrev pub AnswersEach : {S : Type 0} → Does S → List (List ℕ) → Party S → Party S → List ℕ → Type 0
AnswersEach does [] old new bytes = (new ≡ old) × (bytes ≡ [])
AnswersEach {S} does (body ∷ bodies) old new bytes =
    (next : S × ℕ) × (answer : List ℕ) × (others : List ℕ)
    × AnswersBody does body old next answer (Ok tt) × AnswersEach does bodies next new others × (bytes ≡ answer ++ others)

-- ---- a conversation

-- a conversation at a moment: its client, what was read and not answered yet, and what still stands to be written
pub record Moment (S : Type 0) : Type 0 where
  pub party : Party S
  pub left : List ℕ
  pub out : List ℕ

abbrev pub stands : {S : Type 0} → S → ℕ → Buffers → Moment S
stands seat refusals buffers = record { party = (seat, refusals); left = drop buffers.at buffers.input.items; out = buffers.out.items }

-- A stretch of a conversation. What was left before and what was read are these records and what is left now; and what was written
-- and what now stands to be written are what stood to be written before and the answers to these records, in their order.
pub record Stretch {S T : Type 0} (does : Does S) (remaining contents : Known T) (old : Moment S) (before : T) (new : Moment S) (after : T) : Type 0 where
  pub steps : List Step
  pub taken : TakesSteps remaining contents before steps after
  pub bodies : List (List ℕ)
  pub short : All IsShort bodies
  pub heard : old.left ++ all_heard steps ≡ all_framed bodies ++ new.left
  pub bytes : List ℕ
  pub answered : AnswersEach does bodies old.party new.party bytes
  pub told : all_told steps ++ new.out ≡ old.out ++ bytes

-- no whole record is left, or what is left begins with none that may be
abbrev pub IsWaiting : List ℕ → Type 0
IsWaiting left = cut_of left ≡ Ok None

abbrev pub IsBad : List ℕ → Type 0
IsBad left = (fault : RecordFault) × (cut_of left ≡ Err fault)

-- the first record that is left is acted on, and nothing of its answer stands to be written: there was no memory for it
pub record LosesAnswer {S : Type 0} (does : Does S) (old : Moment S) (new : Party S) : Type 0 where
  pub body : List ℕ
  pub rest : List ℕ
  pub short : IsShort body
  pub first : old.left ≡ framed body ++ rest
  pub answer : List ℕ
  pub told : Result Unit AllocError
  pub acted : AnswersBody does body old.party new answer told

-- what comes of the first record that is left
abbrev pub AnswersFirst : {S : Type 0} → Does S → Result Bool Ended → Moment S → Moment S → Type 0
AnswersFirst does (Ok true) old new =
    (body : List ℕ) × (answer : List ℕ) × IsShort body × (old.left ≡ framed body ++ new.left)
    × AnswersBody does body old.party new.party answer (Ok tt) × (new.out ≡ old.out ++ answer)
AnswersFirst does (Ok false) old new = (new ≡ old) × IsWaiting old.left
AnswersFirst does (Err ends.TooLong) old new = (new ≡ old) × IsBad old.left
AnswersFirst does (Err ends.NoMemory) old new = (new.left ≡ old.left) × (new.out ≡ old.out) × LosesAnswer does old new.party
AnswersFirst does (Err ended) old new = ⊥

-- How a conversation comes to its end, before that is said: what is left, and what stands to be written.
abbrev pub Ends : {S T : Type 0} → Does S → Known T → Known T → Ended → Moment S → T → Moment S → T → Type 0
Ends does remaining contents ends.Closed old before new after =
    (left : List ℕ) × (unsent : List ℕ) × Stretch does remaining contents old before (record { party = new.party; left = left; out = unsent }) after
Ends does remaining contents ends.Silent old before new after =
    Stretch does remaining contents old before new after × (new.out ≡ []) × IsWaiting new.left
Ends does remaining contents ends.TooLong old before new after =
    Stretch does remaining contents old before new after × IsBad new.left
Ends does remaining contents (ends.Gone reason) old before new after =
    Stretch does remaining contents old before new after
Ends does remaining contents ends.Stopped old before new after =
    (left : List ℕ) × Stretch does remaining contents old before (record { party = new.party; left = left; out = new.out }) after
Ends {S} does remaining contents ends.NoMemory old before new after =
    (last : Moment S) × Stretch does remaining contents old before last after × (new.out ≡ last.out)
    × ((new.party ≡ last.party) ⊎ LosesAnswer does last new.party)

-- all records that were there are answered, and all answers are written; or it comes to its end
abbrev pub Proceeds : {S T : Type 0} → Does S → Known T → Known T → Result Unit Ended → Moment S → T → Moment S → T → Type 0
Proceeds does remaining contents (Ok _) old before new after =
    Stretch does remaining contents old before new after × (new.out ≡ []) × IsWaiting new.left
Proceeds does remaining contents (Err ended) old before new after = Ends does remaining contents ended old before new after

-- ---- a whole conversation

-- the client is that of the last moment; or it has acted on one more record, for whose answer there was no memory
abbrev pub MayLose : {S : Type 0} → Does S → Moment S → Party S → Type 0
MayLose does last new = (new ≡ last.party) ⊎ LosesAnswer does last new

-- what the one at the other end is told of an end, where anything is
abbrev pub end_reason : Ended → Option Reason
end_reason ends.Closed = None
end_reason ends.Silent = Some reasons.WrongClient
end_reason ends.TooLong = Some reasons.TooLong
end_reason (ends.Gone reason) = Some reason
end_reason ends.Stopped = Some reasons.Stopped
end_reason ends.NoMemory = Some reasons.NoMemory

-- all that is to be written is written, and then BYE with that reason, or a front of it
pub record SaysBye {T : Type 0} (contents : Known T) (reason : Reason) (before after : T) (out : List ℕ) : Type 0 where
  pub between : T
  pub all : Appends (contents before) (contents between) out
  pub bye : AppendsFront (contents between) (contents after) (bye_bytes reason)

-- nothing is said where the other end is closed; where it closes now, a front of what is to be written is written
abbrev pub LeavesFor : {T : Type 0} → Known T → Option Reason → Ended → Ended → T → T → List ℕ → Type 0
LeavesFor contents None ended result before after out = (result ≡ ended) × (after ≡ before)
LeavesFor contents (Some reason) ended result before after out =
    ((result ≡ ended) × SaysBye contents reason before after out)
    ⊎ ((result ≡ ends.Closed) × AppendsFront (contents before) (contents after) out)

abbrev pub TakesLeave : {T : Type 0} → Known T → Ended → Ended → T → T → List ℕ → Type 0
TakesLeave contents ended result before after out = LeavesFor contents (end_reason ended) ended result before after out

-- before the first record is read
abbrev pub begun : {S : Type 0} → Greeting → Party S → Moment S
begun greeting party = record { party = party; left = []; out = welcome_bytes greeting }

-- All answers are written, and then BYE with that reason, or a front of it.
pub record EndsBy {S T : Type 0} (does : Does S) (remaining contents : Known T) (greeting : Greeting) (reason : Reason) (P : Moment S → Type 0) (old : Party S) (before after : T) : Type 0 where
  pub last : Moment S
  pub between : T
  pub stretch : Stretch does remaining contents (begun greeting old) before last between
  pub all : last.out ≡ []
  pub so : P last
  pub bye : AppendsFront (contents between) (contents after) (bye_bytes reason)

-- The greeting is written, and then the answers to the records that were read, in their order, each once. Where the other end is
-- closed, a front of that.
pub record Breaks {S T : Type 0} (does : Does S) (remaining contents : Known T) (greeting : Greeting) (old new : Party S) (before after : T) : Type 0 where
  pub last : Moment S
  pub stretch : Stretch does remaining contents (begun greeting old) before last after
  pub lost : MayLose does last new

abbrev pub AnswersInOrder : {S T : Type 0} → Does S → Known T → Known T → Greeting → Ended → Party S → Party S → T → T → Type 0
AnswersInOrder does remaining contents greeting ends.Closed old new before after =
    Breaks does remaining contents greeting old new before after
AnswersInOrder {S} does remaining contents greeting ends.Silent old new before after =
    EndsBy does remaining contents greeting reasons.WrongClient (λ (last : Moment S). (new ≡ last.party) × IsWaiting last.left) old before after
AnswersInOrder {S} does remaining contents greeting ends.TooLong old new before after =
    EndsBy does remaining contents greeting reasons.TooLong (λ (last : Moment S). (new ≡ last.party) × IsBad last.left) old before after
AnswersInOrder {S} does remaining contents greeting (ends.Gone reason) old new before after =
    EndsBy does remaining contents greeting reason (λ (last : Moment S). new ≡ last.party) old before after
AnswersInOrder {S} does remaining contents greeting ends.Stopped old new before after =
    EndsBy does remaining contents greeting reasons.Stopped (λ (last : Moment S). new ≡ last.party) old before after
AnswersInOrder {S} does remaining contents greeting ends.NoMemory old new before after =
    ((new ≡ old) × (after ≡ before))
    ⊎ EndsBy does remaining contents greeting reasons.NoMemory (λ (last : Moment S). MayLose does last new) old before after
