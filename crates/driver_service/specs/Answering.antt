-- What a request is answered. Own rules.
use Rattle.std.specs.Prelude.{◌≡◌, ◌≢◌, ℕ, ℤ, ◌+◌, ◌%◌, ◌^◌, ◌⊎◌, List, [], ◌∷◌, ◌++◌, All, length, true, false, Some, None, Result, Ok, Err, IfOk, OnOk}
use Rattle.driver_service.specs.Calls.{Call, Does, Run, Stay, Command, Offer, Poll, Mail, Look, Value, Publication, Image}
use Rattle.driver_service.specs.Positions.{image_record, publication_record}
use Rattle.driver_service.specs.Gathering.{Gathered, asked}
use Rattle.driver_service.specs.Requests.{IsCommand, IsImage, IsLook, IsOffer, IsPoll, IsPublication, IsTry, IsValue, fragments, polled_pairs}
use Rattle.driver_service.specs.Rounds.{AnswersAll}
use Rattle.driver_service.specs.Reasons.{refusal_code, refusal_text}
use Rattle.driver_service.specs.declared.positions.ImagePositions.{ImagePositions}
use Rattle.driver_service.specs.declared.positions.PublicationPositions.{PublicationPositions}
use Rattle.driver_service.specs.declared.reason.Reason.{Reason}
use Rattle.driver_service.specs.declared.reason.Reason.TheVariants as reasons
use Rattle.driver_service.specs.declared.reason.Refusal.{Refusal}
use Rattle.driver_service.specs.declared.reason.Refusal.TheVariants.{Because}
use Rattle.service_records.specs.Answer.{answer_bytes}
use Rattle.service_records.specs.declared.answer.Answer.TheVariants as answers
use Rattle.service_records.specs.declared.fault.RecordFault.{RecordFault}
use Rattle.service_records.specs.declared.fault.RecordFault.TheVariants as faults
use Rattle.service_records.specs.declared.request.Request.{Request}
use Rattle.service_records.specs.declared.request.Request.TheVariants as requests

-- a refusal
abbrev pub refused_bytes : Refusal → List ℕ
refused_bytes refusal = answer_bytes (answers.Refused (refusal_code refusal)) (refusal_text refusal)

-- so many records, or a refusal
abbrev pub done_bytes : Result ℕ Refusal → List ℕ
done_bytes (Ok count) = answer_bytes (answers.Done count) []
done_bytes (Err refusal) = refused_bytes refusal

-- the value of a counter, or a refusal
abbrev pub value_bytes : Result ℤ Refusal → List ℕ
value_bytes (Ok value) = answer_bytes (answers.Value value) []
value_bytes (Err refusal) = refused_bytes refusal

-- how far a publication has come, or a refusal
abbrev pub publication_bytes : Result PublicationPositions Refusal → List ℕ
publication_bytes (Ok positions) = publication_record positions
publication_bytes (Err refusal) = refused_bytes refusal

-- how far a subscription has come with a log, or a refusal
abbrev pub image_bytes : Result ImagePositions Refusal → List ℕ
image_bytes (Ok positions) = image_record positions
image_bytes (Err refusal) = refused_bytes refusal

-- the records of a call: what it wrote, and what it gave
abbrev pub call_bytes : Call → List ℕ
call_bytes Stay = []
call_bytes (Command bytes None) = answer_bytes (answers.Done 0) []
call_bytes (Command bytes (Some refusal)) = refused_bytes refusal
call_bytes (Offer registration message (Ok position)) = answer_bytes (answers.Taken position) []
call_bytes (Offer registration message (Err refusal)) = refused_bytes refusal
call_bytes (Poll subscription source limit written result) = written
call_bytes (Mail written result) = written
call_bytes (Look written result) = written ++ done_bytes result
call_bytes (Value number result) = value_bytes result
call_bytes (Publication registration result) = publication_bytes result
call_bytes (Image subscription source result) = image_bytes result

-- calls of one kind, of which this is the last: each before it was the same call, and gave nothing
pub record EndsIn {S : Type 0} (does : Does S) (own : Call → Type 0) (old new : S) (last : Call) : Type 0 where
  pub tries : List Call
  pub each : All (IsTry own) tries
  pub last_is : own last
  pub run : Run does old (tries ++ last ∷ []) new

-- and the last one is what is answered, unless memory ran out
pub record Answers {S E : Type 0} (does : Does S) (own : Call → Type 0) (old new : S) (out after : List ℕ) (told : Result Unit E) : Type 0 where
  pub last : Call
  pub ends : EndsIn does own old new last
  pub answered : OnOk told (after ≡ out ++ call_bytes last)

-- A poll is made again while it gives nothing.
pub record PollsOne {S : Type 0} (does : Does S) (subscription source limit : ℕ) (old new : S) (out after : List ℕ) (gave : Result ℕ Refusal) : Type 0 where
  pub tries : List Call
  pub each : All (IsTry (IsPoll subscription source (asked (fragments limit)))) tries
  pub between : S
  pub tried : Run does old tries between
  pub written : List ℕ
  pub last : Gathered does subscription source limit (length out) between new written gave
  pub appended : after ≡ out ++ written

-- and what the last one gave is answered
pub record AnswersOne {S E : Type 0} (does : Does S) (subscription source limit : ℕ) (old new : S) (out after : List ℕ) (told : Result Unit E) : Type 0 where
  pub gave : Result ℕ Refusal
  pub between : List ℕ
  pub polls : PollsOne does subscription source limit old new out between gave
  pub answered : OnOk told (after ≡ between ++ done_bytes gave)

-- one more refusal, by 2^32
abbrev pub one_more_refusal : ℕ → ℕ
one_more_refusal refusals = (refusals + 1) % 2 ^ 32

-- An offer of a client that has not seen all refusals of its offers is skipped, whatever it offers: no call is made.
pub record Skips {S E : Type 0} (old new : S) (refusals later : ℕ) (out after : List ℕ) (told : Result Unit E) : Type 0 where
  pub same : new ≡ old
  pub refusals_same : later ≡ refusals
  pub answered : OnOk told (after ≡ out ++ refused_bytes (Because reasons.Skipped))

-- how many refusals there are after an offer
abbrev pub refusals_after : ℕ → Result ℕ Refusal → ℕ
refusals_after refusals (Ok position) = refusals
refusals_after refusals (Err refusal) = one_more_refusal refusals

abbrev pub offered_bytes : Result ℕ Refusal → List ℕ
offered_bytes (Ok position) = answer_bytes (answers.Taken position) []
offered_bytes (Err refusal) = refused_bytes refusal

-- Any other is tried until it is taken or its wait is over, and the last try is what is answered.
pub record Tries {S E : Type 0} (does : Does S) (registration : ℕ) (message : List ℕ) (old new : S) (refusals later : ℕ) (out after : List ℕ) (told : Result Unit E) : Type 0 where
  pub gave : Result ℕ Refusal
  pub ends : EndsIn does (IsOffer registration message) old new (Offer registration message gave)
  pub counted : later ≡ refusals_after refusals gave
  pub answered : OnOk told (after ≡ out ++ offered_bytes gave)

abbrev pub Offers : {S E : Type 0} → Does S → ℕ → List ℕ → ℕ → ℕ → ℕ → S → S → List ℕ → List ℕ → Result Unit E → Type 0
Offers does registration message seen refusals later old new out after told =
    ((seen ≢ refusals) × Skips old new refusals later out after told)
    ⊎ ((seen ≡ refusals) × Tries does registration message old new refusals later out after told)

-- nothing is done, and the request is refused
pub record Refuses {S E : Type 0} (old new : S) (reason : Reason) (out after : List ℕ) (told : Result Unit E) : Type 0 where
  pub same : new ≡ old
  pub answered : OnOk told (after ≡ out ++ refused_bytes (Because reason))

-- what a call for mail wrote
abbrev pub mail_written : Call → List ℕ
mail_written (Mail written result) = written
mail_written call = []

-- and such calls together
abbrev pub all_written : List Call → List ℕ
all_written [] = []
all_written (call ∷ calls) = mail_written call ++ all_written calls

-- a call that gave a reply, and one that found none
abbrev pub GaveReply : Call → Type 0
GaveReply (Mail written (Ok true)) = Unit {0}
GaveReply call = ⊥

abbrev pub FoundNone : Call → Type 0
FoundNone (Mail written (Ok false)) = Unit {0}
FoundNone call = ⊥

-- Replies are taken until there are no more, or the next one is refused; 256 at most.
abbrev pub EndsMail : Result ℕ Refusal → ℕ → List Call → Type 0
EndsMail gave count [] = (gave ≡ Ok count) × (count ≡ 256)
EndsMail gave count (Mail written (Ok false) ∷ []) = gave ≡ Ok count
EndsMail gave count (Mail written (Err refusal) ∷ []) = gave ≡ Err refusal
EndsMail gave count calls = ⊥

-- each of these gave a reply, the last one no more; and what was written of all stands at the end
pub record TakesMail {S : Type 0} (does : Does S) (old new : S) (out after : List ℕ) (gave : Result ℕ Refusal) : Type 0 where
  pub replies : List Call
  pub last : List Call
  pub each : All GaveReply replies
  pub ends : EndsMail gave (length replies) last
  pub run : Run does old (replies ++ last) new
  pub written : after ≡ out ++ all_written (replies ++ last)

-- and there were none for a while before
pub record GivesMail {S : Type 0} (does : Does S) (old new : S) (out after : List ℕ) (gave : Result ℕ Refusal) : Type 0 where
  pub idle : List Call
  pub each : All FoundNone idle
  pub between : S
  pub waited : Run does old idle between
  pub taken : TakesMail does between new (out ++ all_written idle) after gave

-- replies are answered by their records, and by the one that closes them
pub record AnswersMail {S E : Type 0} (does : Does S) (old new : S) (out after : List ℕ) (told : Result Unit E) : Type 0 where
  pub gave : Result ℕ Refusal
  pub between : List ℕ
  pub gives : GivesMail does old new out between gave
  pub answered : OnOk told (after ≡ between ++ done_bytes gave)

-- What a request is answered, and by which calls: by its kind.
abbrev pub IsAnswer : {S E : Type 0} → Does S → Request → List ℕ → ℕ → ℕ → S → S → List ℕ → List ℕ → Result Unit E → Type 0
IsAnswer does requests.Command tail refusals later old new out after told = Answers does (IsCommand tail) old new out after told
IsAnswer does (requests.Offer seen wait registration) tail refusals later old new out after told = Offers does registration tail seen refusals later old new out after told
IsAnswer does (requests.Poll limit wait subscription source) tail refusals later old new out after told = AnswersOne does subscription source limit old new out after told
IsAnswer does (requests.Mail wait) tail refusals later old new out after told = AnswersMail does old new out after told
IsAnswer does requests.List tail refusals later old new out after told = Answers does IsLook old new out after told
IsAnswer does (requests.Value number) tail refusals later old new out after told = Answers does (IsValue number) old new out after told
IsAnswer does requests.Stop tail refusals later old new out after told = Refuses old new reasons.NotOperator out after told
IsAnswer does requests.Reload tail refusals later old new out after told = Refuses old new reasons.NotOperator out after told
IsAnswer does requests.Status tail refusals later old new out after told = Refuses old new reasons.NotOperator out after told
IsAnswer does (requests.Decisions from choice) tail refusals later old new out after told = Refuses old new reasons.NotOperator out after told
IsAnswer does (requests.PollAll limit wait) tail refusals later old new out after told = AnswersAll does limit (polled_pairs tail) old new out after told
IsAnswer does (requests.PublicationPositions registration) tail refusals later old new out after told = Answers does (IsPublication registration) old new out after told
IsAnswer does (requests.ImagePositions subscription source) tail refusals later old new out after told = Answers does (IsImage subscription source) old new out after told

-- only an offer changes how many refusals there are
abbrev pub KeepsRefusals : Request → ℕ → ℕ → Type 0
KeepsRefusals (requests.Offer seen wait registration) refusals later = Unit {0}
KeepsRefusals _ refusals later = later ≡ refusals

-- the client is heard of, and then the request is answered
pub record IsAnswered {S E : Type 0} (does : Does S) (request : Request) (tail : List ℕ) (refusals later : ℕ) (old new : S) (out after : List ℕ) (told : Result Unit E) : Type 0 where
  pub heard : S
  pub stays : does old Stay heard
  pub kept : KeepsRefusals request refusals later
  pub answer : IsAnswer does request tail refusals later heard new out after told

-- why a record is refused that is no request
abbrev pub fault_reason : RecordFault → Reason
fault_reason faults.Unknown = reasons.UnknownRequest
fault_reason faults.Malformed = reasons.MalformedRequest
fault_reason faults.TooLong = reasons.TooLong

-- bytes that came as a record are answered as the request that they are; any others are refused, and nothing is done
abbrev pub AnswersRecord : {S E : Type 0} → Does S → Result (Request × List ℕ) RecordFault → ℕ → ℕ → S → S → List ℕ → List ℕ → Result Unit E → Type 0
AnswersRecord does (Ok x) refusals later old new out after told = IsAnswered does x.0 x.1 refusals later old new out after told
AnswersRecord does (Err fault) refusals later old new out after told = (later ≡ refusals) × Refuses old new (fault_reason fault) out after told
