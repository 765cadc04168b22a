-- What the calls of a client give, as a connection is told: records, and codes in words. Own rules.
use Rattle.std.specs.Prelude.{◌≡◌, ◌⊎◌, ℕ, ℤ, ◌-◌, ◌^◌, min, List, [], length, Option, Some, None, Bool, true, false, Result, Ok, Err, codes}
use Rattle.std.specs.List.{flat_map}
use Rattle.command_codec.specs.Reply.{reply_bytes}
use Rattle.command_codec.specs.declared.error_code.ErrorCode.TheVariants as error_codes
use Rattle.command_codec.specs.declared.reply.Reply.TheVariants as layouts
use Rattle.driver_core.specs.Replies.{layout_of}
use Rattle.driver_core.specs.declared.asked.listing.Listed.{Listed}
use Rattle.driver_core.specs.declared.asked.listing.Listed.TheVariants as listed_as
use Rattle.driver_core.specs.declared.asked.listing.ListedCounter.{ListedCounter}
use Rattle.driver_core.specs.declared.asked.listing.Shown.{Shown}
use Rattle.driver_core.specs.declared.asked.listing.Shown.TheVariants as shown_as
use Rattle.driver_service.specs.declared.reason.Reason.{Reason}
use Rattle.driver_service.specs.declared.reason.Reason.TheVariants as reasons
use Rattle.driver_service.specs.declared.reason.Refusal.{Refusal}
use Rattle.driver_service.specs.declared.reason.Refusal.TheVariants.{Because, Denied}
use Rattle.log_pairs.specs.Polling.{Fetched}
use Rattle.media_agents.specs.Mails.{Posted}
use Rattle.media_agents.specs.declared.mail.ClientReply.{ClientReply}
use Rattle.media_agents.specs.declared.mail.ClientReply.TheVariants as client_replies
use Rattle.media_driver.specs.declared.faults.LookFault.{LookFault}
use Rattle.media_driver.specs.declared.faults.LookFault.TheVariants as looks
use Rattle.media_driver.specs.declared.faults.OfferFault.{OfferFault}
use Rattle.media_driver.specs.declared.faults.OfferFault.TheVariants as offers
use Rattle.media_driver.specs.declared.faults.PollFault.{PollFault}
use Rattle.media_driver.specs.declared.faults.PollFault.TheVariants as polls
use Rattle.media_driver.specs.declared.faults.PushFault.{PushFault}
use Rattle.media_driver.specs.declared.faults.PushFault.TheVariants as pushes
use Rattle.policy_core.specs.Verdict.{verdict_text}
use Rattle.policy_core.specs.declared.verdict.Verdict.{Verdict}
use Rattle.service_records.specs.Answer.{answer_bytes}
use Rattle.service_records.specs.declared.answer.Answer.TheVariants as answers

-- ---- refusals

abbrev pub push_reason : PushFault → Reason
push_reason pushes.QueueFull = reasons.QueueFull
push_reason pushes.NoMemory = reasons.NoMemory

abbrev pub look_reason : LookFault → Reason
look_reason looks.NoLook = reasons.NoLook
look_reason looks.NoMemory = reasons.NoMemory

-- a denial is told in the words of its verdict, where there is memory for them
abbrev pub IsDenial : Verdict → Refusal → Type 0
IsDenial verdict refusal = (refusal ≡ Denied (verdict_text verdict)) ⊎ (refusal ≡ Because reasons.NoMemory)

-- it is refused, by such a refusal
abbrev pub RefusedBy : {T : Type 0} → (Refusal → Type 0) → Result T Refusal → Type 0
RefusedBy own (Ok x) = ⊥
RefusedBy own (Err refusal) = own refusal

-- ---- what an offer gave

abbrev pub OfferRefusal : OfferFault → Refusal → Type 0
OfferRefusal (offers.Denied verdict) refusal = IsDenial verdict refusal
OfferRefusal offers.Closed refusal = refusal ≡ Because reasons.Closed
OfferRefusal offers.TooLong refusal = refusal ≡ Because reasons.TooLong
OfferRefusal offers.NotConnected refusal = refusal ≡ Because reasons.NotConnected
OfferRefusal offers.MaxPosition refusal = refusal ≡ Because reasons.MaxPosition
OfferRefusal offers.BackPressured refusal = refusal ≡ Because reasons.BackPressured
OfferRefusal offers.AdminAction refusal = refusal ≡ Because reasons.AdminAction
OfferRefusal offers.NoLook refusal = refusal ≡ Because reasons.NoLook

abbrev pub TellsOffer : Result ℕ OfferFault → Result ℕ Refusal → Type 0
TellsOffer (Ok position) told = told ≡ Ok position
TellsOffer (Err fault) told = RefusedBy (OfferRefusal fault) told

-- ---- what a poll gave

abbrev pub fragment_bytes : Fetched → List ℕ
fragment_bytes fragment = answer_bytes (answers.Fragment fragment.position fragment.flags.bits) fragment.payload

-- how many there are, at most the greatest number of 32 bits
abbrev pub few : {T : Type 0} → List T → ℕ
few rows = min (length rows) (2 ^ 32 - 1)

-- all of them were written, each as its record; or there was no memory for that, and none was
abbrev pub TellsRows : {T : Type 0} → (T → List ℕ) → List T → List ℕ → Result ℕ Refusal → Type 0
TellsRows row_bytes rows written told =
    ((told ≡ Ok (few rows)) × (written ≡ flat_map row_bytes rows)) ⊎ ((told ≡ Err (Because reasons.NoMemory)) × (written ≡ []))

abbrev pub PollRefusal : PollFault → Refusal → Type 0
PollRefusal (polls.Denied verdict) refusal = IsDenial verdict refusal
PollRefusal polls.Gone refusal = refusal ≡ Because reasons.Closed
PollRefusal polls.NoLook refusal = refusal ≡ Because reasons.NoLook
PollRefusal polls.NoMemory refusal = refusal ≡ Because reasons.NoMemory

abbrev pub TellsPoll : Result (List Fetched) PollFault → List ℕ → Result ℕ Refusal → Type 0
TellsPoll (Ok fragments) written told = TellsRows fragment_bytes fragments written told
TellsPoll (Err fault) written told = RefusedBy (PollRefusal fault) told × (written ≡ [])

-- ---- mail

-- of a command for which there was no memory
abbrev pub lack_text : ℕ → List ℕ
lack_text correlation = reply_bytes (layouts.Error (record { correlation = correlation; code = error_codes.NoMemory; text = codes "no memory" }))

-- the bytes of a reply
abbrev pub reply_text : ClientReply → List ℕ
reply_text (client_replies.Of reply) = reply_bytes (layout_of reply)
reply_text (client_replies.NoMemory correlation) = lack_text correlation

abbrev pub mail_bytes : Posted → List ℕ
mail_bytes mail = answer_bytes (answers.Reply mail.lost) (reply_text mail.reply)

-- a reply was written; or none was there; or there was no memory to write it
abbrev pub TellsMail : Option Posted → List ℕ → Result Bool Refusal → Type 0
TellsMail None written told = (told ≡ Ok false) × (written ≡ [])
TellsMail (Some mail) written told = ((told ≡ Ok true) × (written ≡ mail_bytes mail)) ⊎ ((told ≡ Err (Because reasons.NoMemory)) × (written ≡ []))

-- ---- counters

abbrev pub row_bytes : ListedCounter → List ℕ
row_bytes row = answer_bytes (answers.Row row.number row.type_id row.value) row.label

abbrev pub TellsList : Result Listed LookFault → List ℕ → Result ℕ Refusal → Type 0
TellsList (Ok (listed_as.Counters rows)) written told = TellsRows row_bytes rows written told
TellsList (Ok listed_as.WrongClient) written told = (told ≡ Err (Because reasons.WrongClient)) × (written ≡ [])
TellsList (Err fault) written told = (told ≡ Err (Because (look_reason fault))) × (written ≡ [])

abbrev pub TellsValue : Result Shown LookFault → Result ℤ Refusal → Type 0
TellsValue (Ok (shown_as.Value value)) told = told ≡ Ok value
TellsValue (Ok (shown_as.Denied decision)) told = RefusedBy (IsDenial decision.verdict) told
TellsValue (Ok shown_as.UnknownCounter) told = told ≡ Err (Because reasons.UnknownCounter)
TellsValue (Ok shown_as.WrongClient) told = told ≡ Err (Because reasons.WrongClient)
TellsValue (Err fault) told = told ≡ Err (Because (look_reason fault))
