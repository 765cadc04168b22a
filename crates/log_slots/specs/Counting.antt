-- What is counted: each message that a log took, once; and what the lock of a slot guards, with its share of the ledger.
-- Own rules.
use Rattle.std.specs.Prelude.{◌≡◌, ℕ, ◌+◌, ◌-◌, ◌^◌, ◌⊎◌, Bool, true, false, List, None, if◌then◌else◌}
use Rattle.log_steps.specs.declared.answer.Answer.{Answer}
use Rattle.log_steps.specs.declared.answer.Answer.TheVariants.{Offered as OfferedAs}
use Rattle.log_steps.specs.declared.answer.Offered.TheVariants.{At}
use Rattle.log_slots.specs.Slots.{SlotLog, messages_in}
use Rattle.receiver_reports.specs.declared.report.Report.{Report}

-- how many messages a log took that gave this answer: only a position says that it took one
abbrev pub taken_by : Answer → ℕ
taken_by (OfferedAs (At position)) = 1
taken_by answer = 0

-- how many parts of the ledger an amount has, and its number
pub record AmountState : Type 0 where
  pub parts : ℕ
  pub number : ℕ

-- one went from a slot's amount to a client's
pub record IsPassed (slot_old slot_new client_old client_new : AmountState) : Type 0 where
  pub slot : slot_new.number + 1 ≡ slot_old.number
  pub client : client_new.number ≡ client_old.number + 1
  pub parts : (slot_new.parts ≡ slot_old.parts) × (client_new.parts ≡ client_old.parts)

-- no more is counted: the client's number is at its greatest value, or the slot has none left
abbrev pub IsFull : ℕ → ℕ → Type 0
IsFull client left = (client ≡ 2 ^ 64 - 1) ⊎ (left ≡ 0)

-- that many went from what a slot has left to what a client counts; or none, where no more is counted
abbrev pub Passes : ℕ → ℕ → ℕ → ℕ → ℕ → Type 0
Passes count client_old client_new left_old left_new =
    ((client_new ≡ client_old + count) × (left_new + count ≡ left_old))
    ⊎ (IsFull client_old left_old × (client_new ≡ client_old) × (left_new ≡ left_old))

-- the log; how many messages the logs took that were closed in the slot; how many more are counted of it; whether all were
-- counted; whether the driver has ended; and what the receivers of the log reported that is or was there last
pub record SlotCount : Type 0 where
  pub kept : SlotLog
  pub closed : ℕ
  pub left : ℕ
  pub exact : Bool
  pub settled : Bool
  pub reports : List Report

-- What is left, the messages of the log that is open, and those of the logs that were closed are 2^55, while all were counted.
-- Once the driver has ended no log is open.
pub record IsCounted (slot : SlotCount) : Type 0 where
  pub counts : slot.exact ≡ true → slot.left + (messages_in slot.kept.log + slot.closed) ≡ 2 ^ 55
  pub rests : slot.settled ≡ true → slot.kept.log ≡ None

-- the driver has ended: the log is let go, and what was left is out
abbrev pub settled_of : SlotCount → SlotCount
settled_of slot = if slot.settled then slot else record slot {
  kept = record slot.kept { log = None };
  closed = 0;
  left = 0;
  exact = false;
  settled = true;
}
