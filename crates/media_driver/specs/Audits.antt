-- What a client's audit keeps of what the policy decided for it, step by step, each with the registry by which it did. Own rules.
use Rattle.std.specs.Prelude.{◌≡◌, ◌⊎◌, ℕ, List, Option, Some, None, Result, Ok, Err}
use Rattle.audit_ring.specs.Audit.{KeptOf}
use Rattle.driver_core.specs.LeftOut.{left_out}
use Rattle.driver_core.specs.declared.asked.listing.Listed.{Listed}
use Rattle.driver_core.specs.declared.asked.listing.Shown.{Shown}
use Rattle.log_steps.specs.declared.answer.Answer.{Answer}
use Rattle.log_steps.specs.declared.answer.Answer.TheVariants.{Gone as IsGone, Offered as OfferedAs}
use Rattle.log_steps.specs.declared.answer.Offered.TheVariants as offered
use Rattle.log_steps.specs.Decided.{decision_for, offer_decision, poll_decision, shown_decision}
use Rattle.log_steps.specs.Held.{HeldLog}
use Rattle.log_steps.specs.Moves.{Move, WholeLog, offer_move}
use Rattle.log_arena.specs.Homes.{Home}
use Rattle.log_pairs.specs.Polling.{Fetched}
use Rattle.log_slots.specs.Slots.{DecidesIn, IsLocked, Moves, SlotLog}
use Rattle.media_agents.specs.declared.journal.Dated.{Dated}
use Rattle.media_agents.specs.declared.journal.Stamp.{Stamp}
use Rattle.media_agents.specs.Journals.{audited_all, audited_if, stamp_of}
use Rattle.media_driver.specs.Steps.{offer_answer, poll_answer, poll_of}
use Rattle.media_driver.specs.declared.faults.LookFault.{LookFault}
use Rattle.media_driver.specs.declared.faults.OfferFault.{OfferFault}
use Rattle.media_driver.specs.declared.faults.OfferFault.TheVariants as offers
use Rattle.media_driver.specs.declared.faults.PollFault.{PollFault}
use Rattle.media_driver.specs.declared.faults.PollFault.TheVariants as polls
use Rattle.policy_core.specs.declared.decision.Decision.{Decision}
use Rattle.published_registry.specs.Histories.{History, registry_of}

-- ---- a step on a log

-- the log that a lock guards moved so, and that is the answer; and that was decided of it
pub record IsDecided (home : Home) (move : WholeLog → Move) (decide : WholeLog → Option Decision) (absent answer : Answer) (decision : Option Decision) : Type 0 where
  pub slot : SlotLog
  pub locked : IsLocked home slot
  pub new : Option HeldLog
  pub moves : Moves move absent slot.log new answer
  pub decides : DecidesIn decide slot.log decision

-- where no answer is told, either no step was taken, and nothing decided, or one was whose answer is not told
abbrev pub IsDecidedBy : Home → (WholeLog → Move) → (WholeLog → Option Decision) → Answer → Option Answer → Option Decision → Type 0
IsDecidedBy home move decide absent None decision =
    (decision ≡ None) ⊎ ((answer : Answer) × IsDecided home move decide absent answer decision)
IsDecidedBy home move decide absent (Some answer) decision = IsDecided home move decide absent answer decision

-- what was decided of the log of a step is reported
pub record ReportsStep (home : Home) (move : WholeLog → Move) (decide : WholeLog → Option Decision) (absent : Answer) (told : Option Answer) (stamp : Stamp) (old new : KeptOf Dated) : Type 0 where
  pub decision : Option Decision
  pub decided : IsDecidedBy home move decide absent told decision
  pub kept : new ≡ audited_if stamp decision old

-- by an offer at that moment, by the registry of that look
abbrev pub ReportsOffer : Home → History → ℕ → ℕ → ℕ → List ℕ → Result ℕ OfferFault → KeptOf Dated → KeptOf Dated → Type 0
ReportsOffer home look now client registration message result =
    ReportsStep home (offer_move (registry_of look) now client registration message) (offer_decision (registry_of look) client registration)
    (OfferedAs offered.Closed) (offer_answer result) (stamp_of look)

-- by a poll
abbrev pub ReportsPoll : Home → History → ℕ → ℕ → ℕ → ℕ → Result (List Fetched) PollFault → KeptOf Dated → KeptOf Dated → Type 0
ReportsPoll home look client subscription source limit result =
    ReportsStep home (poll_of (registry_of look) client subscription source limit) (decision_for source (poll_decision (registry_of look) client subscription))
    IsGone (poll_answer result) (stamp_of look)

-- nothing was decided by a step that was not taken: there was no look, or no memory
abbrev pub KeepsOffered : OfferFault → KeptOf Dated → KeptOf Dated → Type 0
KeepsOffered offers.NoLook old new = new ≡ old
KeepsOffered fault old new = Unit {0}

abbrev pub KeepsPolled : PollFault → KeptOf Dated → KeptOf Dated → Type 0
KeepsPolled polls.NoLook old new = new ≡ old
KeepsPolled polls.NoMemory old new = new ≡ old
KeepsPolled fault old new = Unit {0}

-- ---- a look at counters

-- by which decisions the client is not shown the others; nothing, where there was no look, or no memory
abbrev pub ReportsList : History → ℕ → Result Listed LookFault → KeptOf Dated → KeptOf Dated → Type 0
ReportsList look client (Ok rows) old new = new ≡ audited_all (stamp_of look) (left_out (registry_of look) client) old
ReportsList look client (Err fault) old new = new ≡ old

-- by which it is not shown that one
abbrev pub ReportsValue : History → Result Shown LookFault → KeptOf Dated → KeptOf Dated → Type 0
ReportsValue look (Ok shown) old new = new ≡ audited_if (stamp_of look) (shown_decision shown) old
ReportsValue look (Err fault) old new = new ≡ old
