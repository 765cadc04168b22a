-- What a client's offer and poll are answered: the answer of a step on one log, by the registry that the client saw last. Of an
-- answer that the log is closed, that the subscription does not read it, or that there was no look, nothing is said: what a
-- lock guards is known to whoever holds it, and a slot with no log answers so. Own rules.
use Rattle.std.specs.Prelude.{◌≡◌, ℕ, ◌+◌, ◌⊎◌, true, List, Option, Some, None, Result, Ok, Err, IfSome}
use Rattle.driver_core.specs.State.{State}
use Rattle.log_steps.specs.declared.answer.Answer.{Answer}
use Rattle.log_steps.specs.declared.answer.Answer.TheVariants.{Denied as IsDenied, Gone as IsGone, Offered as OfferedAs, Polled}
use Rattle.log_steps.specs.declared.answer.Offered.TheVariants as offered
use Rattle.log_steps.specs.Held.{HeldLog}
use Rattle.log_steps.specs.Moves.{Move, WholeLog, for_source, offer_move, poll_move}
use Rattle.log_arena.specs.Homes.{Home}
use Rattle.log_pairs.specs.Polling.{Fetched}
use Rattle.log_slots.specs.Slots.{GivesIn, IsLocked, Moves, SlotLog}
use Rattle.media_driver.specs.Clients.{Attached}
use Rattle.media_driver.specs.declared.faults.OfferFault.{OfferFault}
use Rattle.media_driver.specs.declared.faults.OfferFault.TheVariants as offers
use Rattle.media_driver.specs.declared.faults.PollFault.{PollFault}
use Rattle.media_driver.specs.declared.faults.PollFault.TheVariants as polls

-- the log that a lock guards moved so, and that is the answer; where none was open, it is the one for that
pub record IsStep (home : Home) (move : WholeLog → Move) (absent answer : Answer) : Type 0 where
  pub slot : SlotLog
  pub locked : IsLocked home slot
  pub new : Option HeldLog
  pub moves : Moves move absent slot.log new answer

-- the log that a lock guards gives something by such a move
pub record IsGiving (home : Home) (move : WholeLog → Move) : Type 0 where
  pub slot : SlotLog
  pub locked : IsLocked home slot
  pub gives : GivesIn move slot.log

-- how a step is answered that gives this; `None` where no step on a log was taken, or none that the answer speaks of
abbrev pub offer_answer : Result ℕ OfferFault → Option Answer
offer_answer (Ok position) = Some (OfferedAs (offered.At position))
offer_answer (Err (offers.Denied verdict)) = Some (IsDenied verdict)
offer_answer (Err offers.TooLong) = Some (OfferedAs offered.TooLong)
offer_answer (Err offers.NotConnected) = Some (OfferedAs offered.NotConnected)
offer_answer (Err offers.MaxPosition) = Some (OfferedAs offered.MaxPositionExceeded)
offer_answer (Err offers.BackPressured) = Some (OfferedAs offered.BackPressured)
offer_answer (Err offers.AdminAction) = Some (OfferedAs offered.AdminAction)
offer_answer (Err offers.Closed) = None
offer_answer (Err offers.NoLook) = None

abbrev pub poll_answer : Result (List Fetched) PollFault → Option Answer
poll_answer (Ok fragments) = Some (Polled fragments)
poll_answer (Err (polls.Denied verdict)) = Some (IsDenied verdict)
poll_answer (Err polls.Gone) = None
poll_answer (Err polls.NoLook) = None
poll_answer (Err polls.NoMemory) = None

-- an offer at that moment, by that registry
abbrev pub IsOffer : Home → State → ℕ → ℕ → ℕ → List ℕ → Result ℕ OfferFault → Type 0
IsOffer home s now client registration message result =
    IfSome (offer_answer result) (IsStep home (offer_move s now client registration message) (OfferedAs offered.Closed))

-- a poll of the log of that source
abbrev pub poll_of : State → ℕ → ℕ → ℕ → ℕ → WholeLog → Move
poll_of s client subscription source limit = for_source source (poll_move s client subscription limit) IsGone

-- a poll by that registry
abbrev pub IsPoll : Home → State → ℕ → ℕ → ℕ → ℕ → Result (List Fetched) PollFault → Type 0
IsPoll home s client subscription source limit result =
    IfSome (poll_answer result) (IsStep home (poll_of s client subscription source limit) IsGone)

-- there is no memory for a poll only where the log gives fragments
abbrev pub MayLack : Home → (WholeLog → Move) → PollFault → Type 0
MayLack home move polls.NoMemory = IsGiving home move
MayLack home move fault = Unit {0}

-- one more message is counted, or no more could be
abbrev pub CountsOne : Attached → Attached → Type 0
CountsOne old new = (new.counted ≡ old.counted + 1) ⊎ ((new.counted ≡ old.counted) × (new.ended ≡ true))

-- a message that was taken counts once more, unless no more are counted; nothing else counts
abbrev pub Counts : {T E : Type 0} → Result T E → Attached → Attached → Type 0
Counts (Ok position) old new = CountsOne old new
Counts (Err fault) old new = new.counted ≡ old.counted
