-- How many commands of one client may lie in the queue. Own rules.
use Rattle.std.specs.Prelude.{◌≡◌, ◌≤◌, ◌+◌, ◌⊎◌, ◌++◌, ◌∷◌, [], ℕ, Bool, true, false, length}
use Rattle.command_queue.specs.declared.known.Facts.{Facts}
use Rattle.command_queue.specs.Facts.{WasFull}
use Rattle.command_queue.specs.Sent.{Sent}
use Rattle.driver_core.specs.declared.state.event.Event.{Event}

-- what was sent of a client, and how much of that it knows the conductor to have acknowledged
pub record Sharing : Type 0 where
  pub queue : Sent Event
  pub acknowledged : ℕ

-- what was sent is within the share: it is 256 more than what is known to be acknowledged, at most
abbrev pub IsWithin : Sharing → Type 0
IsWithin sharing = length sharing.queue.sent ≤ sharing.acknowledged + 256

-- it is all of the share
abbrev pub IsUsedUp : Sharing → Type 0
IsUsedUp sharing = length sharing.queue.sent ≡ sharing.acknowledged + 256

-- nothing is sent, and more may be known to be acknowledged
pub record SendsNone (old new : Sharing) : Type 0 where
  pub more : old.acknowledged ≤ new.acknowledged
  pub new_is : new ≡ record old { acknowledged = new.acknowledged }

-- the event is sent within the share, and more may be known to be acknowledged
pub record Sends (event : Event) (old new : Sharing) : Type 0 where
  pub more : old.acknowledged ≤ new.acknowledged
  pub within : IsWithin new
  pub new_is : new ≡ record new { queue = record old.queue { sent = old.queue.sent ++ event ∷ [] } }

-- the share is used up, or the queue held 1,024 events at one moment
abbrev pub IsFull : Sharing → Type 0
IsFull sharing =
    IsUsedUp sharing ⊎ ((facts : Facts Event) × WasFull sharing.queue.total sharing.queue.number sharing.queue.sent facts)

-- how many marks stand in the ring that are of no command yet
abbrev pub count_of : Bool → ℕ
count_of false = 0
count_of true = 1

-- how many commands of a client the conductor acknowledged, and for how many more it has seen a mark
pub record Acknowledging : Type 0 where
  pub acknowledged : ℕ
  pub marks : ℕ

-- One command more is acknowledged, and more marks may be seen; or none is, as no mark was there to be seen.
abbrev pub Acknowledges : Acknowledging → Acknowledging → Type 0
Acknowledges old new =
    ((new.acknowledged ≡ old.acknowledged + 1) × (old.marks ≤ new.marks + 1)) ⊎ ((old.marks ≡ 0) × (new ≡ old))
