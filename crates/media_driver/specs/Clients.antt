-- What a client is to its owner, and what its calls change of it. Own rules.
use Rattle.std.specs.Prelude.{◌≡◌, ◌≢◌, ℕ, Bool, ◌+◌, ◌-◌, ◌^◌, ◌≤◌, ◌⊎◌, min, All, length, List, [], ◌∷◌, ◌++◌, Option, Some, None, Result, Ok, Err}
use mathlib.Core.List.{IsPrefix}
use Rattle.audit_ring.specs.Audit.{KeptOf}
use Rattle.media_agents.specs.declared.journal.Dated.{Dated}
use Rattle.command_codec.specs.Command.{command_bytes}
use Rattle.command_codec.specs.declared.command.Body.{Body}
use Rattle.driver_core.specs.declared.state.event.Event.TheVariants.{Command}
use Rattle.media_agents.specs.Mails.{Posted}
use Rattle.media_agents.specs.Sharing.{IsFull, Sends, SendsNone, Sharing}
use Rattle.media_driver.specs.declared.faults.LookFault.{LookFault}
use Rattle.media_driver.specs.declared.faults.LookFault.TheVariants as looks
use Rattle.media_driver.specs.declared.faults.PushFault.{PushFault}
use Rattle.media_driver.specs.declared.faults.PushFault.TheVariants as pushes
use Rattle.published_registry.specs.Histories.{History, IsContinuedBy, Known}

-- the id by which the driver knows it; the correlation id of its last command; the greatest moment of its commands and offers;
-- the history that it saw or learned of; what was pushed of it, and how much of that it knows to be acknowledged; the mails that it took out of its ring, and those that it saw there;
-- how many of its messages were counted, and whether one was not, since no more could be; and what is kept of what was decided for
-- it
pub record Attached : Type 0 where
  pub number : ℕ
  pub correlation : ℕ
  pub moment : ℕ
  pub known : History
  pub commands : Sharing
  pub taken : List Posted
  pub waiting : List Posted
  pub counted : ℕ
  pub ended : Bool
  pub audited : KeptOf Dated

-- what a client has of a driver: the history that its pass saw or learned of, and what was pushed of it
pub record Seated : Type 0 where
  pub known : History
  pub commands : Sharing

-- ---- a command

-- the next correlation id: one more, up to the greatest number
abbrev pub next_correlation : ℕ → ℕ
next_correlation correlation = min (correlation + 1) (2 ^ 64 - 1)

-- a command of the client is pushed, under its next correlation id, at a moment not before its last one; nothing else changes
pub record Pushes (old new : Attached) (body : Body) (correlation : ℕ) : Type 0 where
  pub correlation_is : correlation ≡ next_correlation old.correlation
  pub later : old.moment ≤ new.moment
  pub sends :
      Sends (Command new.moment old.number (command_bytes (record { client = old.number; correlation = correlation; body = body })))
      old.commands new.commands
  pub new_is : new ≡ record old { correlation = correlation; moment = new.moment; commands = new.commands }

-- nothing is pushed, and nothing else changes
pub record PushesNone (old new : Attached) : Type 0 where
  pub sends : SendsNone old.commands new.commands
  pub new_is : new ≡ record old { commands = new.commands }

-- a push is refused as full only where all of the client's share was used up, or the queue held 1,024 events at one moment
abbrev pub MayRefuse : Sharing → PushFault → Type 0
MayRefuse commands pushes.QueueFull = IsFull commands
MayRefuse commands pushes.NoMemory = Unit {0}

-- the command is pushed; or it is refused, and nothing changes
abbrev pub Commands : Attached → Attached → Body → Result ℕ PushFault → Type 0
Commands old new body (Ok correlation) = Pushes old new body correlation
Commands old new body (Err fault) = PushesNone old new × MayRefuse new.commands fault

-- bytes are pushed as a command over the client's handle, at a moment not before its last one; nothing else changes
pub record Hands (old new : Attached) (bytes : List ℕ) : Type 0 where
  pub later : old.moment ≤ new.moment
  pub sends : Sends (Command new.moment old.number bytes) old.commands new.commands
  pub new_is : new ≡ record old { moment = new.moment; commands = new.commands }

-- they are; or they are refused, and nothing changes
abbrev pub HandsOn : {T : Type 0} → Attached → Attached → List ℕ → Result T PushFault → Type 0
HandsOn old new bytes (Ok _) = Hands old new bytes
HandsOn old new bytes (Err fault) = PushesNone old new × MayRefuse new.commands fault

-- ---- a look

-- the client knows as much of the history as before, or more, and nothing else changes
pub record Looks (old new : Attached) : Type 0 where
  pub known : IsContinuedBy old.known new.known
  pub new_is : new ≡ record old { known = new.known }

-- it does so, and what is decided by the look is kept
pub record Consults (old new : Attached) : Type 0 where
  pub known : IsContinuedBy old.known new.known
  pub new_is : new ≡ record old { known = new.known; audited = new.audited }

-- it looks, and it knows what the receipt names
pub record Learns (receipt : Known) (old new : Attached) : Type 0 where
  pub looks : Looks old new
  pub learned : IsPrefix receipt.entries new.known.entries

-- nothing changes where the registry gave no look
abbrev pub IsUnseen : Attached → Attached → LookFault → Type 0
IsUnseen old new looks.NoLook = new ≡ old
IsUnseen old new looks.NoMemory = Unit {0}

-- ---- mail

-- a mail is taken out of the ring, whosever it is; or none is there
abbrev pub Pops : Attached → Attached → Option Posted → Type 0
Pops old new None = new ≡ record old { waiting = [] }
Pops old new (Some mail) = new ≡ record old { taken = old.taken ++ mail ∷ []; waiting = new.waiting }

-- mails are taken out of the ring that are none of the client's own: they were for an earlier client of that ring
pub record PassesOver (passed : List Posted) (old new : Attached) : Type 0 where
  pub others : All (λ (mail : Posted). mail.client ≢ old.number) passed
  pub new_is : new ≡ record old { taken = old.taken ++ passed; waiting = new.waiting }

-- so it ends with none of its own: no mail is left, or 257 were passed over, one more than a ring holds
pub record FindsNone (old new : Attached) : Type 0 where
  pub passed : List Posted
  pub passes : PassesOver passed old new
  pub ends : (new.waiting ≡ []) ⊎ (length passed ≡ 257)

-- or with one of its own, whose receipt the client learns
pub record FindsOwn (mail : Posted) (old new : Attached) : Type 0 where
  pub passed : List Posted
  pub others : All (λ (mail : Posted). mail.client ≢ old.number) passed
  pub own : mail.client ≡ old.number
  pub known : IsContinuedBy old.known new.known
  pub learned : IsPrefix mail.receipt.entries new.known.entries
  pub new_is :
      new
      ≡ record old {
        known = new.known;
        taken = (old.taken ++ passed) ++ mail ∷ [];
        waiting = new.waiting;
      }

abbrev pub TakesMail : Attached → Attached → Option Posted → Type 0
TakesMail old new None = FindsNone old new
TakesMail old new (Some mail) = FindsOwn mail old new
