-- What the receiver pushes into the queue of events: SETUPs, few in a turn. Own rules.
use Rattle.std.specs.Prelude.{◌≡◌, ℕ, ◌+◌, ◌<◌, ◌≤◌, ◌⊎◌, List, [], ◌∷◌, ◌++◌, All, Result, Ok, Err, length}
use Rattle.channel_uri.specs.declared.address.Address.{Address}
use Rattle.command_queue.specs.declared.known.Facts.{Facts}
use Rattle.command_queue.specs.Facts.{DidHold}
use Rattle.command_queue.specs.Sent.{Sent}
use Rattle.driver_core.specs.declared.state.event.Event.{Event}
use Rattle.driver_core.specs.declared.state.event.Event.TheVariants.{Setup as SetUp}
use Rattle.frame_codec.specs.declared.fault.BadPacket.{BadPacket}
use Rattle.frame_codec.specs.declared.setup.Setup.{Setup}
use Rattle.frame_codec.specs.Datagram.{Content, setup}

-- what it sent, and how many more it may push in this turn
pub record SettingUp : Type 0 where
  pub queue : Sent Event
  pub left : ℕ

-- at one moment so many events were in the queue
abbrev pub Held : ℕ → Sent Event → Type 0
Held count queue = (facts : Facts Event) × DidHold count queue.total queue.number queue.sent facts

-- at one moment half of the queue's places were free, or more
abbrev pub HadRoom : Sent Event → Type 0
HadRoom queue = (count : ℕ) × (count ≤ 512) × Held count queue

-- at one moment fewer were
abbrev pub HadNone : Sent Event → Type 0
HadNone queue = (count : ℕ) × (512 < count) × Held count queue

-- the event goes to the conductor
pub record Goes (event : Event) (old new : SettingUp) : Type 0 where
  pub room : HadRoom old.queue
  pub queue : new.queue ≡ record old.queue { sent = old.queue.sent ++ event ∷ [] }
  pub left : old.left ≡ new.left + 1

-- it is lost: only where this turn pushed as many as it may, or too few places were free
abbrev pub IsLost : SettingUp → SettingUp → Type 0
IsLost old new = (new ≡ old) × ((old.left ≡ 0) ⊎ HadNone old.queue)

abbrev pub GoesOrIsLost : Event → SettingUp → SettingUp → Type 0
GoesOrIsLost event old new = Goes event old new ⊎ IsLost old new

-- what a datagram pushes that came there from there: the SETUP that it is, with both addresses; any other pushes nothing
abbrev pub SetsUpAs : ℕ → Address → Address → Content → SettingUp → SettingUp → Type 0
SetsUpAs now local from (setup fields) old new = GoesOrIsLost (SetUp now local from fields) old new
SetsUpAs now local from other old new = new ≡ old

abbrev pub SetsUpIfRead : ℕ → Address → Address → Result Content BadPacket → SettingUp → SettingUp → Type 0
SetsUpIfRead now local from (Ok what) old new = SetsUpAs now local from what old new
SetsUpIfRead now local from (Err fault) old new = new ≡ old

-- a SETUP that came at that moment
abbrev pub IsSetUp : ℕ → Event → Type 0
IsSetUp now event = (local : Address) × (from : Address) × (fields : Setup) × (event ≡ SetUp now local from fields)

-- further events were pushed, each a SETUP that came at that moment
abbrev pub Pushes : ℕ → List Event → Sent Event → Sent Event → Type 0
Pushes now more old new = All (IsSetUp now) more × (new ≡ record old { sent = old.sent ++ more })

-- so they were, each as one of those that it may push
pub record SetsUp (now : ℕ) (old new : SettingUp) : Type 0 where
  pub more : List Event
  pub pushes : Pushes now more old.queue new.queue
  pub left : old.left ≡ new.left + length more

-- so were 64 at most
pub record SetsUpFew (now : ℕ) (old new : Sent Event) : Type 0 where
  pub more : List Event
  pub pushes : Pushes now more old new
  pub few : length more ≤ 64
