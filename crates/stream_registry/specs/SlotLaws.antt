-- What holds of the slots that logs are given.
use Rattle.std.specs.Prelude.{◌≡◌, ℕ, ◌<◌, ℤ, Bool, true, false, List, All, AllPairs, Ok}
use Rattle.stream_registry.specs.declared.measures.Measures.{Measures}
use Rattle.stream_registry.specs.declared.row.LogRow.{LogRow}
use Rattle.stream_registry.specs.declared.wanted.Adding.{Adding}
use Rattle.stream_registry.specs.declared.wanted.ImageWanted.{ImageWanted}
use Rattle.stream_registry.specs.declared.wanted.Wanted.{Wanted}
use Rattle.stream_registry.specs.Adding.{adding_of, added, subscribed}
use Rattle.stream_registry.specs.Images.{has_room_for_image, imaged, without_images}
use Rattle.stream_registry.specs.Leaving.{unregistered, unsubscribed, left}
use Rattle.stream_registry.specs.Lingering.{closed}
use Rattle.stream_registry.specs.Origins.{is_published}
use Rattle.stream_registry.specs.Slots.{free_slot, is_slot_taken}
use Rattle.stream_registry.specs.Streams.{Streams, opened, cleared}
use Rattle.channel_uri.specs.Channel.{Shape}

-- no live log of the kind has the slot, and each number below it one of them has
pub record IsLeastSlot (published : Bool) (logs : List LogRow) (slot : ℕ) : Type 0 where
  pub is_free : is_slot_taken published logs slot ≡ false
  pub taken_below : (lower : ℕ) → lower < slot → is_slot_taken published logs lower ≡ true

-- publications have slots below 256, images below 512
abbrev pub limit_of : Bool → ℕ
limit_of true = 256
limit_of false = 512

abbrev pub IsInReach : LogRow → Type 0
IsInReach log = log.slot < limit_of (is_published log)

-- of two logs of one kind, each has a slot of its own
abbrev pub ShareNoSlot : LogRow → LogRow → Type 0
ShareNoSlot log other = is_published log ≡ is_published other → ¬ (log.slot ≡ other.slot)

pub record HasOwnSlots (s : Streams) : Type 0 where
  pub within : All IsInReach s.sources
  pub apart : AllPairs ShareNoSlot s.sources

-- the least free slot is found, and all logs have slots of their own, at first and after each call
pub record SlotsAreFree : Type 0 where
  pub least : (published : Bool) (logs : List LogRow) → IsLeastSlot published logs (free_slot published logs)
  pub opened : (defaults : Measures) (first : ℤ) → HasOwnSlots (opened defaults first)
  pub added : (s : Streams) (number client place : ℕ) (wanted : Wanted) (adding : Adding) → HasOwnSlots s →
      adding_of s wanted ≡ Ok adding → HasOwnSlots (added s number client wanted place adding)
  pub imaged : (s : Streams) (number place : ℕ) (wanted : ImageWanted) → HasOwnSlots s → has_room_for_image s ≡ true →
      HasOwnSlots (imaged s number wanted place)
  pub subscribed : (s : Streams) (number client : ℕ) (channel : Shape) (stream : ℤ) → HasOwnSlots s →
      HasOwnSlots (subscribed s number client channel stream)
  pub unregistered : (s : Streams) (client number now : ℕ) → HasOwnSlots s → HasOwnSlots (unregistered s client number now)
  pub unsubscribed : (s : Streams) (client number : ℕ) → HasOwnSlots s → HasOwnSlots (unsubscribed s client number)
  pub left : (s : Streams) (client now : ℕ) → HasOwnSlots s → HasOwnSlots (left s client now)
  pub closed : (s : Streams) (now : ℕ) (silent : List ℕ) → HasOwnSlots s → HasOwnSlots (closed s now silent)
  pub without_images : (s : Streams) (numbers : List ℕ) → HasOwnSlots s → HasOwnSlots (without_images s numbers)
  pub cleared : (s : Streams) → HasOwnSlots s → HasOwnSlots (cleared s)
