-- The limits are kept, whatever is called.
use Rattle.std.specs.Prelude.{◌≡◌, ℕ, ◌≤◌, ℤ, true, List, length, Ok}
use Rattle.stream_registry.specs.declared.measures.Measures.{Measures}
use Rattle.stream_registry.specs.declared.wanted.Adding.{Adding}
use Rattle.stream_registry.specs.declared.wanted.ImageWanted.{ImageWanted}
use Rattle.stream_registry.specs.declared.wanted.Wanted.{Wanted}
use Rattle.stream_registry.specs.Adding.{adding_of, added, has_room_for_subscription, subscribed}
use Rattle.stream_registry.specs.Few.{AreFew}
use Rattle.stream_registry.specs.Images.{has_room_for_image, imaged, without_images}
use Rattle.stream_registry.specs.Leaving.{unregistered, unsubscribed, left}
use Rattle.stream_registry.specs.Lingering.{closed}
use Rattle.stream_registry.specs.Streams.{Streams, opened, cleared}
use Rattle.channel_uri.specs.Channel.{Shape}

-- at most 256 publications and 512 images, 1,024 registrations and 512 subscriptions
pub record IsWithinLimits (s : Streams) : Type 0 where
  pub logs : AreFew s.sources
  pub registrations : length s.registrations ≤ 1024
  pub subscriptions : length s.subscriptions ≤ 512

-- so it is at first, and after each call
pub record StaysWithinLimits : Type 0 where
  pub opened : (defaults : Measures) (first : ℤ) → IsWithinLimits (opened defaults first)
  pub added : (s : Streams) (number client place : ℕ) (wanted : Wanted) (adding : Adding) → IsWithinLimits s →
      adding_of s wanted ≡ Ok adding → IsWithinLimits (added s number client wanted place adding)
  pub imaged : (s : Streams) (number place : ℕ) (wanted : ImageWanted) → IsWithinLimits s → has_room_for_image s ≡ true →
      IsWithinLimits (imaged s number wanted place)
  pub subscribed : (s : Streams) (number client : ℕ) (channel : Shape) (stream : ℤ) → IsWithinLimits s →
      has_room_for_subscription s ≡ true → IsWithinLimits (subscribed s number client channel stream)
  pub unregistered : (s : Streams) (client number now : ℕ) → IsWithinLimits s → IsWithinLimits (unregistered s client number now)
  pub unsubscribed : (s : Streams) (client number : ℕ) → IsWithinLimits s → IsWithinLimits (unsubscribed s client number)
  pub left : (s : Streams) (client now : ℕ) → IsWithinLimits s → IsWithinLimits (left s client now)
  pub closed : (s : Streams) (now : ℕ) (silent : List ℕ) → IsWithinLimits s → IsWithinLimits (closed s now silent)
  pub without_images : (s : Streams) (numbers : List ℕ) → IsWithinLimits s → IsWithinLimits (without_images s numbers)
  pub cleared : (s : Streams) → IsWithinLimits s → IsWithinLimits (cleared s)
