-- A log goes to the least place that is free, and no two logs ever share a page.
use Rattle.std.specs.Prelude.{◌≡◌, ℕ, ◌+◌, ◌<◌, ◌≤◌, ℤ, List, All, AllPairs, Some, None}
use Rattle.stream_registry.specs.declared.measures.Measures.{Measures}
use Rattle.stream_registry.specs.declared.row.LogRow.{LogRow}
use Rattle.stream_registry.specs.declared.wanted.Adding.TheVariants.{Join, Make}
use Rattle.stream_registry.specs.declared.wanted.ImageWanted.{ImageWanted}
use Rattle.stream_registry.specs.declared.wanted.Wanted.{Wanted}
use Rattle.stream_registry.specs.Adding.{added, subscribed}
use Rattle.stream_registry.specs.Images.{image_place_for, imaged, without_images}
use Rattle.stream_registry.specs.Leaving.{unregistered, unsubscribed, left}
use Rattle.stream_registry.specs.Lingering.{closed}
use Rattle.stream_registry.specs.LogPages.{free_place, log_pages, place_for}
use Rattle.stream_registry.specs.Streams.{Streams, opened, cleared}
use Rattle.channel_uri.specs.Channel.{Shape}

-- the page is one of those from `place` on
abbrev pub IsAmong : ℕ → ℕ → ℕ → Type 0
IsAmong place pages page = (place ≤ page) × (page < place + pages)

-- page of the log
abbrev pub HasPage : LogRow → ℕ → Type 0
HasPage log page = IsAmong log.place (log_pages log) page

-- so many pages from `place` on are pages of the arena, and no live log has one of them
pub record IsVacant (s : Streams) (arena_pages pages place : ℕ) : Type 0 where
  pub within : place + pages ≤ arena_pages
  pub free : All (λ log. (page : ℕ) → IsAmong place pages page → ¬ HasPage log page) s.sources

-- the place that is found is vacant, none below it is, and none is found only where none is vacant
pub record PlacesAreLeast : Type 0 where
  pub vacant : (s : Streams) (arena_pages pages place : ℕ) → free_place s arena_pages pages ≡ Some place →
      IsVacant s arena_pages pages place
  pub least : (s : Streams) (arena_pages pages place lower : ℕ) → free_place s arena_pages pages ≡ Some place →
      lower < place → ¬ IsVacant s arena_pages pages lower
  pub none : (s : Streams) (arena_pages pages place : ℕ) → free_place s arena_pages pages ≡ None →
      ¬ IsVacant s arena_pages pages place

-- the two logs have no page in common
abbrev pub ShareNoPage : LogRow → LogRow → Type 0
ShareNoPage log other = (page : ℕ) → HasPage log page → ¬ HasPage other page

-- all logs lie within the arena, and no two have a page in common
pub record IsLaidOut (arena_pages : ℕ) (s : Streams) : Type 0 where
  pub within : All (λ log. log.place + log_pages log ≤ arena_pages) s.sources
  pub apart : AllPairs ShareNoPage s.sources

-- so it is at first, and after each call, where each log that is made goes to the place for it
pub record StaysLaidOut (arena_pages : ℕ) : Type 0 where
  pub opened : (defaults : Measures) (first : ℤ) → IsLaidOut arena_pages (opened defaults first)
  pub made : (s : Streams) (number client place : ℕ) (wanted : Wanted) (session : ℤ) → IsLaidOut arena_pages s →
      place_for s arena_pages wanted ≡ Some place →
      IsLaidOut arena_pages (added s number client wanted place (Make session))
  pub joined : (s : Streams) (number client place source : ℕ) (wanted : Wanted) (session : ℤ) → IsLaidOut arena_pages s →
      IsLaidOut arena_pages (added s number client wanted place (Join source session))
  pub imaged : (s : Streams) (number place : ℕ) (wanted : ImageWanted) → IsLaidOut arena_pages s →
      image_place_for s arena_pages wanted ≡ Some place → IsLaidOut arena_pages (imaged s number wanted place)
  pub subscribed : (s : Streams) (number client : ℕ) (channel : Shape) (stream : ℤ) → IsLaidOut arena_pages s →
      IsLaidOut arena_pages (subscribed s number client channel stream)
  pub unregistered : (s : Streams) (client number now : ℕ) → IsLaidOut arena_pages s →
      IsLaidOut arena_pages (unregistered s client number now)
  pub unsubscribed : (s : Streams) (client number : ℕ) → IsLaidOut arena_pages s →
      IsLaidOut arena_pages (unsubscribed s client number)
  pub left : (s : Streams) (client now : ℕ) → IsLaidOut arena_pages s → IsLaidOut arena_pages (left s client now)
  pub closed : (s : Streams) (now : ℕ) (silent : List ℕ) → IsLaidOut arena_pages s → IsLaidOut arena_pages (closed s now silent)
  pub without_images : (s : Streams) (numbers : List ℕ) → IsLaidOut arena_pages s →
      IsLaidOut arena_pages (without_images s numbers)
  pub cleared : (s : Streams) → IsLaidOut arena_pages s → IsLaidOut arena_pages (cleared s)

-- whatever the arena
abbrev pub PlacesShareNothing : Type 0
PlacesShareNothing = (arena_pages : ℕ) → StaysLaidOut arena_pages
