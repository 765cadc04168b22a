-- What holds of every table of destinations that calls make.
use Rattle.std.specs.Prelude.{◌≡◌, ℕ, ◌<◌, ◌≤◌, ◌==◌, true, false, List, [], ◌∷◌, length, Ok}
use Rattle.std.specs.List.{AllByRecursion, list_any}
use Rattle.channel_uri.specs.declared.address.Address.{Address}
use Rattle.channel_uri.specs.Channel.{Shape}
use Rattle.destinations.specs.declared.destination.Destination.{Destination}
use Rattle.destinations.specs.Destinations.{DestinationList, none, of, has, adding, added, without, without_sources, cleared}

-- the numbers rise, the first is above `low`, and none is above `last`
abbrev pub Rises : ℕ → ℕ → List Destination → Type 0
Rises low last [] = low ≤ last
Rises low last (destination ∷ rows) = (low < destination.number) × Rises destination.number last rows

-- no log has an address twice
abbrev pub AreOnce : List Destination → Type 0
AreOnce [] = Unit {0}
AreOnce (destination ∷ rows) = (has rows destination.source destination.address ≡ false) × AreOnce rows

-- no two destinations have one number, the one that is given next is above them all, no log has more than 32, and none has
-- an address twice
pub record AreOrderly (last : ℕ) (rows : List Destination) : Type 0 where
  pub rise : Rises 0 last rows
  pub few : (source : ℕ) → length (of rows source) ≤ 32
  pub once : AreOnce rows

abbrev pub IsOrderly : DestinationList → Type 0
IsOrderly destinations = AreOrderly destinations.last destinations.rows

-- the table is orderly at first, and each call leaves an orderly one
pub record StaysOrderly : Type 0 where
  pub none : IsOrderly none
  pub added : (destinations : DestinationList) (source number : ℕ) (address : Address) (principal : ℕ) (channel : Shape) → IsOrderly destinations →
      adding destinations source address ≡ Ok number → IsOrderly (added destinations source address principal channel)
  pub without : (destinations : DestinationList) (source : ℕ) (address : Address) → IsOrderly destinations →
      IsOrderly (without destinations source address)
  pub without_sources : (destinations : DestinationList) (sources : List ℕ) → IsOrderly destinations →
      IsOrderly (without_sources destinations sources)
  pub cleared : (destinations : DestinationList) → IsOrderly destinations → IsOrderly (cleared destinations)

-- the log is among these
abbrev pub IsAmong : List ℕ → ℕ → Type 0
IsAmong sources source = list_any (λ other. other == source) sources ≡ true

-- where 256 logs have all destinations, and one of them has not 32 yet, there is room for one more
abbrev pub RoomIsForEverySource : Type 0
RoomIsForEverySource =
    (destinations : DestinationList) (sources : List ℕ) (source : ℕ) → IsOrderly destinations → length sources ≤ 256 →
    AllByRecursion (λ destination. IsAmong sources destination.source) destinations.rows → IsAmong sources source →
    length (of destinations.rows source) < 32 → length destinations.rows < 8192
