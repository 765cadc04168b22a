-- A network in memory: what is on its way, and what the calls make of it.
use Rattle.std.specs.Prelude.{◌≡◌, ◌≤◌, ℕ, ◌+◌, ◌-◌, ◌^◌, List, [], ◌∷◌, ◌++◌, Option, Some, None, MatchOption, length, min}
use Rattle.std.specs.List.{find, insert, position_or_len, remove, slice_get}
use Rattle.channel_uri.specs.declared.address.Address.{Address}
use Rattle.media_wire.specs.Events.{Event, sent, read, nothing, failed, counted}
use Rattle.media_wire.specs.Letters.{is_for}
use Rattle.media_wire.specs.declared.letter.Letter.{Letter}
use Rattle.media_wire.specs.declared.network.Fate.{Fate}
use Rattle.media_wire.specs.declared.network.Fate.TheVariants.{Arrives, IsLost, IsRepeated, Overtakes}

-- the letters that are on their way, and of how many letters the fate is used up
pub record Flight : Type 0 where
  pub letters : List Letter
  pub turn : ℕ

-- with the fates of the first letters that are sent, and how many calls failed as far as a number of 64 bits counts
pub record Net : Type 0 where
  pub fates : List Fate
  pub flight : Flight
  pub failures : ℕ

abbrev pub start : Flight
start = record { letters = []; turn = 0 }

abbrev pub opened : List Fate → Net
opened fates = record { fates = fates; flight = start; failures = 0 }

-- what becomes of the letters on their way by one that is sent with this fate
abbrev pub carried : Fate → Letter → List Letter → List Letter
carried Arrives it letters = letters ++ it ∷ []
carried IsLost it letters = letters
carried IsRepeated it letters = letters ++ it ∷ it ∷ []
carried Overtakes it letters = insert letters (length letters - 1) it

-- letters that have no fate arrive
abbrev pub launched : Option Fate → Letter → Flight → Flight
launched (Some fate) it flight = record { letters = carried fate it flight.letters; turn = flight.turn + 1 }
launched None it flight = record flight { letters = carried Arrives it flight.letters }

-- the letters once the first that goes to an address is taken
abbrev pub without_first : Address → List Letter → List Letter
without_first address letters = remove letters (position_or_len (is_for address) letters)

-- what an event makes of what is on its way: what is sent joins it, and what is read is the first that goes there
abbrev pub Leads : List Fate → Flight → Event → Flight → Type 0
Leads fates flight (sent it) next = next ≡ launched (slice_get fates flight.turn) it flight
Leads fates flight (read it) next =
    (find (is_for it.to) flight.letters ≡ Some it) × (next ≡ record flight { letters = without_first it.to flight.letters })
Leads fates flight (nothing address) next = (find (is_for address) flight.letters ≡ None) × (next ≡ flight)
Leads fates flight failed next = next ≡ flight

-- and one after the other
abbrev pub LeadAll : List Fate → Flight → List Event → Flight → Type 0
LeadAll fates flight [] next = next ≡ flight
LeadAll fates flight (event ∷ events) next = (mid : Flight) × Leads fates flight event mid × LeadAll fates mid events next

-- these events, and no others, made the network what it is
pub record Goes (net : Net) (events : List Event) : Type 0 where
  pub flight : LeadAll net.fates start events net.flight
  pub failures : net.failures ≡ counted events

-- a call failed
abbrev pub failed_once : Net → Net
failed_once net = record net { failures = min (net.failures + 1) (2 ^ 64 - 1) }

-- a letter was sent
abbrev pub flying : Net → Letter → Net
flying net it = record net { flight = launched (slice_get net.fates net.flight.turn) it net.flight }

-- the first letter that goes to an address was taken, if there is one
abbrev pub taken : Net → Address → Net → Option Letter → Type 0
taken net address next found = MatchOption found ((find (is_for address) net.flight.letters ≡ None) × (next ≡ net))
    (λ it. (find (is_for address) net.flight.letters ≡ Some it) × (it.to ≡ address) × (length it.bytes ≤ 65507)
    × (next ≡ record net { flight = record net.flight { letters = without_first address net.flight.letters } }))
