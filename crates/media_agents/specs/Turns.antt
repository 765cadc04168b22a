-- A turn of the conductor: which events it took, and which entries it made of them. Own rules.
use Rattle.std.specs.Prelude.{◌≡◌, ℕ, ◌+◌, ◌-◌, ◌<◌, ◌^◌, ◌⊎◌, List, [], ◌∷◌, ◌++◌, length, map}
use Rattle.command_queue.specs.declared.known.Facts.{Facts}
use Rattle.command_queue.specs.declared.letter.Letter.{Letter}
use Rattle.command_queue.specs.Facts.{Fits}
use Rattle.command_queue.specs.Taken.{Taken}
use Rattle.driver_core.specs.declared.state.entry.Entry.{Entry}
use Rattle.driver_core.specs.declared.state.event.Event.{Event}

-- the events of the entries, in order
abbrev pub events_in : List Entry → List Event
events_in entries = map (λ entry. entry.event) entries

module _ {E : Type 0} where
  -- the history has a number left for one entry more
  abbrev pub HasRoom : List E → Type 0
  HasRoom history = length history + 1 < 2 ^ 64

  -- the history is at the last number, and no entry comes any more
  abbrev pub IsAtLast : List E → Type 0
  IsAtLast history = length history ≡ 2 ^ 64 - 1

  abbrev pub events_of : List (Letter E) → List E
  events_of letters = map (λ letter. letter.event) letters

  -- 1,024 events were taken, or all up to a moment at which the queue was empty, which fits what is known of it
  abbrev pub Enough : Taken E → List (Letter E) → Facts E → Type 0
  Enough old letters facts = (length letters ≡ 1024) ⊎ Fits (old.taken ++ letters) [] facts

-- what makes entries of events, with the history of each state of it. From one state to the other an entry was made of an event,
-- and all that follows it was done, where Does says so; it was refused memory, where Misses says so.
module _ {S E : Type 0} (history : S → List E) (Does Misses : S → E → S → Type 0) where
  -- while the history had a number left an entry was made of the event, or none, as one of so many that were refused memory
  pub data OneServed (event : E) (before : S) (misses : ℕ) (Rest : S → ℕ → Type 0) : Type 0 where
    made : HasRoom (history before) → (next : S) → history next ≡ history before ++ event ∷ [] → Does before event next → Rest next misses → OneServed event before misses Rest
    missed : HasRoom (history before) → (next : S) → history next ≡ history before → Misses before event next → (fewer : ℕ) → misses ≡ fewer + 1 → Rest next fewer → OneServed event before misses Rest

  -- of these events entries were made, each once and in order, but for so many that were refused memory; none of these events
  -- came once the history was at its last number
  abbrev pub Served : List E → S → S → ℕ → Type 0
  Served [] after before misses = (after ≡ before) × (misses ≡ 0)
  Served (event ∷ events) after before misses = OneServed event before misses (Served events after)

  -- these events were taken, and entries made of them, but for so many
  pub record Takes (old new : Taken E) (letters : List (Letter E)) (before after : S) (misses : ℕ) : Type 0 where
    pub taker : new ≡ record old { taken = old.taken ++ letters }
    pub served : Served (events_of letters) after before misses

  -- so were all that a turn takes, or all that the history has numbers for
  pub record TakesAll (old new : Taken E) (facts : Facts E) (before after : S) (misses : ℕ) : Type 0 where
    pub letters : List (Letter E)
    pub takes : Takes old new letters before after misses
    pub enough : Enough old letters facts ⊎ IsAtLast (history after)

  -- Events were taken from the queue. Of all that a turn takes and then of its tick entries were made, in order, but of as many
  -- as it says; or the history is at its last number, and neither an event nor the tick was taken any more.
  pub record Turned (old new : Taken E) (facts : Facts E) (tick : E) (before after : S) (misses : ℕ) : Type 0 where
    pub letters : List (Letter E)
    pub taker : new ≡ record old { taken = old.taken ++ letters }
    pub served : (Enough old letters facts × Served (events_of letters ++ tick ∷ []) after before misses)
        ⊎ (IsAtLast (history after) × Served (events_of letters) after before misses)
