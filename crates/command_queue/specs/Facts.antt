-- What is known of a queue, and which moments of it that fits.
use Rattle.std.specs.Prelude.{◌≡◌, ◌<◌, ◌++◌, ℕ, List, [], ◌∷◌, All, length}
use Rattle.command_queue.specs.Letters.{of}
use Rattle.command_queue.specs.declared.known.Facts.{Facts}
use Rattle.command_queue.specs.declared.letter.Letter.{Letter}
use Rattle.command_queue.specs.declared.letter.SentBy.{SentBy}

-- the first list is a beginning of the second
abbrev pub Begins : {X : Type 0} → List X → List X → Type 0
Begins {X} part whole = (rest : List X) × (whole ≡ part ++ rest)

module _ {E : Type 0} where
  abbrev pub nothing : Facts E
  nothing = record { at_least = []; in_all = []; taken = [] }

  -- this sender sent at least this
  abbrev pub at_least : ℕ → List E → Facts E
  at_least number sent = record { at_least = record { number = number; sent = sent } ∷ []; in_all = []; taken = [] }

  -- this sender sent just this, and has ended
  abbrev pub in_all : ℕ → List E → Facts E
  in_all number sent = record { at_least = []; in_all = record { number = number; sent = sent } ∷ []; taken = [] }

  -- at least this was taken
  abbrev pub were_taken : List (Letter E) → Facts E
  were_taken letters = record { at_least = []; in_all = []; taken = letters ∷ [] }

  -- what is known by the one or by the other
  abbrev pub joined : Facts E → Facts E → Facts E
  joined mine its =
      record {
        at_least = its.at_least ++ mine.at_least;
        in_all = its.in_all ++ mine.in_all;
        taken = its.taken ++ mine.taken;
      }

  -- a moment at which the first letters had been taken, and the others were in the queue, fits what is known
  pub record Fits (gone letters : List (Letter E)) (facts : Facts E) : Type 0 where
    pub at_least : All (λ (by : SentBy E). Begins by.sent (of by.number (gone ++ letters))) facts.at_least
    pub in_all : All (λ (by : SentBy E). of by.number (gone ++ letters) ≡ by.sent) facts.in_all
    pub taken : All (λ (some : List (Letter E)). Begins some gone) facts.taken

  -- these letters were taken: with some that are still in the queue they fit what is known
  abbrev pub AreTaken : List (Letter E) → Facts E → Type 0
  AreTaken gone facts = (letters : List (Letter E)) × Fits gone letters facts

  -- With what was taken before, these letters have of this sender just what it sent. Each is of one of `total` senders, and they fit what is known.
  pub record AreSent (total number : ℕ) (sent : List E) (facts : Facts E) (letters : List (Letter E)) : Type 0 where
    pub gone : List (Letter E)
    pub own : of number (gone ++ letters) ≡ sent
    pub all : All (λ (letter : Letter E). letter.from < total) (gone ++ letters)
    pub fits : Fits gone letters facts

  -- at one moment so many such letters were in the queue
  abbrev pub DidHold : ℕ → ℕ → ℕ → List E → Facts E → Type 0
  DidHold count total number sent facts =
      (letters : List (Letter E)) × (length letters ≡ count) × AreSent total number sent facts letters

  -- at one moment 1,024 were
  abbrev pub WasFull : ℕ → ℕ → List E → Facts E → Type 0
  WasFull total number sent facts = DidHold 1024 total number sent facts
