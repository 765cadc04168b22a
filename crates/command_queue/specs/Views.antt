-- What the passes of a queue know, and the rule that holds of that and of what the queue holds.
use Rattle.std.specs.Prelude.{◌≡◌, ◌<◌, ◌≤◌, ◌≢◌, ◌+◌, ◌++◌, ℕ, true, false, List, [], ◌∷◌, All}
use mathlib.Core.Option.{some}
use lib.ListN.{get_elem?}
use Rattle.command_queue.specs.Facts.{Fits, nothing, joined}
use Rattle.command_queue.specs.Letters.{of}
use Rattle.command_queue.specs.declared.known.Facts.{Facts}
use Rattle.command_queue.specs.declared.letter.Letter.{Letter}
use Rattle.command_queue.specs.declared.letter.SentBy.{SentBy}
use Rattle.command_queue.specs.declared.rule.View.{View}

module _ {E : Type 0} where
  -- a new queue's taker, for so many senders, of which so many were made
  abbrev pub taking : ℕ → ℕ → View E
  taking total made =
      record { takes = true; sends = false; total = total; number = 0; sent = []; made = made; taken = []; facts = nothing }

  -- a new sender, by its number
  abbrev pub sending : ℕ → ℕ → View E
  sending total number =
      record { takes = false; sends = true; total = total; number = number; sent = []; made = 0; taken = []; facts = nothing }

  -- neither, but it knows this
  abbrev pub knowing : Facts E → View E
  knowing facts =
      record { takes = false; sends = false; total = 0; number = 0; sent = []; made = 0; taken = []; facts = facts }

  abbrev pub resting : View E
  resting = knowing nothing

  -- one more sender is to be made
  abbrev pub counted : View E → View E
  counted view = record view { total = view.total + 1 }

  -- the taker once a sender was made, and that sender
  abbrev pub hiring : View E → View E
  hiring view = record view { made = view.made + 1 }

  abbrev pub hired : View E → View E
  hired view = sending view.total view.made

  -- one that has heard what another pass knows
  abbrev pub hearing : View E → View E → View E
  hearing view its = record view { facts = joined view.facts its.facts }

  -- a sender once a letter was put, and the taker once one was taken
  abbrev pub with_sent : View E → Letter E → View E
  with_sent view letter = record view { sent = view.sent ++ letter.event ∷ [] }

  abbrev pub with_taken : View E → Letter E → View E
  with_taken view letter = record view { taken = view.taken ++ letter ∷ [] }

  -- the taker's view fits: it is the only one, and knows all that was taken
  abbrev pub IsTaker : ℕ → ℕ → ℕ → List (Letter E) → ℕ → View E → Type 0
  IsTaker place total made gone seat view =
      (seat ≡ place) × (view.total ≡ total) × (view.made ≡ made) × (view.taken ≡ gone)

  -- a sender's view fits: all letters that there were have of it just what it sent
  abbrev pub IsSender : ℕ → ℕ → List (Letter E) → View E → Type 0
  IsSender total made letters view =
      (view.total ≡ total) × (view.number < made) × (of view.number letters ≡ view.sent)

  -- what is known fits, and those that have ended were made
  abbrev pub Knows : ℕ → List (Letter E) → List (Letter E) → Facts E → Type 0
  Knows made gone letters facts =
      Fits gone letters facts × All (λ (by : SentBy E). by.number < made) facts.in_all

  pub record IsView (place total made : ℕ) (gone letters : List (Letter E)) (seat : ℕ) (view : View E) : Type 0 where
    pub taker : view.takes ≡ true → IsTaker place total made gone seat view
    pub sender : view.sends ≡ true → IsSender total made (gone ++ letters) view
    pub knows : Knows made gone letters view.facts

  -- no two send by one number, and none sends of which another knows that it has ended
  abbrev pub AreApart : ℕ → View E → ℕ → View E → Type 0
  AreApart seat view other its =
      (view.sends ≡ true → its.sends ≡ true → view.number ≡ its.number → seat ≡ other)
      × (its.sends ≡ true → All (λ (by : SentBy E). by.number ≢ its.number) view.facts.in_all)

  -- all letters that there were are of senders that were made, and each view fits
  pub record Delivers (letters : List (Letter E)) (views : List (View E)) : Type 0 where
    pub place : ℕ
    pub total : ℕ
    pub made : ℕ
    pub gone : List (Letter E)
    pub few : made ≤ total
    pub each : All (λ (letter : Letter E). letter.from < made) (gone ++ letters)
    pub one : (seat : ℕ) (view : View E) → get_elem? views seat ≡ some view → IsView place total made gone letters seat view
    pub two : (seat : ℕ) (view : View E) (other : ℕ) (its : View E) → get_elem? views seat ≡ some view → get_elem? views other ≡ some its
        → AreApart seat view other its
