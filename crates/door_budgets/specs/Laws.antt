-- What the clients of a door take in a time who rest for it. Own rules; moments and times are in nanoseconds.
use Rattle.std.specs.Prelude.{◌+◌, ◌<◌, ◌≤◌, ◌^◌, ℕ, List, [], ◌∷◌}
use Rattle.door_budgets.specs.Taking.{after_taking, due_for}
use Rattle.door_budgets.specs.declared.taken.Taken.{Taken}

-- at that moment so much was taken, where so many doors were at work
pub record Spell : Type 0 where
  pub now : ℕ
  pub spent : ℕ
  pub doors : ℕ
  pub processors : ℕ

abbrev pub due : Spell → ℕ
due spell = due_for spell.spent spell.doors spell.processors

-- how long their part takes to make up for all of that
abbrev pub dues : List Spell → ℕ
dues [] = 0
dues (spell ∷ spells) = due spell + dues spells

abbrev pub after : Taken → Spell → Taken
after door spell = after_taking door spell.now spell.spent spell.doors spell.processors

abbrev pub after_all : Taken → List Spell → Taken
after_all door [] = door
after_all door (spell ∷ spells) = after_all (after door spell) spells

-- what they took is made up for by that moment, but for ten milliseconds
abbrev pub IsRested : Taken → ℕ → Type 0
IsRested door now = door.even ≤ now + 10000000

-- They rested before each spell, and none is so long that something of it is forgiven. The clock is a second from its end at least.
abbrev pub Rests : Taken → List Spell → Type 0
Rests door [] = Unit {0}
Rests door (spell ∷ spells) =
    IsRested door spell.now × (due spell ≤ 990000000) × (spell.now + 1000000000 < 2 ^ 64) × Rests (after door spell) spells

-- What is due from the first of these spells on is no more than the time until they are rested again, and ten milliseconds.
abbrev pub WhoRestsKeepsToItsPart : Type 0
WhoRestsKeepsToItsPart =
    (door : Taken) (first : Spell) (spells : List Spell) (now : ℕ)
    → Rests door (first ∷ spells) → IsRested (after_all door (first ∷ spells)) now → first.now + dues (first ∷ spells) ≤ now + 10000000
