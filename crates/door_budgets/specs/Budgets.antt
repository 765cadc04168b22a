-- What the clients of all doors took. Own rules; moments and times are in nanoseconds.
use Rattle.std.specs.Prelude.{◌≡◌, ℕ, Bool, List, [], ◌∷◌, ◌++◌, map, Result, Ok, Err}
use Rattle.door_budgets.specs.Taking.{after_taking_by, count_at_work}
use Rattle.door_budgets.specs.declared.taken.Taken.{Taken}

pub record Budgeted : Type 0 where
  pub processors : ℕ
  pub doors : List Taken

abbrev pub new_budget : ℕ → Budgeted
new_budget processors = record { processors = processors; doors = [] }

abbrev pub new_door : ℕ → Taken
new_door principal = record { principal = principal; last = 0; even = 0 }

-- one more door stands last; or there was no memory, and nothing changed
abbrev pub IsOpened : {E : Type 0} → ℕ → Budgeted → Budgeted → Result Unit E → Type 0
IsOpened principal old new (Ok done) = new ≡ record old { doors = old.doors ++ new_door principal ∷ [] }
IsOpened principal old new (Err fault) = new ≡ old

-- it is the door of that principal that took it, and its part is one of as many as are at work with it
abbrev pub after_spending : ℕ → ℕ → ℕ → Bool → Budgeted → Budgeted
after_spending principal now spent carries budget =
    record budget { doors = map (after_taking_by principal now spent (count_at_work principal now budget.doors) carries budget.processors) budget.doors }
