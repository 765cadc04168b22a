-- The principals that rules name.
use Rattle.std.specs.Prelude.{◌≡◌, ◌||◌, ◌==◌, ℕ, Bool, List}
use Rattle.std.specs.List.{list_any}

-- the number is one of these
abbrev pub is_among : List ℕ → ℕ → Bool
is_among numbers number = list_any (λ other. other == number) numbers

-- the chosen numbers are put among the others
pub record AddsNamed (old new : List ℕ) (chosen : ℕ → Bool) : Type 0 where
  pub all : (number : ℕ) → is_among new number ≡ (is_among old number || chosen number)
