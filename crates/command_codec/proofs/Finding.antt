-- What a search of a list found.
use Rattle.std.proofs.Common.{◌≡◌, ℕ, Bool, true, false, cond, eqb, List, [], ◌∷◌, find, Option, Some, Ok, ok_or, refl, sym, ap, ◌∙◌, ◌⊎◌, inl, inr}
use Rattle.std.proofs.lemmas.Bool.{eqb-true}
use Rattle.command_codec.specs.declared.fault.CommandFault.{CommandFault}
use Rattle.command_codec.proofs.FieldLemmas.{was_some}

some_is : {A : Type 0} (x y : A) → Some x ≡ Some y → x ≡ y
some_is x y e = cc

-- the first that passes, or one after it
first_or_later : {A : Type 0} (b : Bool) (x y : A) (later : Option A) → cond b (Some x) later ≡ Some y → ((b ≡ true) × (x ≡ y)) ⊎ (later ≡ Some y)
first_or_later true x y later e = inl (refl, some_is x y e)
first_or_later false x y later e = inr e

pub found_passes : {A : Type 0} (p : A → Bool) (xs : List A) (y : A) → find p xs ≡ Some y → p y ≡ true
found_passes p [] y e = absurd cc
found_passes p (x ∷ xs) y e =
    elim (first_or_later (p x) x y (find p xs) e) [
      | inl here ↦ ap p (sym here.1) ∙ here.0
      | inr later ↦ found_passes p xs y later
    ]

-- what was found by a number has that number
pub found_by_number : {A : Type 0} (number_of : A → ℕ) (xs : List A) (fault : CommandFault) (number : ℕ) (y : A) → ok_or (find (λ x. eqb number (number_of x)) xs) fault ≡ Ok y → number ≡ number_of y
found_by_number number_of xs fault number y e =
    eqb-true number (number_of y) (found_passes (λ x. eqb number (number_of x)) xs y (was_some (find (λ x. eqb number (number_of x)) xs) fault y e))
