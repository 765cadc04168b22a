-- What a filter leaves.
use Rattle.std.proofs.Common.{◌≡◌, Bool, true, arith, List, [], ◌∷◌, ap, ◌∙◌, ⊎_elim}
use Rattle.std.specs.List.{Contains, filter}
use Rattle.std.proofs.lemmas.List.Elements.{Contains-append_cases, Contains-append_left, Contains-append_right, Contains-push_cases, filter-append, All-contains, All-contains_itself, All-filter}

-- what is left was there
pub left_was_there : {X : Type 0} (test : X → Bool) (xs : List X) (x : X) → Contains (filter test xs) x → Contains xs x
left_was_there test xs x has =
    All-contains (Contains xs) (filter test xs) x (All-filter test (Contains xs) xs (All-contains_itself xs)) has

pub only_one : {X : Type 0} (y x : X) → Contains (y ∷ []) x → y ≡ x
only_one y x has = ⊎_elim (λ none. absurd (omega (arith, none.1))) (λ is. is) (Contains-push_cases [] y x has)

-- what passes is left
pub passes_are_left : {X : Type 0} (test : X → Bool) (xs : List X) (x : X) → test x ≡ true → Contains xs x →
    Contains (filter test xs) x
passes_are_left test [] x passes has = has
passes_are_left test (y ∷ ys) x passes has =
    rw (filter-append test (y ∷ []) ys)
    (⊎_elim
    (λ first.
    let here : test y ≡ true = ap test (only_one y x first) ∙ passes in
    Contains-append_left (filter test (y ∷ [])) (filter test ys) x (rw here first))
    (λ later. Contains-append_right (filter test (y ∷ [])) (filter test ys) x (passes_are_left test ys x passes later))
    (Contains-append_cases (y ∷ []) ys x has))

-- nothing is in the empty list
pub contains_none : {X : Type 0} (x : X) → Contains [] x → ⊥
contains_none x has = omega (arith, has.1)
