-- What goes with a registration.
use Rattle.std.proofs.Common.{◌≡◌, ℕ, zero, suc, ◌<◌, Bool, true, false, ◌==◌, ◌&&◌, ◌||◌, List, [], ◌∷◌, length, slice_index_or, refl, ap, arith}
use Rattle.std.specs.List.{list_any}
use Rattle.stream_registry.specs.declared.row.Registration.{Registration}
use Rattle.stream_registry.specs.Leaving.{is_own_registration, is_own_with}

-- what is the client's own, with some log, is its own

own_step : (own with rest others : Bool) → (rest ≡ true → others ≡ true) → ((own && with) || rest) ≡ true → (own || others) ≡ true
own_step true with rest others more any = refl
own_step false with rest others more any = more any

pub own_with : (client number source : ℕ) (rows : List Registration) → list_any (is_own_with client number source) rows ≡ true →
    list_any (is_own_registration client number) rows ≡ true
own_with client number source [] any = any
own_with client number source (row ∷ rows) any =
    own_step (is_own_registration client number row) (row.source == source) (list_any (is_own_with client number source) rows)
    (list_any (is_own_registration client number) rows) (own_with client number source rows) any

-- where one stands at a place, there is one

either : (b c : Bool) → c ≡ true → (b || c) ≡ true
either true c is = refl
either false c is = is

pub any_here : {X : Type 0} (test : X → Bool) (xs : List X) (i : ℕ) → i < length xs → ((d : X) → test (slice_index_or xs i d) ≡ true) →
    list_any test xs ≡ true
any_here test [] i below is = absurd (omega (arith, below))
any_here test (x ∷ xs) zero below is = ap (λ (b : Bool). b || list_any test xs) (is x)
any_here test (x ∷ xs) (suc i) below is = either (test x) (list_any test xs) (any_here test xs i (omega (arith, below)) is)
