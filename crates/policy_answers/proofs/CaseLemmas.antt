-- No case fails exactly where each passes.
use Rattle.std.proofs.Common.{◌≡◌, ◌==◌, List, [], ◌∷◌, Option, Some, None, is_none, length, refl, arith}
use Rattle.std.specs.List.{list_all}
use Rattle.std.specs.Prelude.{filter_map}
use Rattle.std.proofs.lemmas.Bool.{ne_eqb}

none_from : {X Y : Type 0} (failure : X → Option Y) (x : X) (xs : List X) (found : Option Y) → failure x ≡ found →
    (length (filter_map failure xs) == 0) ≡ list_all (λ y. is_none (failure y)) xs →
    (length (filter_map failure (x ∷ xs)) == 0) ≡ list_all (λ y. is_none (failure y)) (x ∷ xs)
none_from failure x xs None is later = rw is later
none_from failure x xs (Some found) is later = rw is (ne_eqb _ 0 (λ e. omega arith))

pub none_fails : {X Y : Type 0} (failure : X → Option Y) (xs : List X) → (length (filter_map failure xs) == 0) ≡ list_all (λ x. is_none (failure x)) xs
none_fails failure [] = refl
none_fails failure (x ∷ xs) = none_from failure x xs (failure x) refl (none_fails failure xs)
