-- Lists of which a part is kept.
use Rattle.std.proofs.Common.{◌≡◌, Bool, true, false, cond, List, [], ◌∷◌, ◌++◌, map, filter, refl, ap, ◌∙◌}
use Rattle.std.specs.List.{All, flat_map, list_any}
use Rattle.std.specs.Prelude.{◌&&◌, ◌||◌}
use Rattle.std.proofs.lemmas.List.Elements.{All-head, All-tail, filter-append}

-- tests that agree on these rows keep the same ones
pub filter_alike : {X : Type 0} (p q : X → Bool) (xs : List X) → All (λ x. p x ≡ q x) xs → filter p xs ≡ filter q xs
filter_alike p q [] h = refl
filter_alike p q (x ∷ xs) h =
    let e : p x ≡ q x = All-head (λ y. p y ≡ q y) x xs h in
    rw e (ap (λ (rest : List _). cond (q x) (x ∷ rest) rest) (filter_alike p q xs (All-tail (λ y. p y ≡ q y) x xs h)))

pub map_alike : {X Y : Type 0} (f g : X → Y) (xs : List X) → ((x : X) → f x ≡ g x) → map f xs ≡ map g xs
map_alike f g [] h = refl
map_alike {X} {Y} f g (x ∷ xs) h = rw (h x) (ap (λ (rest : List Y). g x ∷ rest) (map_alike f g xs h))

pub flat_alike : {X Y : Type 0} (f g : X → List Y) (xs : List X) → ((x : X) → f x ≡ g x) → flat_map f xs ≡ flat_map g xs
flat_alike f g [] h = refl
flat_alike {X} {Y} f g (x ∷ xs) h = rw (h x) (ap (λ (rest : List Y). g x ++ rest) (flat_alike f g xs h))

-- what a function can't tell apart
pub map_through : {X Y : Type 0} (f : X → Y) (g : X → X) (xs : List X) → ((x : X) → f (g x) ≡ f x) → map f (map g xs) ≡ map f xs
map_through f g [] h = refl
map_through {X} {Y} f g (x ∷ xs) h = rw (h x) (ap (λ (rest : List Y). f x ∷ rest) (map_through f g xs h))

pub flat_through : {X Y : Type 0} (f : X → List Y) (g : X → X) (xs : List X) → ((x : X) → f (g x) ≡ f x) →
    flat_map f (map g xs) ≡ flat_map f xs
flat_through f g [] h = refl
flat_through {X} {Y} f g (x ∷ xs) h = rw (h x) (ap (λ (rest : List Y). f x ++ rest) (flat_through f g xs h))

pub none_pass : {X : Type 0} (xs : List X) → filter (λ (x : X). false) xs ≡ []
none_pass [] = refl
none_pass (x ∷ xs) = none_pass xs

pub all_pass : {X : Type 0} (xs : List X) → filter (λ (x : X). true) xs ≡ xs
all_pass [] = refl
all_pass {X} (x ∷ xs) = ap (λ (rest : List X). x ∷ rest) (all_pass xs)

-- a part of a part
two_tests : {X : Type 0} (a b : Bool) (p q : X → Bool) (x : X) (xs : List X) → p x ≡ a → q x ≡ b →
    filter p (filter q xs) ≡ filter q (filter p xs) → filter p (filter q (x ∷ xs)) ≡ filter q (filter p (x ∷ xs))
two_tests {X} true true p q x xs e f h = rw (e, f) (rw e (ap (λ (rest : List X). x ∷ rest) h))
two_tests true false p q x xs e f h = rw (e, f) h
two_tests false true p q x xs e f h = rw (e, f) (rw e h)
two_tests false false p q x xs e f h = rw (e, f) h

pub filter_swap : {X : Type 0} (p q : X → Bool) (xs : List X) → filter p (filter q xs) ≡ filter q (filter p xs)
filter_swap p q [] = refl
filter_swap p q (x ∷ xs) = two_tests (p x) (q x) p q x xs refl refl (filter_swap p q xs)

both_tests : {X : Type 0} (b : Bool) (p q : X → Bool) (x : X) (rest : List X) (others : List X) → q x ≡ b →
    filter p rest ≡ others → filter p (cond b (x ∷ rest) rest) ≡ cond (b && p x) (x ∷ others) others
both_tests {X} true p q x rest others e h = ap (λ (ys : List X). cond (p x) (x ∷ ys) ys) h
both_tests false p q x rest others e h = h

pub filter_both : {X : Type 0} (p q : X → Bool) (xs : List X) → filter p (filter q xs) ≡ filter (λ x. q x && p x) xs
filter_both p q [] = refl
filter_both p q (x ∷ xs) =
    both_tests (q x) p q x (filter q xs) (filter (λ y. q y && p y) xs) refl (filter_both p q xs)

-- a test of what a function gives
one_mapped : {X Y : Type 0} (b : Bool) (f : X → Y) (x : X) (rest : List X) (others : List Y) → others ≡ map f rest →
    cond b (f x ∷ others) others ≡ map f (cond b (x ∷ rest) rest)
one_mapped {X} {Y} true f x rest others h = ap (λ (ys : List Y). f x ∷ ys) h
one_mapped false f x rest others h = h

pub filter_mapped : {X Y : Type 0} (t : Y → Bool) (f : X → Y) (xs : List X) →
    filter t (map f xs) ≡ map f (filter (λ x. t (f x)) xs)
filter_mapped t f [] = refl
filter_mapped t f (x ∷ xs) =
    one_mapped (t (f x)) f x (filter (λ y. t (f y)) xs) (filter t (map f xs)) (filter_mapped t f xs)

-- a test of what a list for each row has
pub filter_flat : {X Y : Type 0} (t : Y → Bool) (f : X → List Y) (xs : List X) →
    filter t (flat_map f xs) ≡ flat_map (λ x. filter t (f x)) xs
filter_flat t f [] = refl
filter_flat {X} {Y} t f (x ∷ xs) =
    filter-append t (f x) (flat_map f xs) ∙ ap (λ (rest : List Y). filter t (f x) ++ rest) (filter_flat t f xs)

-- any of a part
any_part : {X : Type 0} (b : Bool) (t p : X → Bool) (x : X) (rest : List X) →
    p x ≡ b → list_any t (cond b (x ∷ rest) rest) ≡ ((b && t x) || list_any t rest)
any_part true t p x rest e = refl
any_part false t p x rest e = refl

pub any_filtered : {X : Type 0} (t p : X → Bool) (xs : List X) → list_any t (filter p xs) ≡ list_any (λ x. p x && t x) xs
any_filtered t p [] = refl
any_filtered t p (x ∷ xs) =
    any_part (p x) t p x (filter p xs) refl ∙ ap (λ (rest : Bool). (p x && t x) || rest) (any_filtered t p xs)
