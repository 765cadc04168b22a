-- Places of a region: a lease that is given back leaves what was there before it, and one place alone is the least.
use Rattle.std.proofs.Common.{◌≡◌, ◌⊎◌, ℕ, zero, suc, ◌+◌, ◌<◌, Bool, true, false, List, [], ◌∷◌, ◌++◌, inl, inr, take, drop, replicate, refl, ap, subst, ◌∙◌, arith}
use Rattle.std.proofs.lemmas.Bool.{cases_order}
use Rattle.log_arena.specs.Pages.{HasNoPlace, IsFree, IsLeastPlace, has_lease, marked}

-- ---- marks

marked_first : (b : Bool) (n : ℕ) (t : List Bool) → marked b 0 n t ≡ replicate n b ++ drop n t
unfolding marked
marked_first b n t = ap (λ m. replicate n b ++ drop m t) (let e : 0 + n ≡ n = omega arith in e)

marked_later : (b : Bool) (at n : ℕ) (x : Bool) (t : List Bool) → marked b (suc at) n (x ∷ t) ≡ x ∷ marked b at n t
unfolding marked
marked_later b at n x t = ap (λ m. x ∷ (take at t ++ (replicate n b ++ drop m (x ∷ t)))) (let e : suc at + n ≡ suc (at + n) = omega arith in e)

-- the first n pages are without a lease
first_free : (n : ℕ) (t : List Bool) → ((k : ℕ) → k < n → has_lease t k ≡ false) → replicate n false ++ drop n t ≡ t
first_free zero t free = refl
first_free (suc n) [] free = absurd (cc (free 0 (omega arith)))
first_free (suc n) (true ∷ t) free = absurd (cc (free 0 (omega arith)))
first_free (suc n) (false ∷ t) free = ap (λ ys. false ∷ ys) (first_free n t (λ k less. free (suc k) (omega (arith, less))))

dropped : (n : ℕ) (b : Bool) (t : List Bool) → drop n (replicate n b ++ t) ≡ t
dropped zero b t = refl
dropped (suc n) b t = dropped n b t

all_leased : (p : ℕ) → has_lease [] p ≡ true
all_leased zero = refl
all_leased (suc p) = refl

given_back : (at n : ℕ) (t : List Bool) → 0 < n → IsFree t at n → marked false at n (marked true at n t) ≡ t
given_back zero n t some free =
    ap (λ ys. marked false 0 n ys) (marked_first true n t)
    ∙ marked_first false n (replicate n true ++ drop n t)
    ∙ ap (λ ys. replicate n false ++ ys) (dropped n true (drop n t))
    ∙ first_free n t (λ k less. subst (λ p. has_lease t p ≡ false) (let e : 0 + k ≡ k = omega arith in e) (free k less))
given_back (suc at) n [] some free = absurd (cc (all_leased (suc at + 0), free 0 some))
given_back (suc at) n (x ∷ t) some free =
    ap (λ ys. marked false (suc at) n ys) (marked_later true at n x t)
    ∙ marked_later false at n x (marked true at n t)
    ∙ ap (λ ys. x ∷ ys) (given_back at n t some (λ k less. subst (λ p. has_lease (x ∷ t) p ≡ false) (let e : suc at + k ≡ suc (at + k) = omega arith in e) (free k less)))

-- ---- the least place

pub least_given_back : (at n : ℕ) (t : List Bool) → 0 < n → IsLeastPlace t n at → marked false at n (marked true at n t) ≡ t
unfolding IsLeastPlace
least_given_back at n t some least = given_back at n t some least.0

pub no_least : (at n : ℕ) (t : List Bool) → HasNoPlace t n → ¬ IsLeastPlace t n at
unfolding IsLeastPlace HasNoPlace
no_least at n t none least = none at least.0

by_order : (a b n : ℕ) (t : List Bool) → IsLeastPlace t n a → IsLeastPlace t n b → (a ≡ b) ⊎ ((a < b) ⊎ (b < a)) → a ≡ b
unfolding IsLeastPlace
by_order a b n t one other (inl same) = same
by_order a b n t one other (inr (inl below)) = absurd (other.1 a below one.0)
by_order a b n t one other (inr (inr above)) = absurd (one.1 b above other.0)

-- there is one least place
pub one_least : (a b n : ℕ) (t : List Bool) → IsLeastPlace t n a → IsLeastPlace t n b → a ≡ b
one_least a b n t one other = by_order a b n t one other (cases_order a b)
