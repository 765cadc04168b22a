-- The events of a sender among letters, and what holds of each of a list.
use Rattle.std.proofs.Common.{◌≡◌, ◌≢◌, ◌⊎◌, ◌<◌, ◌≤◌, ◌==◌, if◌then◌else◌, ℕ, Bool, zero, suc, true, false, List, [], ◌∷◌, ◌++◌, length, set, All, sym, refl, ap, ◌∙◌, subst, inl, inr, ⊎_elim, append-nil, eq-eqb, ne_eqb, arith}
use Rattle.std.proofs.lemmas.List.Elements.{All-append, All-nil}
use mathlib.Core.Option.{some, some-injective, some-ne-none}
use lib.ListN.{get_elem?}
use Rattle.crossbeam_queue.proofs.Lists.{at_set}
use Rattle.command_queue.specs.Letters.{of}
use Rattle.command_queue.specs.declared.letter.Letter.{Letter}

module _ {X : Type 0} where
  pub one : (P : X → Type 0) (x : X) → P x → All P (x ∷ [])
  one P x p zero d lt = p
  one P x p (suc k) d lt = absurd (omega arith)

  pub more : (P : X → Type 0) (x : X) (xs : List X) → P x → All P xs → All P (x ∷ xs)
  more P x xs p all = All-append P (x ∷ []) xs (one P x p) all

  pub all_of : (P Q : X → Type 0) (xs : List X) → ((x : X) → P x → Q x) → All P xs → All Q xs
  all_of P Q xs to all k d lt = to _ (all k d lt)

  pub all_both : (P Q S : X → Type 0) (xs : List X) → ((x : X) → P x → Q x → S x) → All P xs → All Q xs → All S xs
  all_both P Q S xs to p q k d lt = to _ (p k d lt) (q k d lt)

  -- what stands in a list with one more at its end stands in the list, or is that one
  pub at_end : (l : List X) (a b : X) (j : ℕ) → get_elem? (l ++ a ∷ []) j ≡ some b → (get_elem? l j ≡ some b) ⊎ ((j ≡ length l) × (a ≡ b))
  at_end [] a b zero e = inr (refl, some-injective a b e)
  at_end [] a b (suc j) e = absurd (some-ne-none b (sym e))
  at_end (x ∷ xs) a b zero e = inl e
  at_end (x ∷ xs) a b (suc j) e = ⊎_elim (λ is. inl is) (λ is. inr (ap suc is.0, is.1)) (at_end xs a b j e)

  pub all_left : (P : X → Type 0) (xs ys : List X) → All P (xs ++ ys) → All P xs
  all_left P [] ys all = All-nil P
  all_left P (x ∷ xs) ys all = more P x xs (all 0 x (omega arith)) (all_left P xs ys (λ k d lt. all (suc k) d (omega (arith, lt))))

  -- what holds at each place of a list, holds still where one element is changed, or one added at the end
  pub one_set : (P : ℕ → X → Type 0) (l : List X) (i : ℕ) (w : X) → P i w → ((j : ℕ) (u : X) → j ≢ i → get_elem? l j ≡ some u → P j u)
      → (j : ℕ) (u : X) → get_elem? (set l i w) j ≡ some u → P j u
  one_set P l i w new old j u e =
      ⊎_elim
      (λ is. subst (λ (k : ℕ). P k u) (sym is.0) (subst (P i) is.1 new))
      (λ was. old j u was.0 was.1)
      (at_set l i j w u e)

  pub one_end : (P : ℕ → X → Type 0) (l : List X) (b : X) → P (length l) b → ((j : ℕ) (u : X) → get_elem? l j ≡ some u → P j u)
      → (j : ℕ) (u : X) → get_elem? (l ++ b ∷ []) j ≡ some u → P j u
  one_end P l b new old j u e =
      ⊎_elim
      (λ was. old j u was)
      (λ is. subst (λ (k : ℕ). P k u) (sym is.0) (subst (P (length l)) is.1 new))
      (at_end l b u j e)

  -- the same of each two places
  pub two_set : (Q : ℕ → X → ℕ → X → Type 0) (l : List X) (i : ℕ) (w : X) → Q i w i w
      → ((k : ℕ) (y : X) → k ≢ i → get_elem? l k ≡ some y → Q i w k y × Q k y i w)
      → ((j : ℕ) (u : X) (k : ℕ) (y : X) → get_elem? l j ≡ some u → get_elem? l k ≡ some y → Q j u k y)
      → (j : ℕ) (u : X) (k : ℕ) (y : X) → get_elem? (set l i w) j ≡ some u → get_elem? (set l i w) k ≡ some y → Q j u k y
  two_set Q l i w new each old j u k y e e' =
      one_set (λ (n : ℕ) (x : X). Q n x k y) l i w
      (one_set (λ (n : ℕ) (x : X). Q i w n x) l i w new (λ n x other at. (each n x other at).0) k y e')
      (λ n x other at. one_set (λ (n' : ℕ) (x' : X). Q n x n' x') l i w (each n x other at).1 (λ n' x' other' at'. old n x n' x' at at') k y e')
      j u e

  pub two_end : (Q : ℕ → X → ℕ → X → Type 0) (l : List X) (b : X) → Q (length l) b (length l) b
      → ((k : ℕ) (y : X) → get_elem? l k ≡ some y → Q (length l) b k y × Q k y (length l) b)
      → ((j : ℕ) (u : X) (k : ℕ) (y : X) → get_elem? l j ≡ some u → get_elem? l k ≡ some y → Q j u k y)
      → (j : ℕ) (u : X) (k : ℕ) (y : X) → get_elem? (l ++ b ∷ []) j ≡ some u → get_elem? (l ++ b ∷ []) k ≡ some y → Q j u k y
  two_end Q l b new each old j u k y e e' =
      one_end (λ (n : ℕ) (x : X). Q n x k y) l b
      (one_end (λ (n : ℕ) (x : X). Q (length l) b n x) l b new (λ n x at. (each n x at).0) k y e')
      (λ n x at. one_end (λ (n' : ℕ) (x' : X). Q n x n' x') l b (each n x at).1 (λ n' x' at'. old n x n' x' at at') k y e')
      j u e

module _ {E : Type 0} where
  chosen : (b : Bool) (event : E) (xs ys all : List E) → all ≡ xs ++ ys → (if b then event ∷ all else all) ≡ (if b then event ∷ xs else xs) ++ ys
  chosen true event xs ys all h = ap (λ l. event ∷ l) h
  chosen false event xs ys all h = h

  pub of_append : (number : ℕ) (xs ys : List (Letter E)) → of number (xs ++ ys) ≡ of number xs ++ of number ys
  of_append number [] ys = refl
  of_append number (x ∷ xs) ys = chosen (x.from == number) x.event (of number xs) (of number ys) (of number (xs ++ ys)) (of_append number xs ys)

  pub of_own : (number : ℕ) (xs : List (Letter E)) (x : Letter E) → x.from ≡ number → of number (xs ++ x ∷ []) ≡ of number xs ++ x.event ∷ []
  of_own number xs x own =
      of_append number xs (x ∷ [])
      ∙ ap (λ (b : Bool). of number xs ++ (if b then x.event ∷ [] else [])) (eq-eqb x.from number own)

  pub of_other : (number : ℕ) (xs : List (Letter E)) (x : Letter E) → x.from ≢ number → of number (xs ++ x ∷ []) ≡ of number xs
  of_other number xs x other =
      of_append number xs (x ∷ [])
      ∙ ap (λ (b : Bool). of number xs ++ (if b then x.event ∷ [] else [])) (ne_eqb x.from number other)
      ∙ append-nil (of number xs)

  pub of_none : (number made : ℕ) (xs : List (Letter E)) → All (λ (x : Letter E). x.from < made) xs → made ≤ number → of number xs ≡ []
  of_none number made [] all le = refl
  of_none number made (x ∷ xs) all le =
      let first : x.from < made = all 0 x (omega arith) in
      let other : x.from ≢ number = λ same. omega (arith, same) in
      ap (λ (b : Bool). if b then x.event ∷ of number xs else of number xs) (ne_eqb x.from number other)
      ∙ of_none number made xs (λ k d lt. all (suc k) d (omega arith)) le

  -- where there is one sender, all letters are its own
  pub of_lone : (xs : List (Letter E)) → All (λ (x : Letter E). x.from < 1) xs → length (of 0 xs) ≡ length xs
  of_lone [] all = refl
  of_lone (x ∷ xs) all =
      let first : x.from < 1 = all 0 x (omega arith) in
      let own : x.from ≡ 0 = omega arith in
      ap (λ (b : Bool). length (if b then x.event ∷ of 0 xs else of 0 xs)) (eq-eqb x.from 0 own)
      ∙ ap suc (of_lone xs (λ k d lt. all (suc k) d (omega arith)))
