-- Marking some pages of a table, and looking a page up, where the table is written in parts.
use Rattle.std.proofs.Common.{◌≡◌, ℕ, zero, suc, ◌+◌, ◌<◌, ◌≤◌, Bool, true, false, List, [], ◌∷◌, ◌++◌, length, get_or, take, drop, replicate, append_assoc, refl, sym, ap, ap₂, ◌∙◌, arith}
use Rattle.std.proofs.lemmas.List.{length-replicate, get_or_append_left, get_or-append-add, get_or-replicate}
use Rattle.std.proofs.Math.Seq.{take-append-add, drop-append-add, drop-append_seam}
use Rattle.log_arena.specs.Pages.{has_lease, IsFree, marked}

-- what stands behind xs is marked there
pub marked_behind : (b : Bool) (xs ys : List Bool) (at k n : ℕ) → at ≡ length xs + k → marked b at n (xs ++ ys) ≡ xs ++ marked b k n ys
unfolding marked
marked_behind b xs ys at k n e =
    let far : at + n ≡ length xs + (k + n) = omega arith in
    let front : take at (xs ++ ys) ≡ xs ++ take k ys = ap (λ m. take m (xs ++ ys)) e ∙ take-append-add xs ys k in
    let back : drop (at + n) (xs ++ ys) ≡ drop (k + n) ys = ap (λ m. drop m (xs ++ ys)) far ∙ drop-append-add xs ys (k + n) in
    ap₂ (λ u v. u ++ (replicate n b ++ v)) front back ∙ append_assoc xs (take k ys) (replicate n b ++ drop (k + n) ys)

-- xs are the pages that are marked
pub marked_front : (b : Bool) (xs ys : List Bool) (n : ℕ) → length xs ≡ n → marked b 0 n (xs ++ ys) ≡ replicate n b ++ ys
unfolding marked
marked_front b xs ys n e =
    let far : 0 + n ≡ length xs = omega arith in
    ap (λ v. replicate n b ++ v) (ap (λ m. drop m (xs ++ ys)) far ∙ drop-append_seam xs ys)

-- the pages behind xs are marked, n of one kind
pub marked_at : (b : Bool) (xs ys zs : List Bool) (at n : ℕ) → length xs ≡ at → length ys ≡ n → marked b at n (xs ++ (ys ++ zs)) ≡ xs ++ (replicate n b ++ zs)
marked_at b xs ys zs at n e f =
    let here : at ≡ length xs + 0 = omega arith in
    marked_behind b xs (ys ++ zs) at 0 n here ∙ ap (λ l. xs ++ l) (marked_front b ys zs n f)

pub length-marked : (b : Bool) (at n : ℕ) (t : List Bool) → at + n ≤ length t → length (marked b at n t) ≡ length t
unfolding marked
length-marked b at n t h = simp (Rattle.std.proofs.Common.length-append, length-replicate, Rattle.std.proofs.Common.length-drop) (let e = Rattle.std.proofs.lemmas.List.length-take-le at t in omega (arith, e (omega arith)))

-- what is free behind xs is free there
pub free_behind : (xs ys : List Bool) (at k n : ℕ) → at ≡ length xs + k → IsFree (xs ++ ys) at n → IsFree ys k n
free_behind xs ys at k n e free j h =
    let same : length xs + (k + j) ≡ at + j = omega arith in
    sym (get_or-append-add xs ys (k + j) true) ∙ ap (λ m. get_or (xs ++ ys) m true) same ∙ free j h

-- each of the first pages has a lease, or has none
pub first_pages : (b : Bool) (m p : ℕ) (ys : List Bool) → p < m → has_lease (replicate m b ++ ys) p ≡ b
first_pages b m p ys h =
    let within : p < length (replicate m b) = omega (arith, length-replicate m b) in
    get_or_append_left (replicate m b) ys true p within ∙ get_or-replicate m p b true h

-- a page of ys behind xs
pub page_behind : (xs ys : List Bool) (p k : ℕ) → p ≡ length xs + k → has_lease (xs ++ ys) p ≡ has_lease ys k
page_behind xs ys p k e = ap (λ m. get_or (xs ++ ys) m true) e ∙ get_or-append-add xs ys k true

-- where every page has a lease
pub all_leased : (m p : ℕ) → has_lease (replicate m true) p ≡ true
all_leased zero zero = refl
all_leased zero (suc p) = refl
all_leased (suc m) zero = refl
all_leased (suc m) (suc p) = all_leased m p

-- a run of n pages without a lease behind xs
pub free_at : (xs ys : List Bool) (m n at : ℕ) → length xs ≡ at → n ≤ m → IsFree (xs ++ (replicate m false ++ ys)) at n
free_at xs ys m n at e small k h =
    let same : at + k ≡ length xs + k = omega arith in
    ap (λ p. get_or (xs ++ (replicate m false ++ ys)) p true) same ∙ get_or-append-add xs (replicate m false ++ ys) k true ∙ first_pages false m k ys (omega arith)
