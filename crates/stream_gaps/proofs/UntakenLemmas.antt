-- What is forgotten of the messages that were taken makes no difference later.
use Rattle.std.proofs.Common.{◌≡◌, ℕ, ◌≤◌, Bool, true, false, cond, List, [], ◌∷◌, nat_lt, refl, ap, arith}
use Rattle.std.proofs.lemmas.Bool.{ltb-false, le-ltb}
use Rattle.stream_gaps.specs.Untaken.{after}

one_more : (taken position end : ℕ) → taken ≤ position → (kept later : List ℕ) → after position kept ≡ later → (passes : Bool) →
    nat_lt taken end ≡ passes → after position (cond passes (end ∷ kept) kept) ≡ cond (nat_lt position end) (end ∷ later) later
one_more taken position end within kept later same true is = ap (λ (rest : List ℕ). cond (nat_lt position end) (end ∷ rest) rest) same
one_more taken position end within kept later same false is = rw (le-ltb position end (omega (arith, ltb-false taken end is, within))) same

pub still_after : (taken position : ℕ) → taken ≤ position → (ends : List ℕ) → after position (after taken ends) ≡ after position ends
still_after taken position within [] = refl
still_after taken position within (end ∷ ends) =
    one_more taken position end within (after taken ends) (after position ends) (still_after taken position within ends) (nat_lt taken end) refl
