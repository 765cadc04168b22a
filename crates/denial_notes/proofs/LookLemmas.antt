use Rattle.std.proofs.Common.{◌≡◌, ◌++◌, ◌-◌, ◌∷◌, [], ap, arith, drop, length, min, refl, suc, sym, take, zero, List, ℕ, ◌∙◌}
use Rattle.std.proofs.Math.Seq.{take-length}
use Rattle.std.proofs.lemmas.List.{length-drop}
use Rattle.denial_notes.specs.Looks.{IsNew}

-- what is left of two lists after so many
drop_both : {D : Type 0} (before last : List D) (seen : ℕ) → drop seen (before ++ last) ≡ drop seen before ++ drop (seen - length before) last
drop_both [] last zero = refl
drop_both [] last (suc n) =
    let same : suc n ≡ suc n - 0 = omega arith in
    ap (λ count. drop count last) same
drop_both (one ∷ before) last zero =
    let none : 0 ≡ 0 - length (one ∷ before) = omega arith in
    ap (λ count. (one ∷ before) ++ drop count last) none
drop_both (one ∷ before) last (suc n) =
    let same : n - length before ≡ suc n - length (one ∷ before) = omega arith in
    drop_both before last n ∙ ap (λ count. drop n before ++ drop count last) same

-- no more is left out than there is
drop_within : {D : Type 0} (kept : List D) (count : ℕ) → drop (min count (length kept)) kept ≡ drop count kept
drop_within [] zero = refl
drop_within {D} [] (suc n) =
    let none : min (suc n) 0 ≡ 0 = omega arith in
    ap (λ many. drop {A = D} many []) none
drop_within (one ∷ kept) zero =
    let none : min 0 (length (one ∷ kept)) ≡ 0 = omega arith in
    ap (λ many. drop many (one ∷ kept)) none
drop_within (one ∷ kept) (suc n) =
    let less : min (suc n) (length (one ∷ kept)) ≡ suc (min n (length kept)) = omega arith in
    ap (λ many. drop many (one ∷ kept)) less ∙ drop_within kept n

-- a list up to its end
whole : {D : Type 0} (kept : List D) (count : ℕ) → take (length kept - count) (drop count kept) ≡ drop count kept
whole kept count = ap (λ many. take many (drop count kept)) (sym (length-drop count kept)) ∙ take-length (drop count kept)

-- what is new of an audit that dropped so many
pub new_of_all : {D : Type 0} (before kept : List D) (seen dropped skip passed : ℕ)
    → skip ≡ min (seen - dropped) (length kept) → passed ≡ dropped - seen → length before ≡ dropped
    → IsNew before kept seen (take (length kept - skip) (drop skip kept)) passed
new_of_all before kept seen dropped skip passed skip_is passed_is count = (
  drop seen before,
  drop_both before kept seen ∙ (ap (λ many. drop seen before ++ drop (seen - many) kept) count
      ∙ ap (λ rest. drop seen before ++ rest)
      (sym (drop_within kept (seen - dropped)) ∙ (ap (λ many. drop many kept) (sym skip_is) ∙ sym (whole kept skip)))),
  length-drop seen before ∙ (ap (λ many. many - seen) count ∙ sym passed_is),
)
