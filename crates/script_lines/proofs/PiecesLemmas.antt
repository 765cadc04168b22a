-- The first piece of a text.
use Rattle.std.proofs.Common.{◌≡◌, ℕ, ◌+◌, ◌<◌, ◌≤◌, ◌==◌, nat_lt, Bool, true, false, cond, not, List, [], ◌∷◌, Some, None, length, take, drop, refl, arith}
use Rattle.std.specs.List.{onto_first, position_or_len, position, before_first, after_first}
use Rattle.std.proofs.lemmas.Bool.Decides.{nat_tests}
use Rattle.std.proofs.lemmas.List.Splits.{slice_split_first, slice_split_none, length-slice_split}
use Rattle.std.proofs.lemmas.List.Sums.{fails_before_first, prefix_len-le-length, count_by-le-length}
use Rattle.std.proofs.lemmas.Option.{cond_some}
use Rattle.script_lines.specs.Pieces.{pieces}

-- a mark ends the first piece
pub pieces-cut : (mark : ℕ) (text : List ℕ) → position_or_len (λ b. b == mark) text < length text →
    pieces mark text ≡ before_first (λ b. b == mark) text ∷ pieces mark (after_first (λ b. b == mark) text)
pieces-cut mark text h = slice_split_first (λ b. b == mark) text 0 h

-- a text without the mark is one piece
pub pieces-whole : (mark : ℕ) (text : List ℕ) → position_or_len (λ b. b == mark) text ≡ length text →
    pieces mark text ≡ text ∷ []
pieces-whole mark text h =
    slice_split_none (λ b. b == mark) text (λ k d lt. fails_before_first (λ b. b == mark) text k d (omega arith))

-- the same of the place of the first mark
pub pieces-at : (mark : ℕ) (text : List ℕ) (place : ℕ) → position (λ b. b == mark) text ≡ Some place →
    pieces mark text ≡ take place text ∷ pieces mark (drop (place + 1) text)
pieces-at mark text place found =
    let first = cond_some (nat_lt (position_or_len (λ b. b == mark) text) (length text)) _ _ found in
    let within : position_or_len (λ b. b == mark) text < length text = grind (arith, nat_tests) in
    rw (← first.1) (pieces-cut mark text within)

none-cond : {A : Type 0} (b : Bool) (x : A) → cond b (Some x) None ≡ None → b ≡ false
none-cond true x e = cc
none-cond false x e = refl

pub pieces-nowhere : (mark : ℕ) (text : List ℕ) → position (λ b. b == mark) text ≡ None →
    pieces mark text ≡ text ∷ []
pieces-nowhere mark text missed =
    let past = none-cond (nat_lt (position_or_len (λ b. b == mark) text) (length text)) _ missed in
    let most = prefix_len-le-length (λ b. not (b == mark)) text in
    pieces-whole mark text (grind (arith, nat_tests))

-- there is a first piece
pub record HasFirst (parts : List (List ℕ)) : Type 0 where
  pub first : List ℕ
  pub rest : List (List ℕ)
  pub is : parts ≡ first ∷ rest

HasFirst-onto : (x : ℕ) (parts : List (List ℕ)) → HasFirst (onto_first x parts)
HasFirst-onto x [] = record { first = _; rest = _; is = refl }
HasFirst-onto x (part ∷ parts) = record { first = _; rest = _; is = refl }

HasFirst-cond : (b : Bool) (xs ys : List (List ℕ)) → HasFirst xs → HasFirst ys → HasFirst (cond b xs ys)
HasFirst-cond true xs ys h k = h
HasFirst-cond false xs ys h k = k

pub HasFirst-pieces : (mark : ℕ) (text : List ℕ) → HasFirst (pieces mark text)
HasFirst-pieces mark [] = record { first = []; rest = []; is = refl }
HasFirst-pieces mark (x ∷ xs) =
    HasFirst-cond (x == mark) _ _ (record { first = []; rest = pieces mark xs; is = refl }) (HasFirst-onto x (pieces mark xs))

-- there is one piece more than there are marks
pub length-pieces-le : (mark : ℕ) (text : List ℕ) → length (pieces mark text) ≤ length text + 1
length-pieces-le mark text =
    let counted = length-slice_split (λ b. b == mark) text in
    let most = count_by-le-length (λ b. b == mark) text in
    omega arith
