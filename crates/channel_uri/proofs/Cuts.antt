-- Texts that are cut at a byte.
use Rattle.std.proofs.Common.{◌≡◌, ℕ, zero, suc, ◌+◌, ◌<◌, ◌==◌, Bool, true, false, not, cond, List, [], ◌∷◌, ◌++◌, Option, Some, None, refl, ap, subst, ◌∙◌, length, take, drop, get_or, nat_lt, length-append, arith}
use Rattle.std.specs.List.{AllByRecursion, slice_split, onto_first, prefix_len, position_or_len, before_first, after_first}
use Rattle.std.proofs.Math.Numerals.{one-add}
use Rattle.std.proofs.Math.Seq.{take-append_seam, drop-append-add}
use Rattle.std.proofs.lemmas.Bool.{ltb-true, ltb-false, lt-ltb, eqb-true, eq-eqb}
use Rattle.std.proofs.lemmas.List.Sums.{passes_at_first, split_at_first}
use Rattle.std.proofs.lemmas.List.{take_all}
use Rattle.channel_uri.specs.Syntax.{cut}

-- the text has no such byte
abbrev pub Lacks : ℕ → List ℕ → Type 0
Lacks mark text = AllByRecursion (λ b. (b == mark) ≡ false) text

pub lacks_parts : (mark : ℕ) (front : List ℕ) (b : ℕ) (back : List ℕ) → Lacks mark (front ++ b ∷ back) → Lacks mark front × Lacks mark back
lacks_parts mark [] b back lacks = (tt, lacks.1)
lacks_parts mark (x ∷ xs) b back lacks =
    let parts = lacks_parts mark xs b back lacks.1 in
    ((lacks.0, parts.0), parts.1)

pub lacks_append : (mark : ℕ) (front back : List ℕ) → Lacks mark front → Lacks mark back → Lacks mark (front ++ back)
lacks_append mark [] back first second = second
lacks_append mark (x ∷ xs) back first second = (first.0, lacks_append mark xs back first.1 second)

pub lacks_drop : (mark n : ℕ) (text : List ℕ) → Lacks mark text → Lacks mark (drop n text)
lacks_drop mark zero text lacks = lacks
lacks_drop mark (suc n) [] lacks = tt
lacks_drop mark (suc n) (x ∷ xs) lacks = lacks_drop mark n xs lacks.1

position_at : (mark : ℕ) (front back : List ℕ) → Lacks mark front → position_or_len (λ b. b == mark) (front ++ mark ∷ back) ≡ length front
position_at mark [] back lacks = rw (eq-eqb mark mark refl) refl
position_at mark (x ∷ xs) back lacks = rw (lacks.0) (omega (arith, position_at mark xs back lacks.1))

position_none : (mark : ℕ) (text : List ℕ) → Lacks mark text → position_or_len (λ b. b == mark) text ≡ length text
position_none mark [] lacks = refl
position_none mark (x ∷ xs) lacks = rw (lacks.0) (omega (arith, position_none mark xs lacks.1))

-- what stands before and behind the first such byte
pub cut_at : (mark : ℕ) (front back : List ℕ) → Lacks mark front → cut mark (front ++ mark ∷ back) ≡ Some (front, back)
cut_at mark front back lacks =
    let here = position_at mark front back lacks in
    let inside : nat_lt (length front) (length (front ++ mark ∷ back)) ≡ true = lt-ltb _ _ (omega (arith, length-append front (mark ∷ back))) in
    rw (here, inside, take-append_seam front (mark ∷ back), drop-append-add front (mark ∷ back) 1) refl

pub cut_none : (mark : ℕ) (text : List ℕ) → Lacks mark text → cut mark text ≡ None
cut_none mark text lacks =
    let outside : nat_lt (length text) (length text) ≡ false = grind arith in
    rw (position_none mark text lacks, outside) refl

lacks_before_from : (mark x : ℕ) (xs : List ℕ) (b : Bool) → (x == mark) ≡ b → Lacks mark (take (prefix_len (λ c. not (c == mark)) xs) xs) →
    Lacks mark (take (cond (not b) (1 + prefix_len (λ c. not (c == mark)) xs) 0) (x ∷ xs))
lacks_before_from mark x xs true is later = tt
lacks_before_from mark x xs false is later = rw (one-add (prefix_len (λ c. not (c == mark)) xs)) (is, later)

lacks_before : (mark : ℕ) (text : List ℕ) → Lacks mark (take (prefix_len (λ c. not (c == mark)) text) text)
lacks_before mark [] = tt
lacks_before mark (x ∷ xs) = lacks_before_from mark x xs (x == mark) refl (lacks_before mark xs)

-- a text that was cut is put together again
pub record Parts (mark : ℕ) (text front back : List ℕ) : Type 0 where
  pub whole : text ≡ front ++ mark ∷ back
  pub first : Lacks mark front

cut_from : (mark : ℕ) (text front back : List ℕ) (b : Bool) → nat_lt (position_or_len (λ c. c == mark) text) (length text) ≡ b →
    cond {A = Option (List ℕ × List ℕ)} b (Some (before_first (λ c. c == mark) text, after_first (λ c. c == mark) text)) None ≡ Some (front, back) → Parts mark text front back
cut_from mark text front back false is e = absurd cc
cut_from mark text front back true is e =
    let inside : position_or_len (λ c. c == mark) text < length text = ltb-true _ _ is in
    let here : get_or text (position_or_len (λ c. c == mark) text) 0 ≡ mark = eqb-true _ _ (passes_at_first (λ c. c == mark) text 0 inside) in
    let sides : List ℕ × List ℕ = (before_first (λ c. c == mark) text, after_first (λ c. c == mark) text) in
    let same : sides ≡ (front, back) = cc in
    let front_is : before_first (λ c. c == mark) text ≡ front = ap (λ both. both.0) same in
    let back_is : after_first (λ c. c == mark) text ≡ back = ap (λ both. both.1) same in
    record {
      whole = split_at_first (λ c. c == mark) text 0 inside ∙ (rw (here, front_is, back_is) refl);
      first = rw (← front_is) (lacks_before mark text);
    }

pub cut_parts : (mark : ℕ) (text front back : List ℕ) → cut mark text ≡ Some (front, back) → Parts mark text front back
cut_parts mark text front back e = cut_from mark text front back _ refl e

cut_none_from : (mark : ℕ) (text : List ℕ) (sides : List ℕ × List ℕ) (b : Bool) → nat_lt (position_or_len (λ c. c == mark) text) (length text) ≡ b →
    cond {A = Option (List ℕ × List ℕ)} b (Some sides) None ≡ None → Lacks mark text
cut_none_from mark text sides true is e = absurd cc
cut_none_from mark text sides false is e =
    subst (Lacks mark) (take_all (position_or_len (λ c. c == mark) text) text (ltb-false _ _ is)) (lacks_before mark text)

-- a text that can't be cut has no such byte
pub cut_lacks : (mark : ℕ) (text : List ℕ) → cut mark text ≡ None → Lacks mark text
cut_lacks mark text e = cut_none_from mark text _ _ refl e

-- ---- all pieces

onto_lacks : (mark x : ℕ) (b : Bool) (parts : List (List ℕ)) → (x == mark) ≡ b → AllByRecursion (Lacks mark) parts →
    AllByRecursion (Lacks mark) (cond b ([] ∷ parts) (onto_first x parts))
onto_lacks mark x true parts is lack = (tt, lack)
onto_lacks mark x false [] is lack = ((is, tt), tt)
onto_lacks mark x false (part ∷ parts) is lack = ((is, lack.0), lack.1)

pub split_lacks : (mark : ℕ) (text : List ℕ) → AllByRecursion (Lacks mark) (slice_split (λ b. b == mark) text)
split_lacks mark [] = (tt, tt)
split_lacks mark (x ∷ xs) = onto_lacks mark x (x == mark) (slice_split (λ b. b == mark) xs) refl (split_lacks mark xs)

abbrev pub pieces_size : List (List ℕ) → ℕ
pieces_size [] = 0
pieces_size (piece ∷ pieces) = length piece + 1 + pieces_size pieces

onto_size : (x n : ℕ) (b : Bool) (parts : List (List ℕ)) → pieces_size parts ≡ n + 1 →
    pieces_size (cond b ([] ∷ parts) (onto_first x parts)) ≡ n + 2
onto_size x n true parts is = omega (arith, is)
onto_size x n false [] is = omega (arith, is)
onto_size x n false (part ∷ parts) is = omega (arith, is)

pub split_size : (mark : ℕ) (text : List ℕ) → pieces_size (slice_split (λ b. b == mark) text) ≡ length text + 1
split_size mark [] = refl
split_size mark (x ∷ xs) =
    omega (arith, onto_size x (length xs) (x == mark) (slice_split (λ b. b == mark) xs) (split_size mark xs))
