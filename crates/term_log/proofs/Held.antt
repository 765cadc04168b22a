-- Which bytes of a log are those of its frames from a position on.
use Rattle.std.proofs.Common.{◌≡◌, ℕ, zero, suc, ◌+◌, ◌*◌, ◌-◌, ◌/◌, ◌%◌, ◌<◌, ◌≤◌, true, false, List, [], ◌∷◌, ◌++◌, length, take, drop, min, refl, sym, ap, ap₂, ◌∙◌, subst, arith, length-append}
use Rattle.std.specs.Prelude.{replicate, nat_le}
use Rattle.std.proofs.lemmas.Bool.Decides.{nat_tests}
use Rattle.std.proofs.lemmas.List.{length-drop, length-take-le, take_all, take-append-le, drop-append-le, length-replicate}
use Rattle.std.proofs.lemmas.Nat.{div-add-mod', mul-le}
use Rattle.std.proofs.Math.Seq.{drop-append-add}
use Rattle.term_log.specs.declared.ident.Ident.{Ident}
use Rattle.term_log.specs.Ident.{IsIdent}
use Rattle.term_log.specs.Buffers.{IsBase}
use Rattle.term_log.specs.Frames.{Frame, span, total, bytes_of, run_of, IsRun}
use Rattle.term_log.specs.Kept.{Kept, StandsFor, offset_of, rest_of}
use Rattle.term_log.specs.Reading.{Given, frames_in, GivesFrom}
use Rattle.term_log.proofs.Stands.{length-bytes}
use Rattle.term_log.proofs.Walks.{left_of, term_bytes, reads_back}

-- ---- frames, front and rest

pub run_front : (i : Ident) (position : ℕ) (fs gs : List Frame) → IsRun i position (fs ++ gs) → IsRun i position fs
run_front i position [] gs run = tt
run_front i position (f ∷ fs) gs run = (run.0, run_front i (position + span f) fs gs run.1)

pub run_rest : (i : Ident) (position : ℕ) (fs gs : List Frame) → IsRun i position (fs ++ gs) → IsRun i (position + total fs) gs
run_rest i position [] gs run =
    let here : position ≡ position + 0 = omega arith in
    subst (λ (p : ℕ). IsRun i p gs) here run
run_rest i position (f ∷ fs) gs run =
    let here : position + span f + total fs ≡ position + (span f + total fs) = omega arith in
    subst (λ (p : ℕ). IsRun i p gs) here (run_rest i (position + span f) fs gs run.1)

pub total_both : (fs gs : List Frame) → total (fs ++ gs) ≡ total fs + total gs
total_both [] gs = omega arith
total_both (f ∷ fs) gs = omega (arith, total_both fs gs)

length_run : (i : Ident) (position : ℕ) (fs : List Frame) → IsRun i position fs → length (run_of i position fs) ≡ total fs
length_run i position [] run = refl
length_run i position (f ∷ fs) run =
    omega (arith, length-append (bytes_of i position f) (run_of i (position + span f) fs), length-bytes i position f run.0, length_run i (position + span f) fs run.1)

run_drop : (i : Ident) (position : ℕ) (fs gs : List Frame) → IsRun i position fs → drop (total fs) (run_of i position (fs ++ gs)) ≡ run_of i (position + total fs) gs
run_drop i position [] gs run =
    let here : position ≡ position + 0 = omega arith in
    ap (λ (p : ℕ). run_of i p gs) here
run_drop i position (f ∷ fs) gs run =
    let here : position + span f + total fs ≡ position + (span f + total fs) = omega arith in
    let size = length-bytes i position f run.0 in
    let count : span f + total fs ≡ length (bytes_of i position f) + total fs = omega (arith, size) in
    ap (λ (k : ℕ). drop k (run_of i position (f ∷ (fs ++ gs)))) count
    ∙ drop-append-add (bytes_of i position f) (run_of i (position + span f) (fs ++ gs)) (total fs)
    ∙ run_drop i (position + span f) fs gs run.1
    ∙ ap (λ (p : ℕ). run_of i p gs) here

-- ---- what is held

held_from : (k : Kept) (before after : List Frame) (position at : ℕ) → (s : StandsFor k (before ++ after)) → position ≡ k.ident.start + total before
    → at + k.tail ≡ position + 2 * k.ident.term_length + offset_of k → drop at s.held ≡ run_of k.ident position after
held_from k before after position at s is place =
    let i : Ident = k.ident in
    let empty : ℕ = 2 * i.term_length + i.start % i.term_length in
    let front : List ℕ = replicate empty 0 in
    let run : List ℕ = run_of i i.start (before ++ after) in
    let size = s.size in
    let tail = s.tail in
    let length_front : length front ≡ empty = length-replicate {A = ℕ} empty 0 in
    let length_all : length front + length run ≡ length s.gone + length s.held =
    sym (length-append front run) ∙ ap (length {A = ℕ}) s.all ∙ length-append s.gone s.held in
    let frames = length_run i i.start (before ++ after) s.sound in
    let count : length s.gone + at ≡ length front + total before = omega arith in
    sym (drop-append-add s.gone s.held at)
    ∙ ap₂ (λ (n : ℕ) (b : List ℕ). drop n b) count (sym s.all)
    ∙ drop-append-add front run (total before)
    ∙ run_drop i i.start before after (run_front i i.start before after s.sound)
    ∙ ap (λ (p : ℕ). run_of i p after) (sym is)

-- taking more than there is
take_enough : (n m : ℕ) (xs : List ℕ) → length xs ≤ n → length xs ≤ m → take n xs ≡ take m xs
take_enough n m xs h g = take_all n xs h ∙ sym (take_all m xs g)

-- the bytes of a term from a position on, up to the term's end or to the tail
pub lent : (k : Kept) (before after : List Frame) (position at count : ℕ) → StandsFor k (before ++ after) → position ≡ k.ident.start + total before
    → at + k.tail ≡ position + 2 * k.ident.term_length + offset_of k → count + position ≡ min k.tail (position - position % k.ident.term_length + k.ident.term_length)
    → (take count (drop at k.buffers.bytes) ≡ term_bytes k.ident position after) × (length (take count (drop at k.buffers.bytes)) ≡ count)
lent k before after position at count s is place ends =
    let i : Ident = k.ident in
    let term : ℕ = i.term_length in
    let some = s.some in
    let size = s.size in
    let tail = s.tail in
    let held : List ℕ = s.held in
    let run : List ℕ = run_of i position after in
    let split = div-add-mod' position term in
    let both = total_both before after in
    let after_run = subst (λ (p : ℕ). IsRun i p after) (sym is) (run_rest i i.start before after s.sound) in
    let frames : length run ≡ total after = length_run i position after after_run in
    let below : position % term < term = omega arith in
    let room : at + count ≤ length held = omega arith in
    let from : take count (drop at k.buffers.bytes) ≡ take count run =
    ap (λ (b : List ℕ). take count (drop at b)) s.bytes
    ∙ ap (take count) (drop-append-le at held (replicate (rest_of k) 0) (omega arith))
    ∙ take-append-le count (drop at held) (replicate (rest_of k) 0) (omega (arith, length-drop at held))
    ∙ ap (take count) (held_from k before after position at s is place) in
    let whole : take count run ≡ take (left_of i position) run =
    elim (nat_le k.tail (position - position % term + term)) as (λ b. nat_le k.tail (position - position % term + term) ≡ b → take count run ≡ take (left_of i position) run) [
      | true ↦ λ last.
          let near : k.tail ≤ position - position % term + term = grind (arith, nat_tests, last) in
          take_enough count (left_of i position) run (omega arith) (omega arith)
      | false ↦ λ full.
          let far : position - position % term + term < k.tail = grind (arith, nat_tests, full) in
          let same : count ≡ left_of i position = omega arith in
          ap (λ (n : ℕ). take n run) same
    ]
    refl in
    (from ∙ whole, omega (arith, ap (length {A = ℕ}) from, length-take-le count run (omega arith)))

-- ---- where a position stands among the bytes

base_near : (behind term_number term : ℕ) → behind ≤ 2 → IsBase term (term_number * term + 2 * term - (term_number + behind) * term)
base_near zero b term near =
    let same : (b + 0) * term ≡ b * term = omega arith in
    let is : b * term + 2 * term - (b + 0) * term ≡ 2 * term = omega arith in
    grind (arith, nat_tests, is)
base_near (suc zero) b term near =
    let same : (b + 1) * term ≡ b * term + term = omega arith in
    let is : b * term + 2 * term - (b + 1) * term ≡ term = omega arith in
    grind (arith, nat_tests, is)
base_near (suc (suc zero)) b term near =
    let same : (b + 2) * term ≡ b * term + 2 * term = omega arith in
    let is : b * term + 2 * term - (b + 2) * term ≡ 0 = omega arith in
    grind (arith, nat_tests, is)
base_near (suc (suc (suc n))) b term near = absurd (omega arith)

-- a later position is not in an earlier term
pub div_up : (a b term : ℕ) → 0 < term → a ≤ b → a / term ≤ b / term
div_up a b term some up =
    let x = div-add-mod' a term in
    let y = div-add-mod' b term in
    elim (nat_le (a / term) (b / term)) as (λ t. nat_le (a / term) (b / term) ≡ t → a / term ≤ b / term) [
      | true ↦ λ is. grind (arith, nat_tests, is)
      | false ↦ λ is.
          let over : b / term + 1 ≤ a / term = grind (arith, nat_tests, is) in
          let more : (b / term + 1) * term ≡ b / term * term + term = omega arith in
          let less : (b / term + 1) * term ≤ a / term * term = mul-le (b / term + 1) term (a / term) term over (omega arith) in
          let below : b % term < term = omega arith in
          absurd (omega arith)
    ]
    refl

-- the term of a position that is held is at most two before that of the tail
pub term_near : (tail position term : ℕ) → 0 < term → (tail / term - 2) * term ≤ position → tail / term ≤ position / term + 2
term_near tail position term some held =
    let y = div-add-mod' position term in
    elim (nat_le (tail / term) (position / term + 2)) as (λ t. nat_le (tail / term) (position / term + 2) ≡ t → tail / term ≤ position / term + 2) [
      | true ↦ λ is. grind (arith, nat_tests, is)
      | false ↦ λ is.
          let over : position / term + 1 ≤ tail / term - 2 = grind (arith, nat_tests, is) in
          let more : (position / term + 1) * term ≡ position / term * term + term = omega arith in
          let less : (position / term + 1) * term ≤ (tail / term - 2) * term = mul-le (position / term + 1) term (tail / term - 2) term over (omega arith) in
          let below : position % term < term = omega arith in
          absurd (omega arith)
    ]
    refl

pub base_is : (tail position term base : ℕ) → 0 < term → (tail / term - 2) * term ≤ position → position ≤ tail
    → base ≡ position - position % term + 2 * term - (tail - tail % term) → IsBase term base
base_is tail position term base some held before is =
    let x = div-add-mod' tail term in
    let y = div-add-mod' position term in
    let near = term_near tail position term some held in
    let up = div_up position tail term some before in
    let behind : ℕ = tail / term - position / term in
    let number : tail / term ≡ position / term + behind = omega arith in
    let same : tail / term * term ≡ (position / term + behind) * term = ap (λ (n : ℕ). n * term) number in
    let here : base ≡ position / term * term + 2 * term - (position / term + behind) * term = omega arith in
    subst (IsBase term) (sym here) (base_near behind (position / term) term (omega arith))

-- ---- what is given

pub gives_from : (k : Kept) (position budget at count end : ℕ) (bytes : List ℕ) (left : List Given) → IsIdent k.ident
    → at + k.tail ≡ position + 2 * k.ident.term_length + offset_of k → count + position ≡ min k.tail (position - position % k.ident.term_length + k.ident.term_length)
    → end ≡ position + count → bytes ≡ take count (drop at k.buffers.bytes) → left ≡ frames_in (length bytes) end budget bytes
    → GivesFrom k position budget left
gives_from k position budget at count end bytes left sound place ends behind bytes_are left_is =
    record {
      on = λ before after s is.
          let i : Ident = k.ident in
          let here = lent k before after position at count s is place ends in
          let run = subst (λ (p : ℕ). IsRun i p after) (sym is) (run_rest i i.start before after s.sound) in
          let size : length bytes ≡ count = ap (length {A = ℕ}) bytes_are ∙ here.1 in
          left_is ∙ reads_back i position (length bytes) end budget after bytes sound run (bytes_are ∙ here.0) (omega arith) (omega arith);
    }
