-- Frames at their positions modulo the length of the bytes that hold them.
use Rattle.std.proofs.Common.{◌≡◌, ℕ, zero, suc, ◌+◌, ◌*◌, ◌/◌, ◌%◌, ◌<◌, ◌≤◌, ◌⊎◌, inl, inr, Bool, true, false, ◌&&◌, ltb, leb, List, [], ◌∷◌, length, replicate, refl, sym, ap, ap₂, ◌∙◌, subst, arith}
use Rattle.std.proofs.Math.Nat.{mul-le-mul_left}
use Rattle.std.proofs.lemmas.Bool.Decides.{nat_tests}
use Rattle.std.proofs.lemmas.List.{length-replicate}
use Rattle.std.specs.List.{insert, list_any}
use Rattle.image_log.specs.Frame.{Frame, framed, end_of}
use Rattle.image_log.specs.Kept.{content, contents, Fits}
use Rattle.image_log.specs.Stored.{covers, IsBlank}
use Rattle.image_log.specs.Order.{Ordered}
use Rattle.image_log.specs.Writing.{written}
use Rattle.image_log.specs.declared.place.Place.{Place}
use Rattle.image_log.proofs.Orders.{any-put, put_within}
use Rattle.image_log.proofs.Tests.{gt_no, le_or, lt_no, or_of}
use Rattle.image_log.proofs.Writes.{written_before, written_behind, written_apart, written_zero}

-- ranges one behind the other, no further apart than the ring is long, do not meet in it
pub apart_in_ring : (n p q m k : ℕ) → 0 < n → p + m ≤ q → q + k ≤ p + n → (p % n + m ≤ q % n) ⊎ (q % n + k ≤ p % n)
apart_in_ring n p q m k some order near =
    elim (le_or (q / n) (p / n)) [
      | inl le ↦ (let more : n * (q / n) ≤ n * (p / n) = mul-le-mul_left n le in inl (omega (arith, more)))
      | inr lt ↦ (let le : suc (p / n) ≤ q / n = omega arith in
          let more : n * suc (p / n) ≤ n * (q / n) = mul-le-mul_left n le in
          inr (omega (arith, more)))
    ]

-- each frame from `low` on is apart from the one before it
pub others_behind : (n low end at : ℕ) (ws xs : List ℕ) (p m : ℕ) (ps : List Place) → 0 < n → at ≡ p % n → length ws ≤ m → at + length ws ≤ length xs
    → p + m ≤ low → end ≤ p + n → Ordered low end (contents n xs ps) → Fits n ps
    → contents n (written at ws xs) ps ≡ contents n xs ps
others_behind n low end at ws xs p m [] some is short fit order near o f = refl
others_behind n low end at ws xs p m (q ∷ ps) some is short fit order near o f =
    let apart = apart_in_ring n p q.position m q.span some (omega (arith, o.0)) (omega (arith, o.2)) in
    let out : (q.position % n + q.size ≤ at) ⊎ (at + length ws ≤ q.position % n) =
    elim apart [ inl l ↦ inr (omega (arith, is, short, l)) | inr r ↦ inl (omega (arith, is, f.0, r)) ] in
    let rest = others_behind n (end_of (content n xs q)) end at ws xs p m ps some is short fit (omega (arith, o.0)) near o.3 f.2 in
    let first : content n (written at ws xs) q ≡ content n xs q =
    ap (λ bs. framed q.position q.span bs) (written_apart at ws xs (q.position % n) q.size fit out) in
    ap₂ (λ a b. a ∷ b) first rest

-- a frame that is written leaves the others as they are
pub others_stay : (n low end at : ℕ) (ws xs : List ℕ) (p m : ℕ) (ps : List Place) (i : ℕ) → 0 < n → at ≡ p % n → length ws ≤ m → at + length ws ≤ length xs
    → i ≤ length (contents n xs ps) → end ≤ low + n → Ordered low end (insert (contents n xs ps) i (framed p m ws)) → Fits n ps
    → contents n (written at ws xs) ps ≡ contents n xs ps
others_stay n low end at ws xs p m ps zero some is short fit here near o f =
    others_behind n (p + m) end at ws xs p m ps some is short fit (omega arith) (omega (arith, o.0)) o.3 f
others_stay n low end at ws xs p m [] (suc i) some is short fit here near o f = refl
others_stay n low end at ws xs p m (q ∷ ps) (suc i) some is short fit here near o f =
    let put = put_within (q.position + q.span) end (contents n xs ps) i (framed p m ws) (omega (arith, here)) o.3 in
    let apart = apart_in_ring n q.position p q.span m some put.0 (omega (arith, put.2, near, o.0)) in
    let out : (q.position % n + q.size ≤ at) ⊎ (at + length ws ≤ q.position % n) =
    elim apart [ inl l ↦ inl (omega (arith, is, f.0, l)) | inr r ↦ inr (omega (arith, is, short, r)) ] in
    let rest = others_stay n (q.position + q.span) end at ws xs p m ps i some is short fit (omega (arith, here)) (omega (arith, near, o.0)) o.3 f.2 in
    let first : content n (written at ws xs) q ≡ content n xs q =
    ap (λ bs. framed q.position q.span bs) (written_apart at ws xs (q.position % n) q.size fit out) in
    ap₂ (λ a b. a ∷ b) first rest

-- a place that is put in
pub contents-put : (n : ℕ) (xs : List ℕ) (ps : List Place) (i : ℕ) (p : Place) → i ≤ length ps → contents n xs (insert ps i p) ≡ insert (contents n xs ps) i (content n xs p)
contents-put n xs ps zero p h = refl
contents-put n xs [] (suc i) p h = absurd (omega arith)
contents-put n xs (q ∷ ps) (suc i) p h = ap (λ l. content n xs q ∷ l) (contents-put n xs ps i p (omega arith))

pub fits-put : (n : ℕ) (ps : List Place) (i : ℕ) (p : Place) → i ≤ length ps → Fits n ps → p.size ≤ p.span → p.position % n + p.span ≤ n → Fits n (insert ps i p)
fits-put n ps zero p h f short whole = (short, whole, f)
fits-put n [] (suc i) p h f short whole = absurd (omega arith)
fits-put n (q ∷ ps) (suc i) p h f short whole = (f.0, f.1, fits-put n ps i p (omega arith) f.2 short whole)

-- what is not covered by a frame is before it or behind it
uncovered : (a n i : ℕ) → (leb a i && ltb i (a + n)) ≡ false → (i < a) ⊎ (a + n ≤ i)
uncovered a n i h = elim (le_or a i) [
  | inl le ↦ inr (let t : leb a i ≡ true = grind (arith, nat_tests) in
      let u : ltb i (a + n) ≡ false = subst (λ (b : Bool). (b && ltb i (a + n)) ≡ false) t h in grind (arith, nat_tests))
  | inr lt ↦ inl lt
]

pub blank-put : (n at : ℕ) (ws xs : List ℕ) (p m : ℕ) (fs : List Frame) (i : ℕ) → at ≡ p % n → at + length ws ≤ length xs → i ≤ length fs
    → IsBlank n fs xs → IsBlank n (insert fs i (framed p m ws)) (written at ws xs)
unfolding IsBlank
blank-put n at ws xs p m fs i is fit here blank =
    λ j none.
    let split = any-put (covers n j) fs i (framed p m ws) here none in
    let old = blank j split.1 in
    let out : (j < at) ⊎ (at + length ws ≤ j) =
    subst (λ (a : ℕ). (j < a) ⊎ (a + length ws ≤ j)) (sym is) (uncovered (p % n) (length ws) j split.0) in
    elim out [
      | inl l ↦ (written_before at ws xs j fit l ∙ old)
      | inr r ↦ (written_behind at ws xs j fit r ∙ old)
    ]

not_and : (a b : Bool) → b ≡ false → (a && b) ≡ false
not_and true b h = h
not_and false b h = refl

-- zeros over the bytes of the first frame
pub blank-drop : (n at m : ℕ) (xs : List ℕ) (f : Frame) (fs : List Frame) → at ≡ f.position % n → length f.bytes ≤ m → at + m ≤ length xs
    → IsBlank n (f ∷ fs) xs → IsBlank n fs (written at (replicate {A = ℕ} m 0) xs)
unfolding IsBlank
blank-drop n at m xs f fs is short fit blank =
    λ j none.
    let zs : List ℕ = replicate m 0 in
    let count : length zs ≡ m = length-replicate {A = ℕ} m 0 in
    let all : at + length zs ≤ length xs = omega (arith, count) in
    elim (le_or at j) [
      | inl le ↦ elim (le_or (at + m) j) [
        | inl behind ↦ (let out : covers n j f ≡ false = not_and (leb (f.position % n) j) (ltb j (f.position % n + length f.bytes)) (lt_no j (f.position % n + length f.bytes) (omega (arith, is, short))) in
            written_behind at zs xs j all (omega (arith, count)) ∙ blank j (or_of (covers n j f) (list_any (covers n j) fs) out none))
        | inr mid ↦ written_zero at m xs j fit le mid
      ]
      | inr lt ↦ (let out : covers n j f ≡ false = rw (gt_no (f.position % n) j (omega (arith, is))) refl in
          written_before at zs xs j all lt ∙ blank j (or_of (covers n j f) (list_any (covers n j) fs) out none))
    ]
