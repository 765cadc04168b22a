-- Bytes that are written into lists that are turned round.
use Rattle.std.proofs.Common.{◌≡◌, ◌≢◌, ℕ, ◌+◌, ◌*◌, ◌-◌, ◌<◌, ◌≤◌, true, false, max, List, [], ◌++◌, length, take, drop, refl, sym, ap, ap₂, ◌∙◌, arith, length-append, append_assoc}
use Rattle.std.specs.Prelude.{replicate, nat_le}
use Rattle.std.proofs.lemmas.List.{length-replicate, take_rest, take-append-drop, take-append-le, drop-append-le, take_at, drop_at, drop-drop, length-take-le, length-drop, take_all, drop_all, append-nil, drop-replicate, replicate-append-replicate}
use Rattle.std.proofs.Math.Seq.{take-add, drop-append-add}
use Rattle.term_log.specs.Buffers.{IsBase, written, turned, seen_of}
use Rattle.std.proofs.lemmas.Bool.Decides.{nat_tests}
use Rattle.term_log.specs.Turning.{in_order, IsEnd}

pub length-written : (at : ℕ) (new bytes : List ℕ) → at + length new ≤ length bytes → length (written at new bytes) ≡ length bytes
length-written at new bytes within =
    omega (arith, length-append (take at bytes) (new ++ drop (at + length new) bytes), length-append new (drop (at + length new) bytes), length-take-le at bytes (omega arith), length-drop (at + length new) bytes)

-- what is written into the front leaves the rest
pub written_front : (at : ℕ) (new a b : List ℕ) → at + length new ≤ length a → written at new (a ++ b) ≡ written at new a ++ b
written_front at new a b within =
    ap₂ (λ (x y : List ℕ). x ++ (new ++ y)) (take-append-le at a b (omega arith)) (drop-append-le (at + length new) a b within)
    ∙ ap (λ (x : List ℕ). take at a ++ x) (sym (append_assoc new (drop (at + length new) a) b))
    ∙ sym (append_assoc (take at a) (new ++ drop (at + length new) a) b)

-- what is written into the rest leaves the front
pub written_behind : (at n : ℕ) (new a b : List ℕ) → n ≡ length b + at → written n new (b ++ a) ≡ b ++ written at new a
written_behind at n new a b is =
    let front : take (length b + at) (b ++ a) ≡ b ++ take at a =
    take-add (length b) at (b ++ a) ∙ ap₂ (λ (x y : List ℕ). x ++ take at y) (take_at b a (length b) refl) (drop_at b a (length b) refl) in
    let rest : drop (length b + (at + length new)) (b ++ a) ≡ drop (at + length new) a =
    sym (drop-drop (at + length new) (length b) (b ++ a)) ∙ ap (drop (at + length new)) (drop_at b a (length b) refl) in
    let here : n + length new ≡ length b + (at + length new) = omega arith in
    ap₂ (λ (k j : ℕ). take k (b ++ a) ++ (new ++ drop j (b ++ a))) is here
    ∙ ap₂ (λ (x y : List ℕ). x ++ (new ++ y)) front rest
    ∙ append_assoc b (take at a) (new ++ drop (at + length new) a)

pub in_order_parts : (a b : List ℕ) (n : ℕ) → length a ≡ n → in_order n (a ++ b) ≡ b ++ a
in_order_parts a b n is = ap₂ (λ (x y : List ℕ). x ++ y) (drop_at a b n is) (take_at a b n is)

-- a write into the newest term, whose buffer ends at `end`
pub order_written : (end term at n : ℕ) (new bytes : List ℕ) → length bytes ≡ 3 * term → end ≤ 3 * term → at + length new ≤ end
    → n + end ≡ 3 * term + at → in_order end (written at new bytes) ≡ written n new (in_order end bytes)
order_written end term at n new bytes size within before place =
    let a : List ℕ = take end bytes in
    let b : List ℕ = drop end bytes in
    let a_size : length a ≡ end = length-take-le end bytes (omega arith) in
    let b_size : length b ≡ 3 * term - end = omega (arith, length-drop end bytes) in
    let whole : bytes ≡ a ++ b = sym (take-append-drop end bytes) in
    ap (λ (x : List ℕ). in_order end (written at new x)) whole
    ∙ ap (in_order end) (written_front at new a b (omega arith))
    ∙ in_order_parts (written at new a) b end (length-written at new a (omega arith) ∙ a_size)
    ∙ sym (written_behind at n new a b (omega arith))

pub length-in_order : (end : ℕ) (bytes : List ℕ) → end ≤ length bytes → length (in_order end bytes) ≡ length bytes
length-in_order end bytes within =
    omega (arith, length-append (drop end bytes) (take end bytes), length-drop end bytes, length-take-le end bytes within)

-- the buffer of the oldest term is that behind the newest one's
order_next : (end term : ℕ) (bytes : List ℕ) → end + term ≤ length bytes
    → in_order (end + term) bytes ≡ drop term (in_order end bytes) ++ take term (in_order end bytes)
order_next end term bytes within =
    let a : List ℕ = take end bytes in
    let b : List ℕ = drop end bytes in
    let b_size : term ≤ length b = omega (arith, length-drop end bytes) in
    ap₂ (λ (x y : List ℕ). x ++ y) (sym (drop-drop term end bytes)) (take-add end term bytes)
    ∙ sym (append_assoc (drop term b) a (take term b))
    ∙ ap₂ (λ (x y : List ℕ). x ++ y) (sym (drop-append-le term b a b_size)) (sym (take-append-le term b a b_size))

-- or that at the front, where there is none behind it
order_front : (end term : ℕ) (bytes : List ℕ) → length bytes ≤ end
    → in_order term bytes ≡ drop term (in_order end bytes) ++ take term (in_order end bytes)
order_front end term bytes is =
    let whole : in_order end bytes ≡ bytes =
    ap₂ (λ (x y : List ℕ). x ++ y) (drop_all end bytes is) (take_all end bytes is) in
    ap (in_order term) (sym whole)

-- a buffer that is not the last one has another behind it
pub end_before : (term end : ℕ) → IsEnd term end → end ≢ 3 * term → end + term ≤ 3 * term
end_before term end is other = grind (arith, nat_tests)

-- what a callee wrote at the front of the rest of a slice
pub part_written : (at n : ℕ) (new bytes out : List ℕ) → at ≤ length bytes → out ≡ new ++ drop n (take (length bytes - at) (drop at bytes)) → n ≡ length new
    → take at bytes ++ (out ++ drop (at + (length bytes - at)) bytes) ≡ written at new bytes
part_written at n new bytes out within is size =
    let end : drop (at + (length bytes - at)) bytes ≡ [] = drop_all (at + (length bytes - at)) bytes (omega arith) in
    ap₂ (λ (o e : List ℕ). take at bytes ++ (o ++ e)) (is ∙ ap (λ (r : List ℕ). new ++ drop n r) (take_rest bytes at)) end
    ∙ ap (λ (x : List ℕ). take at bytes ++ x) (append-nil (new ++ drop n (drop at bytes)))
    ∙ ap (λ (x : List ℕ). take at bytes ++ (new ++ x)) (drop-drop n at bytes)
    ∙ ap (λ (k : ℕ). take at bytes ++ (new ++ drop (at + k) bytes)) size

-- ---- parts that are lent

part_front : (at count : ℕ) (a b : List ℕ) → at + count ≤ length a → take count (drop at (a ++ b)) ≡ take count (drop at a)
part_front at count a b inside =
    ap (take count) (drop-append-le at a b (omega arith)) ∙ take-append-le count (drop at a) b (omega (arith, length-drop at a))

part_behind : (k count : ℕ) (a b : List ℕ) → take count (drop (length a + k) (a ++ b)) ≡ take count (drop k b)
part_behind k count a b = ap (take count) (sym (drop-drop k (length a) (a ++ b)) ∙ ap (drop k) (drop_at a b (length a) refl))

-- a part of a term whose buffer stands behind the newest one's
pub part_later : (end term base offset count : ℕ) (bytes : List ℕ) → IsEnd term end → IsBase term base → length bytes ≡ 3 * term
    → offset + count ≤ term → base < 3 * term - end → take count (drop (end + base + offset) bytes) ≡ take count (drop (base + offset) (in_order end bytes))
part_later end term base offset count bytes is at size inside later =
    let behind : base + term + end ≤ 3 * term = grind (arith, nat_tests) in
    let rest : length (drop end bytes) ≡ 3 * term - end = omega (arith, length-drop end bytes) in
    let place : end + base + offset ≡ end + (base + offset) = omega arith in
    ap (λ (k : ℕ). take count (drop k bytes)) place
    ∙ ap (take count) (sym (drop-drop (base + offset) end bytes))
    ∙ sym (part_front (base + offset) count (drop end bytes) (take end bytes) (omega (arith, behind, rest)))

-- a part of a term whose buffer stands before the newest one's end
pub part_before : (end term base offset count : ℕ) (bytes : List ℕ) → IsEnd term end → IsBase term base → length bytes ≡ 3 * term
    → offset + count ≤ term → 3 * term - end ≤ base → take count (drop (base - (3 * term - end) + offset) bytes) ≡ take count (drop (base + offset) (in_order end bytes))
part_before end term base offset count bytes is at size inside before =
    let fits : base + term ≤ 3 * term = grind (arith, nat_tests) in
    let high : end ≤ 3 * term = grind (arith, nat_tests) in
    let k : ℕ = base - (3 * term - end) + offset in
    let rest : length (drop end bytes) ≡ 3 * term - end = omega (arith, length-drop end bytes) in
    let front : length (take end bytes) ≡ end = length-take-le end bytes (omega arith) in
    let place : base + offset ≡ length (drop end bytes) + k = omega (arith, rest) in
    ap (λ (x : List ℕ). take count (drop k x)) (sym (take-append-drop end bytes))
    ∙ part_front k count (take end bytes) (drop end bytes) (omega (arith, front, fits, high))
    ∙ sym (part_behind k count (drop end bytes) (take end bytes))
    ∙ ap (λ (j : ℕ). take count (drop j (in_order end bytes))) (sym place)

-- ---- what is seen of the newest term

-- what is seen is as it is
part_seen : (at count m : ℕ) (bytes rest : List ℕ) → at + count ≤ m → m ≤ length bytes → take count (drop at (take m bytes ++ rest)) ≡ take count (drop at bytes)
part_seen at count m bytes rest inside within =
    let front : length (take m bytes) ≡ m = length-take-le m bytes within in
    part_front at count (take m bytes) rest (omega (arith, front))
    ∙ sym (part_front at count (take m bytes) (drop m bytes) (omega (arith, front)))
    ∙ ap (λ (x : List ℕ). take count (drop at x)) (take-append-drop m bytes)

-- the front up to the end of what was written
take_written : (n m : ℕ) (new bytes : List ℕ) → n + length new ≤ length bytes → m ≡ n + length new → take m (written n new bytes) ≡ take n bytes ++ new
take_written n m new bytes within is =
    let front : length (take n bytes) ≡ n = length-take-le n bytes (omega arith) in
    let size : length (take n bytes ++ new) ≡ m = omega (arith, front, length-append (take n bytes) new) in
    ap (take m) (sym (append_assoc (take n bytes) new (drop (n + length new) bytes)))
    ∙ take_at (take n bytes ++ new) (drop (n + length new) bytes) m size

-- what is written within what is seen leaves what is not seen
written_inside : (n m r : ℕ) (new bytes : List ℕ) → m ≤ length bytes → n + length new ≤ m
    → take m (written n new bytes) ++ replicate r 0 ≡ written n new (take m bytes ++ replicate r 0)
written_inside n m r new bytes within inside =
    let zeros : List ℕ = replicate r 0 in
    let a : List ℕ = take m bytes in
    let d : List ℕ = drop m bytes in
    let a_size : length a ≡ m = length-take-le m bytes within in
    let there : n + length new ≤ length a = omega (arith, inside, a_size) in
    ap (λ (x : List ℕ). take m (written n new x) ++ zeros) (sym (take-append-drop m bytes))
    ∙ ap (λ (x : List ℕ). take m x ++ zeros) (written_front n new a d there)
    ∙ ap (λ (x : List ℕ). x ++ zeros) (take_at (written n new a) d m (length-written n new a there ∙ a_size))
    ∙ sym (written_front n new a zeros there)

zeros_behind : (j r s : ℕ) (a : List ℕ) → length a ≤ j → r + length a ≡ s + j → drop j (a ++ replicate r 0) ≡ replicate s 0
zeros_behind j r s a past left =
    let count : j ≡ length a + (j - length a) = omega (arith, past) in
    let rest : r - (j - length a) ≡ s = omega (arith, past, left) in
    ap (λ (i : ℕ). drop i (a ++ replicate r 0)) count
    ∙ drop-append-add a (replicate r 0) (j - length a)
    ∙ drop-replicate (j - length a) r 0
    ∙ ap (λ (i : ℕ). replicate i 0) rest

-- what is written right behind what is seen, or from within it on beyond, leaves zeros behind
written_beyond : (n m r s : ℕ) (new bytes : List ℕ) → n ≤ m → m < n + length new → n + length new ≤ length bytes
    → r + m ≡ length bytes → s + (n + length new) ≡ length bytes
    → take (n + length new) (written n new bytes) ++ replicate s 0 ≡ written n new (take m bytes ++ replicate r 0)
written_beyond n m r s new bytes behind past fits r_is s_is =
    let zeros : ℕ → List ℕ = λ (k : ℕ). replicate k 0 in
    let a : List ℕ = take m bytes in
    let within : m ≤ length bytes = omega (arith, past, fits) in
    let a_size : length a ≡ m = length-take-le m bytes within in
    let front : take n (a ++ zeros r) ≡ take n bytes = part_seen 0 n m bytes (zeros r) (omega (arith, behind)) within in
    let rest : drop (n + length new) (a ++ zeros r) ≡ zeros s = zeros_behind (n + length new) r s a (omega (arith, past, a_size)) (omega (arith, a_size, r_is, s_is)) in
    ap (λ (x : List ℕ). x ++ zeros s) (take_written n (n + length new) new bytes fits refl)
    ∙ append_assoc (take n bytes) new (zeros s)
    ∙ sym (ap₂ (λ (x y : List ℕ). x ++ (new ++ y)) front rest)

-- what is written within what is seen, or right behind it, is seen in turn
pub seen_written : (n m more r s : ℕ) (new bytes : List ℕ) → n ≤ m → m ≤ length bytes → n + length new ≤ length bytes → more ≡ max m (n + length new)
    → r + m ≡ length bytes → s + more ≡ length bytes → take more (written n new bytes) ++ replicate s 0 ≡ written n new (take m bytes ++ replicate r 0)
seen_written n m more r s new bytes behind within fits more_is r_is s_is =
    let after : ℕ → ℕ → List ℕ = λ (k j : ℕ). take k (written n new bytes) ++ replicate j 0 in
    elim (nat_le (n + length new) m) as (λ t. nat_le (n + length new) m ≡ t → take more (written n new bytes) ++ replicate s 0 ≡ written n new (take m bytes ++ replicate r 0)) [
      | true ↦ λ inside.
          let there : n + length new ≤ m = grind (arith, nat_tests, inside) in
          let same : more ≡ m = omega (arith, more_is, there) in
          let rest : s ≡ r = omega (arith, same, r_is, s_is) in
          ap₂ after same rest ∙ written_inside n m r new bytes within there
      | false ↦ λ beyond.
          let past : m < n + length new = grind (arith, nat_tests, beyond) in
          let same : more ≡ n + length new = omega (arith, more_is, past) in
          ap (λ (k : ℕ). after k s) same ∙ written_beyond n m r s new bytes behind past fits r_is (omega (arith, same, s_is))
    ]
    refl

-- what is cleared right behind what is seen changes nothing of it
pub seen_cleared : (m more r s : ℕ) (bytes : List ℕ) → m ≤ more → more ≤ length bytes → r + m ≡ length bytes → s + more ≡ length bytes
    → take more (written m (replicate (more - m) 0) bytes) ++ replicate s 0 ≡ take m bytes ++ replicate r 0
seen_cleared m more r s bytes ahead within r_is s_is =
    let zeros : ℕ → List ℕ = λ (k : ℕ). replicate k 0 in
    let size : length (zeros (more - m)) ≡ more - m = length-replicate {A = ℕ} (more - m) 0 in
    let count : more - m + s ≡ r = omega (arith, ahead, r_is, s_is) in
    ap (λ (x : List ℕ). x ++ zeros s) (take_written m more (zeros (more - m)) bytes (omega (arith, size, ahead, within)) (omega (arith, size, ahead)))
    ∙ append_assoc (take m bytes) (zeros (more - m)) (zeros s)
    ∙ ap (λ (x : List ℕ). take m bytes ++ x) (replicate-append-replicate (more - m) s 0 ∙ ap zeros count)

-- of a new term nothing is seen, where the one before is seen whole
seen_turned : (term filled : ℕ) (bytes : List ℕ) → length bytes ≡ 3 * term → filled ≡ term
    → seen_of term 0 (drop term bytes ++ take term bytes) ≡ turned term (seen_of term filled bytes)
seen_turned term filled bytes size is =
    let none : term - filled ≡ 0 = omega (arith, is) in
    let whole : seen_of term filled bytes ≡ bytes =
    ap₂ (λ (x : List ℕ) (k : ℕ). x ++ replicate k 0) (take_all (2 * term + filled) bytes (omega (arith, size, is))) none
    ∙ append-nil bytes in
    let front : length (drop term bytes) ≡ 2 * term + 0 = omega (arith, size, length-drop term bytes) in
    let rest : term - 0 ≡ term = omega arith in
    ap₂ (λ (x : List ℕ) (k : ℕ). x ++ replicate k 0) (take_at (drop term bytes) (take term bytes) (2 * term + 0) front) rest
    ∙ ap (turned term) (sym whole)

-- where the newest term's buffer is the last one, the next is at the front
pub turned_to_front : (end next term filled : ℕ) (bytes : List ℕ) → length bytes ≡ 3 * term → end ≡ 3 * term → next ≡ term → filled ≡ term
    → seen_of term 0 (in_order next bytes) ≡ turned term (seen_of term filled (in_order end bytes))
turned_to_front end next term filled bytes size is next_is full =
    ap (λ (n : ℕ). seen_of term 0 (in_order n bytes)) next_is
    ∙ ap (seen_of term 0) (order_front end term bytes (omega (arith, size, is)))
    ∙ seen_turned term filled (in_order end bytes) (length-in_order end bytes (omega (arith, size, is)) ∙ size) full

-- else it is the one behind it
pub turned_to_next : (end next term filled : ℕ) (bytes : List ℕ) → length bytes ≡ 3 * term → end + term ≤ 3 * term → next ≡ end + term → filled ≡ term
    → seen_of term 0 (in_order next bytes) ≡ turned term (seen_of term filled (in_order end bytes))
turned_to_next end next term filled bytes size within next_is full =
    ap (λ (n : ℕ). seen_of term 0 (in_order n bytes)) next_is
    ∙ ap (seen_of term 0) (order_next end term bytes (omega (arith, size, within)))
    ∙ seen_turned term filled (in_order end bytes) (length-in_order end bytes (omega (arith, size, within)) ∙ size) full

-- a part of what is seen
pub part_filled : (end term base offset count filled : ℕ) (bytes : List ℕ) → length bytes ≡ 3 * term → end ≤ 3 * term → filled ≤ term
    → base + offset + count ≤ 2 * term + filled
    → take count (drop (base + offset) (in_order end bytes)) ≡ take count (drop (base + offset) (seen_of term filled (in_order end bytes)))
part_filled end term base offset count filled bytes size high most inside =
    let whole = length-in_order end bytes (omega (arith, size, high)) in
    sym (part_seen (base + offset) count (2 * term + filled) (in_order end bytes) (replicate (term - filled) 0) inside (omega (arith, whole, size, most)))
