-- Bytes that are written over others.
use Rattle.std.proofs.Common.{◌≡◌, ℕ, zero, suc, ◌+◌, ◌-◌, ◌<◌, ◌≤◌, ◌⊎◌, inl, inr, List, ◌++◌, length, take, drop, get_or, replicate, refl, sym, ap, ◌∙◌, arith, length-append}
use Rattle.std.proofs.lemmas.List.{length-take, length-drop, length-replicate, length-take-le, get_or-take, get_or-drop, get_or_append_left, get_or-append_right, ext_get_or, take-append-le, drop-append-le}
use Rattle.image_log.specs.Writing.{written}

pub length-written : (at : ℕ) (ws xs : List ℕ) → at + length ws ≤ length xs → length (written at ws xs) ≡ length xs
unfolding written
length-written at ws xs h =
    omega (arith, length-append (take at xs) (ws ++ drop (at + length ws) xs), length-append ws (drop (at + length ws) xs), length-take at xs, length-drop (at + length ws) xs)

-- a byte before those written
pub written_before : (at : ℕ) (ws xs : List ℕ) (i : ℕ) → at + length ws ≤ length xs → i < at → get_or (written at ws xs) i 0 ≡ get_or xs i 0
unfolding written
written_before at ws xs i h b =
    let long : length (take at xs) ≡ at = length-take-le at xs (omega arith) in
    get_or_append_left (take at xs) (ws ++ drop (at + length ws) xs) 0 i (omega (arith, long)) ∙ get_or-take at xs i 0 b

-- a byte behind them
pub written_behind : (at : ℕ) (ws xs : List ℕ) (i : ℕ) → at + length ws ≤ length xs → at + length ws ≤ i → get_or (written at ws xs) i 0 ≡ get_or xs i 0
unfolding written
written_behind at ws xs i h b =
    let long : length (take at xs) ≡ at = length-take-le at xs (omega arith) in
    let e : at + length ws + (i - at - length ws) ≡ i = omega arith in
    get_or-append_right (take at xs) (ws ++ drop (at + length ws) xs) at i 0 long (omega arith)
    ∙ get_or-append_right ws (drop (at + length ws) xs) (length ws) (i - at) 0 refl (omega arith)
    ∙ get_or-drop (at + length ws) xs (i - at - length ws) 0
    ∙ ap (λ k. get_or xs k 0) e

-- those written
pub written_here : (at : ℕ) (ws xs : List ℕ) → at + length ws ≤ length xs → take (length ws) (drop at (written at ws xs)) ≡ ws
unfolding written
written_here at ws xs h =
    let long : length (take at xs) ≡ at = length-take-le at xs (omega arith) in
    let rest : List ℕ = ws ++ drop (at + length ws) xs in
    let one : drop at (take at xs ++ rest) ≡ rest = Rattle.std.proofs.lemmas.List.drop_at (take at xs) rest at long in
    ap (λ l. take (length ws) l) one ∙ Rattle.std.proofs.lemmas.List.take_at ws (drop (at + length ws) xs) (length ws) refl

-- a part that has none of them
pub written_apart : (at : ℕ) (ws xs : List ℕ) (k m : ℕ) → at + length ws ≤ length xs → ((k + m ≤ at) ⊎ (at + length ws ≤ k))
    → take m (drop k (written at ws xs)) ≡ take m (drop k xs)
written_apart at ws xs k m h a =
    ext_get_or 0 (take m (drop k (written at ws xs))) (take m (drop k xs))
    (omega (arith, length-take m (drop k (written at ws xs)), length-take m (drop k xs), length-drop k (written at ws xs), length-drop k xs, length-written at ws xs h))
    (λ i b.
    let short : i < m = omega (arith, length-take m (drop k (written at ws xs))) in
    get_or-take m (drop k (written at ws xs)) i 0 short
    ∙ get_or-drop k (written at ws xs) i 0
    ∙ elim a [ inl l ↦ written_before at ws xs (k + i) h (omega arith) | inr r ↦ written_behind at ws xs (k + i) h (omega arith) ]
    ∙ sym (get_or-drop k xs i 0)
    ∙ sym (get_or-take m (drop k xs) i 0 short))

pub zeros_at : (n i : ℕ) → get_or (replicate {A = ℕ} n 0) i 0 ≡ 0
zeros_at zero i = refl
zeros_at (suc n) zero = refl
zeros_at (suc n) (suc i) = zeros_at n i

-- a byte of zeros that are written
pub written_zero : (at m : ℕ) (xs : List ℕ) (i : ℕ) → at + m ≤ length xs → at ≤ i → i < at + m → get_or (written at (replicate {A = ℕ} m 0) xs) i 0 ≡ 0
unfolding written
written_zero at m xs i h b l =
    let zs : List ℕ = replicate m 0 in
    let long : length (take at xs) ≡ at = length-take-le at xs (omega arith) in
    let count : length zs ≡ m = length-replicate {A = ℕ} m 0 in
    get_or-append_right (take at xs) (zs ++ drop (at + length zs) xs) at i 0 long b
    ∙ get_or_append_left zs (drop (at + length zs) xs) 0 (i - at) (omega (arith, count))
    ∙ zeros_at m (i - at)
